-- The goals of `laws::action_laws` that no tactic closes.
use Rattle.nr_actions.proofs.Doing.{act_done}
use Rattle.nr_actions.proofs.Failing.{failure_burns}
use Rattle.nr_actions.proofs.Standing.{has_room}
use Rattle.nr_actions.proofs.laws.action_laws.Goals as goal

pub returns-clause-done : goal.returns-clause-done
returns-clause-done c = λ config call w f last a after g caller valid within e.
    act_done config (c.valid_world_laws.ensures.kept config) (c.token_laws.ensures config) w valid f call caller last a after g within e

pub returns-clause-room : goal.returns-clause-room
returns-clause-room c = λ config w id deposit within. has_room config (c.token_laws.ensures config) w id deposit within

pub returns-clause-failed : goal.returns-clause-failed
returns-clause-failed c = λ config call w f last a kind part burnt caller e. failure_burns config call caller w f last a kind part burnt e
