-- The goals of `laws::shown_world_laws` that no tactic closes.
use Rattle.nr_state.proofs.ShownWorlds.{world_shown, worlds_saved, world_told, worlds_told}
use Rattle.nr_state.proofs.laws.shown_world_laws.Goals as goal

pub returns-clause-here : goal.returns-clause-here
returns-clause-here g c = world_shown _ _ _ _ c.state.view_is c.state.invariant

pub returns-clause-marks : goal.returns-clause-marks
returns-clause-marks g c = worlds_saved _ _ _ _ c.state.view_is c.state.invariant

pub returns-clause-told : goal.returns-clause-told
returns-clause-told g c = world_told _ _ _ _ c.state.view_is c.state.invariant c.laid_laws.ensures.here

pub returns-clause-marks_told : goal.returns-clause-marks_told
returns-clause-marks_told g c = worlds_told _ _ _ _ c.state.view_is c.state.invariant c.laid_laws.ensures.marks
