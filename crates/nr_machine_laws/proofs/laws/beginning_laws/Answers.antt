-- The goals of `laws::beginning_laws` that no tactic closes.
use Rattle.nr_machine_laws.proofs.Constants.{spelled}
use Rattle.nr_machine_laws.proofs.Machines.{first}
use Rattle.nr_machine_laws.proofs.laws.beginning_laws.Goals as goal

pub returns-clause-constants : goal.returns-clause-constants
returns-clause-constants c = spelled

pub returns-clause-first : goal.returns-clause-first
returns-clause-first c = first
