-- The goals of `laws::look_law` that no tactic closes.
use Rattle.nr_exchange.proofs.Looked.{tries_look, marks_look}
use Rattle.nr_exchange.proofs.laws.look_law.Goals as goal

pub returns : goal.returns
returns g c = record { tries = tries_look; marks = marks_look }
