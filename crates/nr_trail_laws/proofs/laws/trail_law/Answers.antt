-- The goals of `laws::trail_law` that no tactic closes.
use Rattle.nr_wasmexec.specs.Machine.{rules_of, runtime}
use Rattle.nr_trail_laws.proofs.Moves.{trail_stands}
use Rattle.nr_trail_laws.proofs.laws.trail_law.Goals as goal

pub returns : goal.returns
returns g c = λ p l s guest f n sig body e. trail_stands (rules_of g.H.Host.meaning p l) (runtime s guest) f n sig body e
