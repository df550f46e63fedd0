-- The goals of `merging::fork` that no tactic closes.
use Rattle.std.proofs.Common.{ap, ◌∙◌}
use Rattle.std.proofs.Common.{List, ℕ}
use Rattle.nr_trienodes.specs.Tries.{stripped}
use Rattle.nr_trienodes.specs.Turns.{left}
use Rattle.nr_trienodes.proofs.Sets.{stripped_self}
use Rattle.nr_trienodes.proofs.merging.fork.Goals as goal

pub returns-in_ok-sprout-in-Some-clause-ends : goal.returns-in_ok-sprout-in-Some-clause-ends
returns-in_ok-sprout-in-Some-clause-ends c =
    ap (λ (p : List ℕ). stripped p (left c.args.key.now c.sprout.new.way.at)) c.in_ok-sprout-in-Some.ensures.ends ∙ stripped_self (left c.args.key.now c.sprout.new.way.at)
