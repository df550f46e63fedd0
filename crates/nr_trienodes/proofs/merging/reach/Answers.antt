-- The goals of `merging::reach` that no tactic closes.
use Rattle.std.proofs.Common.{ap, ◌∙◌, List, ℕ}
use Rattle.nr_trienodes.specs.Tries.{stripped}
use Rattle.nr_trienodes.specs.Turns.{left}
use Rattle.nr_trienodes.proofs.Sets.{stripped_self}
use Rattle.nr_trienodes.proofs.merging.reach.Goals as goal

pub returns-then-is_bare-clause-ends : goal.returns-then-is_bare-clause-ends
returns-then-is_bare-clause-ends c =
    ap (λ (p : List ℕ). stripped p (left c.args.key.now c.regrow.new.way.at)) c.in_ok-regrow.ensures.part ∙ stripped_self (left c.args.key.now c.regrow.new.way.at)

pub returns-in_ok-sprout-in-Sprout-clause-ends : goal.returns-in_ok-sprout-in-Sprout-clause-ends
returns-in_ok-sprout-in-Sprout-clause-ends c =
    ap (λ (p : List ℕ). stripped p (left c.args.key.now c.sprout.new.way.at)) c.in_ok-sprout-in-Sprout.ensures.ends ∙ stripped_self (left c.args.key.now c.sprout.new.way.at)
