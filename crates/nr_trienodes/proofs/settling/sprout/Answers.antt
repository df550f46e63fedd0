-- The goals of `settling::sprout` that no tactic closes.
use Rattle.std.proofs.Common.{ℕ, List, subst}
use Rattle.nr_trienodes.specs.Turns.{Sprouts}
use Rattle.nr_trienodes.proofs.Settled.{adds_sprouts}
use Rattle.nr_trienodes.proofs.settling.sprout.Goals as goal

pub returns-clause-leaf : goal.returns-clause-leaf
returns-clause-leaf c = subst (λ (k : List ℕ). Sprouts c.args.nodes.now c.push.new.self c.in_ok-id.id k c.args.value) c.in_ok-part.ensures.value (adds_sprouts c.args.nodes.now c.push.new.self c.in_ok-id.id c.in_ok-part.part.items c.args.value c.in_ok-id.ensures.ok)
