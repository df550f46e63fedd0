-- The goals of `base::Base::root` that no tactic closes.
use Rattle.std.proofs.Common.{ap, arith}
use Rattle.nr_trieupdate.proofs.base.Base.root.Goals as goal

pub returns-in_err-hash-clause-unhashed : goal.returns-in_err-hash-clause-unhashed
returns-in_err-hash-clause-unhashed g c = omega (arith, c.in_err-hash.ensures.kept.cost c.self.inside.top.root c.self.invariant.level.root, ap (λ v. v.unhashed) c.self.view_is)

pub returns-clause-unhashed : goal.returns-clause-unhashed
returns-clause-unhashed g c = omega (arith, c.in_ok-hash.ensures.kept.cost c.self.inside.top.root c.self.invariant.level.root, ap (λ v. v.unhashed) c.self.view_is)
