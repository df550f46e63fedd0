-- The goals of `base::Base::sizes` that no tactic closes.
use Rattle.std.proofs.Common.{subst}
use Rattle.nr_triedef.specs.Stores.{IsSized}
use Rattle.nr_trieupdate.proofs.base.Base.sizes.Goals as goal

pub returns : goal.returns
returns c = subst (λ v. IsSized v.contents) c.self.view_is c.self.invariant.level.sized
