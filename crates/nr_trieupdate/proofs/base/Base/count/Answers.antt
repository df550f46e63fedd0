-- The goals of `base::Base::count` that no tactic closes.
use Rattle.std.proofs.Common.{◌∙◌, ap, length}
use Rattle.std.specs.FinMap.{entries}
use Rattle.nr_trieupdate.proofs.base.Base.count.Goals as goal

pub returns : goal.returns
returns c = c.self.invariant.level.count ∙ ap (λ v. length (entries v.contents)) c.self.view_is
