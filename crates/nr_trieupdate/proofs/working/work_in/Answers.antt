-- The goals of `working::work_in` that no tactic closes.
use Rattle.std.proofs.Common.{List, ap, sym, ◌∙◌, subst, arith}
use Rattle.nr_triedef.specs.Stores.{IsSized}
use Rattle.nr_trienodes.specs.Merging.{Changing, merged, merge_weight}
use Rattle.nr_trieupdate.specs.Room.{AreShort}
use Rattle.nr_trieupdate.proofs.Overlays.{debt_is}
use Rattle.nr_trieupdate.proofs.working.work_in.Goals as goal

pub merge-requires-clause-sized : goal.merge-requires-clause-sized
merge-requires-clause-sized c = subst (λ (cs : List Changing). IsSized (merged cs c.args.base.now.contents)) (sym (c.deref.ensures.value ∙ c.in_ok-changes.ensures.changes)) c.requires

pub merge-requires-clause-short : goal.merge-requires-clause-short
merge-requires-clause-short c = subst (λ (cs : List Changing). AreShort cs) (sym (c.deref.ensures.value ∙ c.in_ok-changes.ensures.changes)) c.in_ok-changes.ensures.short

pub returns-clause-ok : goal.returns-clause-ok
returns-clause-ok c = c.in_ok-merge.ensures.ok ∙ ap (λ (cs : List Changing). merged cs c.args.base.now.contents) (c.deref.ensures.value ∙ c.in_ok-changes.ensures.changes)

pub returns-clause-unhashed : goal.returns-clause-unhashed
returns-clause-unhashed c = omega (arith, c.in_ok-merge.ensures.unhashed, ap merge_weight (c.deref.ensures.value ∙ c.in_ok-changes.ensures.changes), debt_is c.args.waiting.now.contents)
