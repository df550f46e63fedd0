-- The goals of `working::root_over` that no tactic closes.
use Rattle.std.proofs.Common.{List, ap, sym, subst, ◌∙◌, arith}
use Rattle.nr_triedef.specs.Root.{root_of}
use Rattle.nr_trienodes.specs.Merging.{Changing, merged, merge_weight}
use Rattle.nr_trieupdate.specs.Room.{AreShort}
use Rattle.nr_trieupdate.proofs.Overlays.{debt_is}
use Rattle.nr_trieupdate.proofs.working.root_over.Goals as goal

pub root_with-requires : goal.root_with-requires
root_with-requires g c = subst (λ (cs : List Changing). AreShort cs) (sym (c.deref.ensures.value ∙ c.in_ok-changes.ensures.changes)) c.in_ok-changes.ensures.short

pub returns-clause-root : goal.returns-clause-root
returns-clause-root g c = c.in_ok-root.ensures.root ∙ ap (λ (cs : List Changing). (root_of (merged cs c.args.base.now.contents)).hash) (c.deref.ensures.value ∙ c.in_ok-changes.ensures.changes)

pub returns-in_err-root-clause-steps : goal.returns-in_err-root-clause-steps
returns-in_err-root-clause-steps g c = omega (arith, c.in_err-root.ensures.steps, ap merge_weight (c.deref.ensures.value ∙ c.in_ok-changes.ensures.changes), debt_is c.args.waiting.now.contents)

pub returns-clause-steps : goal.returns-clause-steps
returns-clause-steps g c = omega (arith, c.in_ok-root.ensures.steps, ap merge_weight (c.deref.ensures.value ∙ c.in_ok-changes.ensures.changes), debt_is c.args.waiting.now.contents)
