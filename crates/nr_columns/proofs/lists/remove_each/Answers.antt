-- The goals of `lists::remove_each` that no tactic closes.
use Rattle.std.proofs.Common.{sym, subst, take, ◌∙◌}
use Rattle.nr_columns.specs.View.{IsLaid}
use Rattle.nr_columns.proofs.KeyLists.{laid_fold}
use Rattle.nr_columns.proofs.lists.remove_each.Goals as goal

pub returns-in_err-remove-clause-laid : goal.returns-in_err-remove-clause-laid
returns-in_err-remove-clause-laid g c =
    λ h. subst IsLaid (sym (c.in_err-remove.ensures.err ∙ c.loop-key.invariant.removed)) (laid_fold (take c.loop-key.key-index c.args.keys.now) (g.S.Store.contents c.args.store.now) h)

pub returns-clause-laid : goal.returns-clause-laid
returns-clause-laid g c = λ h. subst IsLaid (sym c.loop-key.invariant.removed) (laid_fold (take c.loop-key.key-index c.args.keys.now) (g.S.Store.contents c.args.store.now) h)
