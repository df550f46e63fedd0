-- The goals of `listing::keys_over` that no tactic closes.
use Rattle.std.proofs.Common.{◌++◌, [], sym, ◌∙◌, length}
use Rattle.std.proofs.lemmas.Bool.{eqb-true}
use Rattle.std.proofs.lemmas.List.{nil_from_length}
use Rattle.nr_trieupdate.specs.Overlays.{over}
use Rattle.nr_trieupdate.proofs.Overlays.{below_none, gathered_empty, gathered_below}
use Rattle.nr_trieupdate.proofs.listing.keys_over.Goals as goal

-- no change begins so
pub returns-then-is_empty : goal.returns-then-is_empty
returns-then-is_empty c =
    c.in_ok-there.ensures
    ∙ below_none c.args.changes.now.contents c.args.base.now.contents c.args.prefix.now
    (sym c.in_ok-changed.ensures ∙ sym c.inner.ensures ∙ nil_from_length c.inner.result.now (eqb-true (length c.inner.result.now) 0 (sym c.if-is_empty.ensures)))

pub returns : goal.returns
returns c =
    let base = c.args.base.now.contents in
    let changes = c.args.changes.now.contents in
    let none = gathered_empty (over changes base) c.new-found.result.contents c.new-found.ensures.contents in
    let there = c.in_ok-gather.ensures [] none in
    let all = c.in_ok-gather-2.ensures (c.inner-2.result.now ++ []) there in
    c.in_ok-keys.ensures
    ∙ gathered_below changes base c.gather-2.new.found.contents c.args.prefix.now c.inner-3.result.now c.inner-2.result.now
    (c.inner-3.ensures ∙ c.in_ok-changed.ensures) (c.inner-2.ensures ∙ c.in_ok-there.ensures) all
