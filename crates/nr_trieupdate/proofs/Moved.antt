-- Changes that are moved into the trie.
use Rattle.std.proofs.Common.{◌≡◌, ◌+◌, ◌≤◌, length, ap, ◌∙◌, arith}
use Rattle.std.specs.FinMap.{empty, entries}
use Rattle.nr_triedef.specs.Root.{Contents}
use Rattle.nr_store.specs.Contents.{StoreView}
use Rattle.nr_trieupdate.specs.BaseView.{BaseView}
use Rattle.nr_trieupdate.specs.Overlays.{over, joined, debt}
use Rattle.nr_trieupdate.specs.Moving.{Moves}
use Rattle.nr_trieupdate.proofs.Overlays.{over_empty, joined_none, few_over, debt_empty}

-- none of them
pub stays : (b c : BaseView) (p q : StoreView) → c.contents ≡ b.contents → c.unhashed ≤ b.unhashed → q.contents ≡ p.contents → q.marks ≡ p.marks → q.spare ≡ p.spare → Moves b c p q
stays b c p q held cost same seen spare =
    let debts : debt q.contents ≡ debt p.contents = ap debt same in
    record { held = λ i. over (same i) (held i); few = omega (arith, ap (λ (m : Contents). length (entries m)) (λ i. joined (same i) (held i))); cost = omega (arith, cost, debts); marks = seen; spare = spare }

-- all of them
pub all_moved : (b c : BaseView) (p q : StoreView) → c.contents ≡ over p.contents b.contents → c.unhashed ≤ b.unhashed + debt p.contents → q.contents ≡ empty → q.marks ≡ p.marks → q.spare ≡ p.spare → Moves b c p q
all_moved b c p q held cost none seen spare =
    let debts : debt q.contents ≡ 0 = ap debt none ∙ debt_empty in
    record {
      held = over_empty q.contents c.contents none ∙ held;
      few = omega (arith, ap (λ (m : Contents). length (entries m)) (joined_none q.contents c.contents none ∙ held), few_over p.contents b.contents);
      cost = omega (arith, cost, debts);
      marks = seen;
      spare = spare;
    }
