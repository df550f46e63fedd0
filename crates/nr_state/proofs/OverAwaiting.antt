-- Who waits for a datum in a world that is put together from two.
use Rattle.std.proofs.Common.{◌≡◌, ℕ, Bool, true, false, cond, List, [], ◌∷◌, Option, Some, None, refl}
use Rattle.std.proofs.Common.{sym, ap, ◌∙◌, inl, inr}
use Rattle.std.specs.Prelude.{bytes_eq}
use Rattle.std.specs.FinMap.{find, get, entries, entries_sorted, retain_keys, get-entries}
use Rattle.std.specs.FinMap.{get-insert, get-remove}
use Rattle.std.specs.FinMap.Entries.{where_key}
use Rattle.std.specs.Ordering.{eq_by_cmp}
use Rattle.nr_bytes.proofs.Basics.{none≢some}
use Rattle.nr_ids.specs.declared.key.Hash32.{Hash32}
use Rattle.nr_records.specs.declared.receipt.Receipt.{Receipt}
use Rattle.nr_columns.specs.Orders.{pair_cmp}
use Rattle.nr_state.specs.Changes.{with_postponed, without_postponed}
use Rattle.nr_state.specs.Flat.{awaits}
use Rattle.nr_state.specs.Queues.{awaited_by}
use Rattle.nr_state.specs.World.{World}
use Rattle.nr_state.proofs.Awaiting.{Key, Held, IsIn, found, waits, waits_has, find-awaits, find-both, either}
use Rattle.nr_state.proofs.Awaiting.{all_awaits, awaited_at}
use Rattle.nr_state.specs.Keyed.{IsKeyed}
use Rattle.nr_state.proofs.OverMaps.{get-over, retain-over, retain-outside}
use Rattle.nr_state.specs.Scopes.{Scope, over}
use Rattle.nr_state.proofs.ValidOwned.{pair_total, exact_data, same_id, itself}
use Rattle.nr_state.proofs.ValidSums.{entries-retain_keys, equal}

-- ---- the entries at the receiver of a datum alone tell who waits for it
abbrev at : List ℕ → Key → Bool
at receiver k = bytes_eq receiver k.0

waits_elsewhere : (x : Key) (e : Key × Receipt) → e.1.receiver ≡ e.0.0 → at x.0 e.0 ≡ false
    → find pair_cmp x (awaits e.1) ≡ None
waits_elsewhere x e keyed apart = find-awaits x e.1 ∙ by (waits x e.1) refl
  where
    by : (b : Bool) → waits x e.1 ≡ b → cond b (Some e.1.receipt_id) None ≡ None
    by true is =
        let same : x.0 ≡ e.0.0 = sym (waits_has x e.1 is).0 ∙ keyed in
        let here : at x.0 e.0 ≡ true = ap (bytes_eq x.0) (sym same) ∙ itself x.0 in
        absurd (let no : true ≡ false = sym here ∙ apart in cc)
    by false is = refl

those_at : (x : Key) (es : Held) → ((e : Key × Receipt) → IsIn e es → e.1.receiver ≡ e.0.0)
    → find pair_cmp x (all_awaits es) ≡ find pair_cmp x (all_awaits (where_key pair_cmp (at x.0) es))
those_at x [] keyed = refl
those_at x (e ∷ es) keyed =
    find-both x (awaits e.1) (all_awaits es)
    ∙ ap (either (find pair_cmp x (awaits e.1))) (those_at x es (λ d there. keyed d (inr there)))
    ∙ by (at x.0 e.0) refl (where_key pair_cmp (at x.0) es)
  where
    by : (b : Bool) → at x.0 e.0 ≡ b → (fs : Held)
        → either (find pair_cmp x (awaits e.1)) (find pair_cmp x (all_awaits fs))
        ≡ find pair_cmp x (all_awaits (cond b (e ∷ fs) fs))
    by true is fs = sym (find-both x (awaits e.1) (all_awaits fs))
    by false is fs =
        ap (λ o. either o (find pair_cmp x (all_awaits fs))) (waits_elsewhere x e (keyed e (inl refl)) is)

told_at : (w : World) → IsKeyed w → (receiver : List ℕ) (id : Hash32)
    → awaited_by w receiver id
    ≡ find pair_cmp (receiver, id.0) (all_awaits (entries (retain_keys w.postponed (at receiver))))
told_at w keyed receiver id =
    awaited_at w (receiver, id.0)
    ∙ those_at (receiver, id.0) (entries w.postponed) (λ e there.
    keyed e.0 e.1 (get-entries w.postponed e.0 ∙ found (entries w.postponed) (entries_sorted w.postponed) e there))
    ∙ ap (λ es. find pair_cmp (receiver, id.0) (all_awaits es))
    (sym (entries-retain_keys pair_total exact_data w.postponed (at receiver)))

-- ---- in a world that is put together from two
keyed_by : {A : Type 0} (P : A → Type 0) (b : Bool) (m n : Option A) (r : A) → (m ≡ Some r → P r) → (n ≡ Some r → P r)
    → cond b m n ≡ Some r → P r
keyed_by P true m n r h k is = h is
keyed_by P false m n r h k is = k is

pub over_keyed : (p : Scope) (w v : World) → IsKeyed w → IsKeyed v → IsKeyed (over p w v)
over_keyed p w v h k at r is =
    keyed_by (λ (q : Receipt). q.receiver ≡ at.0) (p.waiting at.0) (get w.postponed at) (get v.postponed at) r
    (h at r) (k at r)
    (sym (get-over pair_total exact_data (λ k. p.waiting k.0) w.postponed v.postponed at) ∙ is)

pub awaited_seen : (p : Scope) (w v : World) → IsKeyed w → IsKeyed v → (receiver : List ℕ) (id : Hash32)
    → p.waiting receiver ≡ true → awaited_by (over p w v) receiver id ≡ awaited_by w receiver id
awaited_seen p w v h k receiver id waiting =
    told_at (over p w v) (over_keyed p w v h k) receiver id
    ∙ ap (λ m. find pair_cmp (receiver, id.0) (all_awaits (entries m)))
    (retain-over pair_total exact_data (λ k. p.waiting k.0) w.postponed v.postponed (at receiver)
    (λ q e. ap p.waiting (sym (same_id receiver q.0 e)) ∙ waiting))
    ∙ sym (told_at w h receiver id)

pub awaited_elsewhere : (p : Scope) (w v : World) → IsKeyed w → IsKeyed v → (receiver : List ℕ) (id : Hash32)
    → p.waiting receiver ≡ false → awaited_by (over p w v) receiver id ≡ awaited_by v receiver id
awaited_elsewhere p w v h k receiver id waiting =
    told_at (over p w v) (over_keyed p w v h k) receiver id
    ∙ ap (λ m. find pair_cmp (receiver, id.0) (all_awaits (entries m)))
    (retain-outside pair_total exact_data (λ k. p.waiting k.0) w.postponed v.postponed (at receiver)
    (λ q e. ap p.waiting (sym (same_id receiver q.0 e)) ∙ waiting))
    ∙ sym (told_at v k receiver id)

-- ---- what keeps receipts under their receivers
pub postponed_keyed : (w : World) (r : Receipt) → IsKeyed w → IsKeyed (with_postponed w r)
postponed_keyed w r h k q is =
    by (eq_by_cmp pair_cmp k (r.receiver, r.receipt_id.0)) refl
    (sym (get-insert pair_total w.postponed (r.receiver, r.receipt_id.0) r k) ∙ is)
  where
    by : (b : Bool) → eq_by_cmp pair_cmp k (r.receiver, r.receipt_id.0) ≡ b → cond b (Some r) (get w.postponed k)
        ≡ Some q
        → q.receiver ≡ k.0
    by true t e =
        let same : k ≡ (r.receiver, r.receipt_id.0) = exact_data k (r.receiver, r.receipt_id.0) (equal _ t) in
        let one : r ≡ q = cc in
        ap (λ (s : Receipt). s.receiver) (sym one) ∙ ap (λ (x : Key). x.0) (sym same)
    by false t e = h k q e

pub released_keyed : (w : World) (id : List ℕ) (receipt_id : Hash32) → IsKeyed w
    → IsKeyed (without_postponed w id receipt_id)
released_keyed w id receipt_id h k q is =
    by (eq_by_cmp pair_cmp k (id, receipt_id.0)) (sym (get-remove pair_total w.postponed (id, receipt_id.0) k) ∙ is)
  where
    by : (b : Bool) → cond b None (get w.postponed k) ≡ Some q → q.receiver ≡ k.0
    by true e = absurd (none≢some q e)
    by false e = h k q e
