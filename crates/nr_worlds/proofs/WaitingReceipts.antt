-- Postponed receipts that wait for inputs of their own, told by the columns of who waits and of how many inputs are missing.
use Rattle.std.proofs.Common.{◌≡◌, ℕ, suc, ◌+◌, Bool, true, false, cond, T, List, [], ◌∷◌, ◌++◌, ◌&&◌, ◌||◌, length, map, Option, Some, None, refl, sym, ap, subst, ◌∙◌, arith}
use Rattle.std.specs.Prelude.{bytes_eq}
use Rattle.std.specs.FinMap.{FinMap, find, get, is_sorted}
use Rattle.std.specs.FinMap.Entries.{below_all}
use Rattle.std.specs.List.{AllByRecursion, list_all, list_any}
use Rattle.std.specs.Ordering.{is_lt}
use Rattle.std.specs.Cmp.{tied_itself}
use Rattle.std.proofs.lemmas.Bool.{eq-eqb, eqb-true}
use Rattle.std.proofs.lemmas.List.{length-append}
use Rattle.std.proofs.lemmas.List.Sums.{sum_by-cons}
use Rattle.std.proofs.lemmas.Slice.Eq.{bytes_eq-Decides}
use Rattle.nr_bytes.proofs.Basics.{left_of, right_of, left_true, right_true, all_both}
use Rattle.nr_ids.specs.declared.key.Hash32.{Hash32}
use Rattle.nr_records.specs.declared.receipt.Receipt.{Receipt}
use Rattle.nr_columns.specs.Columns.{Columns}
use Rattle.nr_columns.specs.Orders.{pair_cmp}
use Rattle.nr_entries.proofs.Listed.{AreApart}
use Rattle.nr_state.specs.Flat.{awaits, inputs_of}
use Rattle.nr_state.specs.Repeats.{has_repeat}
use Rattle.nr_state.specs.View.{repeats_input}
use Rattle.nr_state.proofs.Awaiting.{Held, Key, either, all_awaits, find-both, key_is, pair_total, same_key}
use Rattle.nr_worlds.specs.Tests.{are_awaited, inputs_count, is_hash, is_number}

-- ---- tests
pub is_hash_so : (id : Hash32) (o : Option Hash32) → is_hash id o ≡ true → o ≡ Some id
is_hash_so id None h = absurd (let no : false ≡ true = h in cc)
is_hash_so id (Some by) h = ap (λ (l : List ℕ). Some (record { 0 = l })) ((bytes_eq-Decides by.0 id.0).0 h)

pub is_hash_of : (id : Hash32) (o : Option Hash32) → o ≡ Some id → is_hash id o ≡ true
is_hash_of id o e = ap (is_hash id) e ∙ (bytes_eq-Decides id.0 id.0).1 refl

pub is_number_so : (n : ℕ) (o : Option ℕ) → is_number n o ≡ true → o ≡ Some n
is_number_so n None h = absurd (let no : false ≡ true = h in cc)
is_number_so n (Some m) h = ap (λ x. Some x) (eqb-true m n h)

pub is_number_of : (n : ℕ) (o : Option ℕ) → o ≡ Some n → is_number n o ≡ true
is_number_of n o e = ap (is_number n) e ∙ eq-eqb n n refl

-- a test of the values is one of the entries
pub values_each : {K X : Type 0} (p : X → Bool) (es : List (K × X)) → list_all p (map (λ (e : K × X). e.1) es) ≡ list_all (λ (e : K × X). p e.1) es
values_each p [] = refl
values_each p (e ∷ es) = ap (λ b. p e.1 && b) (values_each p es)

-- ---- entries under keys that stand once
abbrev pub Found : {X : Type 0} → FinMap pair_cmp X → Key × X → Type 0
Found m e = get m e.0 ≡ Some e.1

apart_both : {X : Type 0} (xs ys : List (Key × X)) → AreApart pair_cmp xs → AreApart pair_cmp ys → AllByRecursion (λ (e : Key × X). find pair_cmp e.0 ys ≡ None) xs → AreApart pair_cmp (xs ++ ys)
apart_both [] ys h g none = g
apart_both (x ∷ xs) ys h g none = (
  find-both x.0 xs ys ∙ ap (λ o. either o (find pair_cmp x.0 ys)) h.0 ∙ none.0,
  apart_both xs ys h.1 g none.1,
)

-- the inputs of one receipt
inputs_apart : (receiver : List ℕ) (by : Hash32) (ids : List Hash32) → has_repeat (map (λ (id : Hash32). id.0) ids) ≡ false
    → AreApart pair_cmp (map (λ (id : Hash32). ((receiver, id.0), by)) ids)
inputs_apart receiver by [] h = tt
inputs_apart receiver by (id ∷ ids) h = (none ids (first_no _ _ h), inputs_apart receiver by ids (second_no _ _ h))
  where
    first_no : (a b : Bool) → (a || b) ≡ false → a ≡ false
    first_no true b h = absurd (let no : true ≡ false = h in cc)
    first_no false b h = refl

    second_no : (a b : Bool) → (a || b) ≡ false → b ≡ false
    second_no true b h = absurd (let no : true ≡ false = h in cc)
    second_no false b h = h

    none : (ids : List Hash32) → list_any (bytes_eq id.0) (map (λ (i : Hash32). i.0) ids) ≡ false → find pair_cmp (receiver, id.0) (map (λ (i : Hash32). ((receiver, i.0), by)) ids) ≡ None
    none [] h = refl
    none (i ∷ ids) h = same (same_key (receiver, id.0) (receiver, i.0)) refl (none ids (second_no _ _ h))
      where
        same : (b : Bool) → same_key (receiver, id.0) (receiver, i.0) ≡ b → find pair_cmp (receiver, id.0) (map (λ (i : Hash32). ((receiver, i.0), by)) ids) ≡ None → cond b (Some by) (find pair_cmp (receiver, id.0) (map (λ (i : Hash32). ((receiver, i.0), by)) ids)) ≡ None
        same true e later =
            let key = key_is (receiver, id.0) (receiver, i.0) e in
            absurd (let no : true ≡ false = sym ((bytes_eq-Decides id.0 i.0).1 (ap (λ (k : Key). k.1) key)) ∙ first_no _ _ h in cc)
        same false e later = later

-- ---- receipts that are told
pub record Good (k : Columns) (e : Key × Receipt) : Type 0 where
  pub keyed : e.0 ≡ (e.1.receiver, e.1.receipt_id.0)
  pub distinct : repeats_input e.1 ≡ false
  pub awaited : AllByRecursion (Found k.awaited) (awaits e.1)

module _ (k : Columns) where
  pub awaited_all : (r : Receipt) (ids : List Hash32) → are_awaited k r ids ≡ true → AllByRecursion (Found k.awaited) (map (λ (input : Hash32). ((r.receiver, input.0), r.receipt_id)) ids)
  awaited_all r [] h = tt
  awaited_all r (id ∷ ids) h = (is_hash_so r.receipt_id _ (left_true _ _ h), awaited_all r ids (right_true _ _ h))

  pub all_found : (ps : Held) → AllByRecursion (Good k) ps → AllByRecursion (Found k.awaited) (all_awaits ps)
  all_found [] all = tt
  all_found (p ∷ ps) all = all_both (Found k.awaited) (awaits p.1) (all_awaits ps) all.0.awaited (all_found ps all.1)

  -- what is found among the inputs of receipts is a receipt's own
  record Own (x : Key) (by : Hash32) (ps : Held) : Type 0 where
    found : get k.awaited x ≡ Some by
    below : (key : Key) → T (below_all pair_cmp key ps) → T (is_lt (pair_cmp key (x.0, by.0)))

  found_one : (x : Key) (r : Receipt) (ids : List Hash32) (by : Hash32) → AllByRecursion (Found k.awaited) (map (λ (input : Hash32). ((r.receiver, input.0), r.receipt_id)) ids)
      → find pair_cmp x (map (λ (input : Hash32). ((r.receiver, input.0), r.receipt_id)) ids) ≡ Some by → (get k.awaited x ≡ Some by) × ((r.receiver ≡ x.0) × (r.receipt_id ≡ by))
  found_one x r [] by all h = absurd (let no : ◌≡◌ {A = Option Hash32} None (Some by) = h in cc)
  found_one x r (id ∷ ids) by all h = same (same_key x (r.receiver, id.0)) refl (found_one x r ids by all.1) h
    where
      same : (b : Bool) → same_key x (r.receiver, id.0) ≡ b
          → (find pair_cmp x (map (λ (input : Hash32). ((r.receiver, input.0), r.receipt_id)) ids) ≡ Some by → (get k.awaited x ≡ Some by) × ((r.receiver ≡ x.0) × (r.receipt_id ≡ by)))
          → cond b (Some r.receipt_id) (find pair_cmp x (map (λ (input : Hash32). ((r.receiver, input.0), r.receipt_id)) ids)) ≡ Some by → (get k.awaited x ≡ Some by) × ((r.receiver ≡ x.0) × (r.receipt_id ≡ by))
      same true e later h =
          let key = key_is x (r.receiver, id.0) e in
          let own : r.receipt_id ≡ by = cc in
          (ap (get k.awaited) key ∙ all.0 ∙ ap (λ z. Some z) own, (sym (ap (λ (q : Key). q.0) key), own))
      same false e later h = later h

  own_of : (x : Key) (by : Hash32) (ps : Held) → AllByRecursion (Good k) ps → find pair_cmp x (all_awaits ps) ≡ Some by → Own x by ps
  own_of x by [] all h = absurd (let no : ◌≡◌ {A = Option Hash32} None (Some by) = h in cc)
  own_of x by (p ∷ ps) all h = split (own_of x by ps all.1) (find pair_cmp x (awaits p.1)) refl (sym (find-both x (awaits p.1) (all_awaits ps)) ∙ h)
    where
      split : (find pair_cmp x (all_awaits ps) ≡ Some by → Own x by ps) → (o : Option Hash32) → find pair_cmp x (awaits p.1) ≡ o → either o (find pair_cmp x (all_awaits ps)) ≡ Some by → Own x by (p ∷ ps)
      split rest None e h =
          let later = rest h in
          record { found = later.found; below = λ key t. later.below key (right_of _ _ t) }
      split rest (Some a) e h =
          let one = found_one x p.1 (inputs_of p.1.body) by all.0.awaited (e ∙ h) in
          let same : ◌≡◌ {A = Key} p.0 (x.0, by.0) = all.0.keyed ∙ (λ i. (one.1.0 i, (one.1.1 i).0)) in
          record { found = one.0; below = λ key t. subst (λ (q : Key). T (is_lt (pair_cmp key q))) same (left_of _ _ t) }

  no_less : (q : Key) → T (is_lt (pair_cmp q q)) → ⊥
  no_less q h = subst (λ r. T (is_lt r)) (tied_itself pair_total q) h

  -- no input of a receipt is one of those behind it
  none_later : (p : Key × Receipt) (ps : Held) → Good k p → AllByRecursion (Good k) ps → T (below_all pair_cmp p.0 ps) → (ids : List Hash32)
      → AllByRecursion (Found k.awaited) (map (λ (input : Hash32). ((p.1.receiver, input.0), p.1.receipt_id)) ids)
      → AllByRecursion (λ (e : Key × Hash32). find pair_cmp e.0 (all_awaits ps) ≡ None) (map (λ (input : Hash32). ((p.1.receiver, input.0), p.1.receipt_id)) ids)
  none_later p ps good all below [] found = tt
  none_later p ps good all below (id ∷ ids) found = (by (find pair_cmp (p.1.receiver, id.0) (all_awaits ps)) refl, none_later p ps good all below ids found.1)
    where
      by : (o : Option Hash32) → find pair_cmp (p.1.receiver, id.0) (all_awaits ps) ≡ o → o ≡ None
      by None e = refl
      by (Some by_id) e =
          let own = own_of (p.1.receiver, id.0) by_id ps all e in
          let ids_same : by_id ≡ p.1.receipt_id = (let h : ◌≡◌ {A = Option Hash32} (Some by_id) (Some p.1.receipt_id) = sym own.found ∙ found.0 in cc) in
          let less : T (is_lt (pair_cmp p.0 (p.1.receiver, by_id.0))) = own.below p.0 below in
          absurd (no_less p.0 (subst (λ (q : Key). T (is_lt (pair_cmp p.0 q))) ((λ i. (p.1.receiver, (ids_same i).0)) ∙ sym good.keyed) less))

  pub awaits_apart : (ps : Held) → T (is_sorted pair_cmp ps) → AllByRecursion (Good k) ps → AreApart pair_cmp (all_awaits ps)
  awaits_apart [] sorted all = tt
  awaits_apart (p ∷ ps) sorted all =
      apart_both (awaits p.1) (all_awaits ps) (inputs_apart p.1.receiver p.1.receipt_id (inputs_of p.1.body) all.0.distinct) (awaits_apart ps (right_of _ _ sorted) all.1)
      (none_later p ps all.0 all.1 (left_of _ _ sorted) (inputs_of p.1.body) all.0.awaited)

-- ---- how many inputs there are
pub length_awaits : (ps : Held) → length (all_awaits ps) ≡ inputs_count (map (λ (e : Key × Receipt). e.1) ps)
length_awaits [] = refl
length_awaits (p ∷ ps) =
    let both_parts : length (awaits p.1 ++ all_awaits ps) ≡ length (awaits p.1) + length (all_awaits ps) = length-append (awaits p.1) (all_awaits ps) in
    let own : length (awaits p.1) ≡ length (inputs_of p.1.body) = mapped (inputs_of p.1.body) in
    omega (arith, both_parts, own, length_awaits ps, sum_by-cons (λ (r : Receipt). length (inputs_of r.body)) p.1 (map (λ (e : Key × Receipt). e.1) ps))
  where
    mapped : (ids : List Hash32) → length {A = Key × Hash32} (map (λ (input : Hash32). ((p.1.receiver, input.0), p.1.receipt_id)) ids) ≡ length ids
    mapped [] = refl
    mapped (id ∷ ids) = ap suc (mapped ids)

pub length_mapped : {A B : Type 0} (f : A → B) (xs : List A) → length (map f xs) ≡ length xs
length_mapped f [] = refl
length_mapped f (x ∷ xs) = ap suc (length_mapped f xs)
