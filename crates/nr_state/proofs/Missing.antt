-- How many inputs a postponed receipt lacks, where a datum comes or goes.
use Rattle.std.proofs.Common.{◌≡◌, ℕ, ◌+◌, Bool, true, false, cond, ◌||◌, List, [], ◌∷◌, map, Option, Some, None, refl, sym, ap, ◌∙◌, arith}
use Rattle.std.specs.Prelude.{bytes_eq, is_none, count_by}
use Rattle.std.specs.List.{list_any}
use Rattle.std.specs.Option.{option_map}
use Rattle.std.specs.FinMap.{FinMap, find, get, insert, entries, get-entries, get-insert, get-from_entries, same_map}
use Rattle.std.proofs.lemmas.Bool.{false≢true, or_parts}
use Rattle.std.proofs.lemmas.List.Sums.{sum_by-cons}
use Rattle.nr_ids.specs.declared.key.Hash32.{Hash32}
use Rattle.nr_records.specs.declared.receipt.Receipt.{Receipt}
use Rattle.nr_columns.specs.Orders.{pair_cmp}
use Rattle.nr_state.specs.World.{World}
use Rattle.nr_state.specs.Flat.{inputs_of, missing_inputs, missing_in, awaited_in, columns_of}
use Rattle.nr_state.specs.Queues.{with_count, with_count_at}
use Rattle.nr_state.specs.Repeats.{has_repeat}
use Rattle.nr_state.specs.View.{ArePostponed}
use Rattle.nr_state.proofs.Awaiting.{Key, pair_total, pair_exact, same_key, key_is, key_itself, key_turned, same_parts, is_one, waits, Waiter, waiter, no_waiter, one_waiter}

-- ---- the count of a receipt
pub missing_at : (w : World) (q : Key) → get (missing_in w) q ≡ option_map (missing_inputs w) (get w.postponed q)
missing_at w q = get-from_entries pair_total _ q ∙ find-map (entries w.postponed) ∙ ap (option_map (missing_inputs w)) (sym (get-entries w.postponed q))
  where
    find-map : (es : List (Key × Receipt)) → find pair_cmp q (map (λ e. (e.0, missing_inputs w e.1)) es) ≡ option_map (missing_inputs w) (find pair_cmp q es)
    find-map [] = refl
    find-map (e ∷ es) =
        elim (same_key q e.0) as (λ b. cond b (Some (missing_inputs w e.1)) (find pair_cmp q (map (λ e. (e.0, missing_inputs w e.1)) es)) ≡ option_map (missing_inputs w) (cond b (Some e.1) (find pair_cmp q es))) [ true ↦ refl | false ↦ find-map es ]

abbrev pub one_if : Bool → ℕ
one_if b = cond b 1 0

-- ---- a datum comes: who waits for it lacks one less
abbrev lacks : FinMap pair_cmp (Option (List ℕ)) → List ℕ → List Hash32 → ℕ
lacks m receiver ids = count_by (λ id. is_none (get m (receiver, id.0))) ids

repeats : (receiver : List ℕ) (a : List ℕ) (ids : List Hash32) → is_one (receiver, a) receiver ids ≡ list_any (bytes_eq a) (map (λ input. input.0) ids)
repeats receiver a [] = refl
repeats receiver a (id ∷ ids) = λ i. same_parts (receiver, a) id.0 i || repeats receiver a ids i

module _ (m : FinMap pair_cmp (Option (List ℕ))) (x : Key) (v : Option (List ℕ)) (new : get m x ≡ None) where
  lacks_less : (receiver : List ℕ) (ids : List Hash32) → has_repeat (map (λ input. input.0) ids) ≡ false → lacks m receiver ids ≡ lacks (insert m x v) receiver ids + one_if (is_one x receiver ids)
  lacks_less receiver [] h = refl
  lacks_less receiver (id ∷ ids) h =
      sum_by-cons (λ (j : Hash32). one_if (is_none (get m (receiver, j.0)))) id ids
      ∙ split (lacks_less receiver ids (or_parts _ _ h).1) (same_key x (receiver, id.0)) refl
      ∙ ap (λ n. n + one_if (is_one x receiver (id ∷ ids))) (sym (sum_by-cons (λ (j : Hash32). one_if (is_none (get (insert m x v) (receiver, j.0)))) id ids))
    where
      split : lacks m receiver ids ≡ lacks (insert m x v) receiver ids + one_if (is_one x receiver ids) → (b : Bool) → same_key x (receiver, id.0) ≡ b
          → one_if (is_none (get m (receiver, id.0))) + lacks m receiver ids ≡ (one_if (is_none (get (insert m x v) (receiver, id.0))) + lacks (insert m x v) receiver ids) + one_if (b || is_one x receiver ids)
      split rest true e =
          let is : ◌≡◌ {A = Key} x (receiver, id.0) = key_is x (receiver, id.0) e in
          let before : one_if (is_none (get m (receiver, id.0))) ≡ 1 = ap (λ (o : Option (Option (List ℕ))). one_if (is_none o)) (ap (get m) (sym is) ∙ new) in
          let after : one_if (is_none (get (insert m x v) (receiver, id.0))) ≡ 0 =
          ap (λ (o : Option (Option (List ℕ))). one_if (is_none o)) (get-insert pair_total m x v (receiver, id.0) ∙ ap (λ b. cond b (Some v) (get m (receiver, id.0))) (key_turned (receiver, id.0) x ∙ e))
          in
          let none : is_one x receiver ids ≡ false = ap (λ k. is_one k receiver ids) is ∙ repeats receiver id.0 ids ∙ (or_parts _ _ h).0 in
          let zero_there : one_if (is_one x receiver ids) ≡ 0 = ap one_if none in
          omega arith
      split rest false e =
          let same : one_if (is_none (get (insert m x v) (receiver, id.0))) ≡ one_if (is_none (get m (receiver, id.0))) =
          ap (λ (o : Option (Option (List ℕ))). one_if (is_none o)) (get-insert pair_total m x v (receiver, id.0) ∙ ap (λ b. cond b (Some v) (get m (receiver, id.0))) (key_turned (receiver, id.0) x ∙ e))
          in
          omega arith

  pub lacks_one_less : (r : Receipt) → has_repeat (map (λ input. input.0) (inputs_of r.body)) ≡ false
      → lacks m r.receiver (inputs_of r.body) ≡ lacks (insert m x v) r.receiver (inputs_of r.body) + one_if (waits x r)
  lacks_one_less r h = lacks_less r.receiver (inputs_of r.body) h

-- ---- the counts of all
abbrev pub with_data : World → FinMap pair_cmp (Option (List ℕ)) → World
with_data w m = record w { received = m }

pub counts_follow : (w : World) → ArePostponed w → (m : FinMap pair_cmp (Option (List ℕ))) (x : Key) (f : ℕ → ℕ)
    → ((q : Key) (r : Receipt) → get w.postponed q ≡ Some r → missing_inputs (with_data w m) r ≡ cond (waits x r) (f (missing_inputs w r)) (missing_inputs w r))
    → columns_of (with_data w m) ≡ with_count f (record (columns_of w) { received = m }) x.0 (get (awaited_in w) x)
counts_follow w are m x f each = split (get (awaited_in w) x) refl
  where
    option_same : (o : Option Receipt) → ((r : Receipt) → o ≡ Some r → missing_inputs (with_data w m) r ≡ missing_inputs w r) → option_map (missing_inputs (with_data w m)) o ≡ option_map (missing_inputs w) o
    option_same None h = refl
    option_same (Some r) h = ap Some (h r refl)

    unmoved : (q : Key) (r : Receipt) → get w.postponed q ≡ Some r → waits x r ≡ false → missing_inputs (with_data w m) r ≡ missing_inputs w r
    unmoved q r is none = each q r is ∙ ap (λ b. cond b (f (missing_inputs w r)) (missing_inputs w r)) none

    moves : (by : Hash32) (one : Waiter w x by) → (q : Key) → get (missing_in (with_data w m)) q ≡ get (insert (missing_in w) (x.0, by.0) (f (missing_inputs w one.receipt))) q
    moves by one q =
        missing_at (with_data w m) q ∙ at (same_key q (x.0, by.0)) refl
        ∙ ap (cond (same_key q (x.0, by.0)) (Some (f (missing_inputs w one.receipt)))) (sym (missing_at w q))
        ∙ sym (get-insert pair_total (missing_in w) (x.0, by.0) (f (missing_inputs w one.receipt)) q)
      where
        differs : (b : Bool) (r : Receipt) → same_key q (x.0, by.0) ≡ false → get w.postponed q ≡ Some r → waits x r ≡ b → b ≡ false
        differs true r e is waits_too = absurd (false≢true (sym e ∙ ap (λ k. same_key k (x.0, by.0)) (one_waiter w are x q (x.0, by.0) r one.receipt is one.there waits_too one.waits_for) ∙ key_itself (x.0, by.0)))
        differs false r e is waits_too = refl

        at : (b : Bool) → same_key q (x.0, by.0) ≡ b → option_map (missing_inputs (with_data w m)) (get w.postponed q) ≡ cond b (Some (f (missing_inputs w one.receipt))) (option_map (missing_inputs w) (get w.postponed q))
        at true e =
            ap (option_map (missing_inputs (with_data w m))) (ap (get w.postponed) (key_is q (x.0, by.0) e) ∙ one.there)
            ∙ ap Some (each (x.0, by.0) one.receipt one.there ∙ ap (λ b. cond b (f (missing_inputs w one.receipt)) (missing_inputs w one.receipt)) one.waits_for)
        at false e = option_same (get w.postponed q) (λ r is. unmoved q r is (differs (waits x r) r e is refl))

    split : (o : Option Hash32) → get (awaited_in w) x ≡ o → columns_of (with_data w m) ≡ with_count f (record (columns_of w) { received = m }) x.0 o
    split None h = λ i. record (columns_of w) {
      received = m;
      missing = same_map pair_total pair_exact (missing_in (with_data w m)) (missing_in w) (λ q. missing_at (with_data w m) q ∙ option_same (get w.postponed q) (λ r is. unmoved q r is (no_waiter w x h q r is)) ∙ sym (missing_at w q)) i;
    }
    split (Some by) h =
        let here = waiter w are x by h in
        (λ i. record (columns_of w) {
          received = m;
          missing = same_map pair_total pair_exact (missing_in (with_data w m)) (insert (missing_in w) (x.0, by.0) (f (missing_inputs w here.receipt))) (moves by here) i;
        })
        ∙ ap (with_count_at f (record (columns_of w) { received = m }) (x.0, by.0)) (sym (missing_at w (x.0, by.0) ∙ ap (option_map (missing_inputs w)) here.there))
