-- The columns of who waits and of what is missing are those of the postponed receipts exactly where the tests pass.
use Rattle.std.proofs.Common.{◌≡◌, ℕ, Bool, true, false, List, [], ◌∷◌, ◌||◌, length, map, Option, Some, None, refl, sym, ap, subst, ◌∙◌, inl, inr}
use Rattle.std.specs.Prelude.{bytes_eq, not, sum_by}
use Rattle.std.specs.FinMap.{FinMap, entries, entries_sorted, get, values}
use Rattle.std.specs.List.{AllByRecursion, list_all, list_any}
use Rattle.std.specs.Option.{option_map}
use Rattle.std.proofs.lemmas.Bool.{eq-eqb, eqb-true, or_cases, and_from, not-true}
use Rattle.std.proofs.lemmas.Slice.Eq.{bytes_eq-Decides}
use Rattle.nr_bytes.proofs.Basics.{left_true, right_true}
use Rattle.nr_ids.specs.declared.key.Hash32.{Hash32}
use Rattle.nr_records.specs.declared.receipt.Receipt.{Receipt}
use Rattle.nr_columns.specs.Columns.{Columns}
use Rattle.nr_columns.specs.Orders.{pair_cmp}
use Rattle.nr_columns.specs.declared.entry.Entry.{Entry}
use Rattle.nr_entries.specs.Counting.{count_in}
use Rattle.nr_entries.proofs.Listed.{counted, listed_map, one_each, rising_apart}
use Rattle.nr_state.specs.Flat.{awaited_in, inputs_of, missing_in, missing_inputs}
use Rattle.nr_state.specs.Queues.{is_act}
use Rattle.nr_state.specs.Valid.{Waits}
use Rattle.nr_state.specs.View.{ArePostponed, has_input, world_in}
use Rattle.nr_state.specs.World.{World}
use Rattle.nr_state.proofs.Awaiting.{Held, Key, all_awaits, has_waits, no_waiter, one_waiter, pair_exact, pair_total, waiter, waits}
use Rattle.nr_state.proofs.Missing.{missing_at}
use Rattle.nr_state.proofs.OwnInputs.{waits_lacking}
use Rattle.nr_worlds.specs.Tests.{inputs_count, is_hash, is_waiting, waiting_told}
use Rattle.nr_worlds.specs.Valid.{each}
use Rattle.nr_worlds.proofs.Tested.{each_of, each_so, entries_all}
use Rattle.nr_worlds.proofs.WaitingReceipts.{Good, all_found, awaited_all, awaits_apart, is_hash_of, is_hash_so, is_number_of, is_number_so, length_awaits, length_mapped, values_each}

-- a test of all inputs is one of each
picked : (p : Hash32 → Bool) (id : Hash32) (ids : List Hash32) → list_all p ids ≡ true → list_any (λ input. bytes_eq input.0 id.0) ids ≡ true → p id ≡ true
picked p id [] h any = absurd (let no : false ≡ true = any in cc)
picked p id (i ∷ ids) h any = elim (or_cases _ _ any) [
  | inl e ↦ subst (λ j. p j ≡ true) (ap (λ (l : List ℕ). record { 0 = l }) ((bytes_eq-Decides i.0 id.0).0 e)) (left_true _ _ h)
  | inr e ↦ picked p id ids (right_true _ _ h) e
]

all_picked : (p : Hash32 → Bool) (ids : List Hash32) → ((id : Hash32) → list_any (λ input. bytes_eq input.0 id.0) ids ≡ true → p id ≡ true) → list_all p ids ≡ true
all_picked p [] h = refl
all_picked p (i ∷ ids) h =
    and_from _ _ (h i (ap (λ b. b || list_any (λ input. bytes_eq input.0 i.0) ids) ((bytes_eq-Decides i.0 i.0).1 refl)))
    (all_picked p ids (λ id e. h id (later (bytes_eq i.0 id.0) e)))
  where
    later : {c : Bool} (b : Bool) → c ≡ true → (b || c) ≡ true
    later true e = refl
    later false e = e

module _ (k : Columns) (es : List Entry)
    (keyed : (q : Key) (r : Receipt) → get k.postponed q ≡ Some r → q ≡ (r.receiver, r.receipt_id.0))
    (count_awaited : count_in 4 es ≡ sum_by one_each (entries k.awaited))
    (count_missing : count_in 5 es ≡ sum_by one_each (entries k.missing)) where
  abbrev w : World
  w = world_in k

  abbrev ps : Held
  ps = entries k.postponed

  abbrev lacks : Key × Receipt → Key × ℕ
  lacks e = (e.0, missing_inputs w e.1)

  -- ---- the tests pass
  module _ (h : waiting_told k es ≡ true) where
    pub waits_each : (q : Key) (r : Receipt) → get k.postponed q ≡ Some r → is_waiting k r ≡ true
    waits_each = each_so pair_total pair_exact k.postponed (λ q r. is_waiting k r) (sym (values_each (is_waiting k) ps) ∙ right_true _ _ h)

    good_one : (q : Key) (r : Receipt) → get k.postponed q ≡ Some r → Good k (q, r)
    unfolding is_waiting
    good_one q r is =
        let t = waits_each q r is in
        record {
          keyed = keyed q r is;
          distinct = not-true _ (right_true _ _ (left_true _ _ (left_true _ _ t)));
          awaited = awaited_all k r (inputs_of r.body) (right_true _ _ t);
        }

    good_all : AllByRecursion (Good k) ps
    good_all = entries_all pair_total pair_exact k.postponed (λ q r. Good k (q, r)) good_one

    pub awaited_is : awaited_in w ≡ k.awaited
    awaited_is = sym (listed_map pair_total pair_exact (all_awaits ps) k.awaited
        (awaits_apart k ps (entries_sorted k.postponed) good_all) (all_found k ps good_all)
        (sym count_awaited ∙ eqb-true _ _ (right_true _ _ (left_true _ _ h)) ∙ sym (length_awaits ps)))

    lacking_one : (q : Key) (r : Receipt) → get k.postponed q ≡ Some r → get k.missing q ≡ Some (missing_inputs w r)
    unfolding is_waiting
    lacking_one q r is = ap (get k.missing) (keyed q r is) ∙ is_number_so (missing_inputs w r) _ (right_true _ _ (right_true _ _ (left_true _ _ (waits_each q r is))))

    mapped_all : (ps : Held) → AllByRecursion (λ (e : Key × Receipt). get k.missing e.0 ≡ Some (missing_inputs w e.1)) ps → AllByRecursion (λ (e : Key × ℕ). get k.missing e.0 ≡ Some e.1) (map lacks ps)
    mapped_all [] all = tt
    mapped_all (p ∷ ps) all = (all.0, mapped_all ps all.1)

    pub missing_is : missing_in w ≡ k.missing
    missing_is = sym (listed_map pair_total pair_exact (map lacks ps) k.missing
        (rising_apart pair_cmp (λ e. missing_inputs w e.1) ps (entries_sorted k.postponed))
        (mapped_all ps (entries_all pair_total pair_exact k.postponed (λ q r. get k.missing q ≡ Some (missing_inputs w r)) lacking_one))
        (sym count_missing ∙ eqb-true _ _ (left_true _ _ (left_true _ _ h)) ∙ length_mapped (λ (e : Key × Receipt). e.1) ps ∙ sym (length_mapped lacks ps)))

    -- who waits for an input of a receipt
    own_input : (q : Key) (r : Receipt) (id : Hash32) → get k.postponed q ≡ Some r → has_input r id ≡ true → get k.awaited (r.receiver, id.0) ≡ Some r.receipt_id
    unfolding is_waiting
    own_input q r id is has = is_hash_so r.receipt_id _ (picked (λ input. is_hash r.receipt_id (get k.awaited (r.receiver, input.0))) id (inputs_of r.body) (right_true _ _ (waits_each q r is)) has)

    pub postponed_is : ArePostponed w
    postponed_is = record {
      each = λ q r is. record { keyed = keyed q r is; distinct = (good_one q r is).distinct };
      apart = λ j q a b id e f same has_a has_b.
          let one = own_input j a id e has_a in
          let two = own_input q b id f has_b in
          let ids : a.receipt_id ≡ b.receipt_id = (let h : ◌≡◌ {A = Option Hash32} (Some a.receipt_id) (Some b.receipt_id) = sym one ∙ ap (λ (l : List ℕ). get k.awaited (l, id.0)) same ∙ two in cc) in
          keyed j a e ∙ (λ i. (same i, (ids i).0)) ∙ sym (keyed q b f);
    }

    pub waits_so : (q : Key) (r : Receipt) → get k.postponed q ≡ Some r → Waits w r
    unfolding is_waiting
    waits_so q r is = sym (waits_lacking w r) ∙ left_true _ _ (right_true _ _ (left_true _ _ (waits_each q r is)))

    pub act_so : (q : Key) (r : Receipt) → get k.postponed q ≡ Some r → is_act r.body ≡ true
    unfolding is_waiting
    act_so q r is = left_true _ _ (left_true _ _ (left_true _ _ (waits_each q r is)))

  -- ---- the columns are derived
  module _ (awaited : awaited_in w ≡ k.awaited) (missing : missing_in w ≡ k.missing) (are : ArePostponed w)
      (acts : (q : Key) (r : Receipt) → get k.postponed q ≡ Some r → is_act r.body ≡ true)
      (waiting : (q : Key) (r : Receipt) → get k.postponed q ≡ Some r → Waits w r) where
    awaits_it : (q : Key) (r : Receipt) (id : Hash32) → get k.postponed q ≡ Some r → has_input r id ≡ true → get k.awaited (r.receiver, id.0) ≡ Some r.receipt_id
    awaits_it q r id is has = ap (λ m. get m (r.receiver, id.0)) (sym awaited) ∙ by (get (awaited_in w) (r.receiver, id.0)) refl
      where
        waits_it : waits (r.receiver, id.0) r ≡ true
        waits_it = has_waits r.receiver id r refl has

        by : (o : Option Hash32) → get (awaited_in w) (r.receiver, id.0) ≡ o → o ≡ Some r.receipt_id
        by None e = absurd (let no : false ≡ true = sym (no_waiter w (r.receiver, id.0) e q r is) ∙ waits_it in cc)
        by (Some by_id) e =
            let one = waiter w are (r.receiver, id.0) by_id e in
            let key : ◌≡◌ {A = Key} (r.receiver, by_id.0) q = one_waiter w are (r.receiver, id.0) (r.receiver, by_id.0) q one.receipt r one.there is one.waits_for waits_it in
            ap (λ (x : Key). Some (record { 0 = x.1 })) (key ∙ keyed q r is)

    waiting_one : (q : Key) (r : Receipt) → get k.postponed q ≡ Some r → is_waiting k r ≡ true
    unfolding is_waiting
    waiting_one q r is =
        let count : get k.missing (r.receiver, r.receipt_id.0) ≡ Some (missing_inputs w r) =
        ap (get k.missing) (sym (keyed q r is)) ∙ ap (λ m. get m q) (sym missing) ∙ missing_at w q ∙ ap (option_map (missing_inputs w)) is in
        and_from _ _ (and_from _ _ (and_from _ _ (acts q r is) (ap not (are.each q r is).distinct))
        (and_from _ _ (waits_lacking w r ∙ waiting q r is) (is_number_of (missing_inputs w r) _ count)))
        (all_picked (λ input. is_hash r.receipt_id (get k.awaited (r.receiver, input.0))) (inputs_of r.body)
        (λ id has. is_hash_of r.receipt_id _ (awaits_it q r id is has)))

    all_waiting : list_all (is_waiting k) (values k.postponed) ≡ true
    all_waiting = values_each (is_waiting k) ps ∙ each_of pair_total pair_exact k.postponed (λ q r. is_waiting k r) waiting_one

    good_again : AllByRecursion (Good k) ps
    unfolding is_waiting
    good_again = entries_all pair_total pair_exact k.postponed (λ q r. Good k (q, r)) (λ q r is. record {
      keyed = keyed q r is;
      distinct = (are.each q r is).distinct;
      awaited = awaited_all k r (inputs_of r.body) (right_true _ _ (waiting_one q r is));
    })

    awaited_counted : count_in 4 es ≡ inputs_count (values k.postponed)
    awaited_counted =
        count_awaited ∙ ap (λ (m : FinMap pair_cmp Hash32). sum_by one_each (entries m)) (sym awaited)
        ∙ counted pair_total pair_exact (all_awaits ps) (awaits_apart k ps (entries_sorted k.postponed) good_again) ∙ length_awaits ps

    missing_counted : count_in 5 es ≡ length (values k.postponed)
    missing_counted =
        count_missing ∙ ap (λ (m : FinMap pair_cmp ℕ). sum_by one_each (entries m)) (sym missing)
        ∙ counted pair_total pair_exact (map lacks ps) (rising_apart pair_cmp (λ e. missing_inputs w e.1) ps (entries_sorted k.postponed))
        ∙ length_mapped lacks ps ∙ sym (length_mapped (λ (e : Key × Receipt). e.1) ps)

    pub waiting_again : waiting_told k es ≡ true
    waiting_again = and_from _ _ (and_from _ _ (eq-eqb _ _ missing_counted) (eq-eqb _ _ awaited_counted)) all_waiting
