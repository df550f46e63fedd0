-- The inputs that a receipt has for itself, and how many of them lack.
use Rattle.std.proofs.Common.{◌≡◌, ℕ, ◌+◌, ◌≤◌, Bool, true, false, ◌||◌, List, [], ◌∷◌, Option, Some, None, refl, sym, ap, subst, ◌∙◌, arith}
use Rattle.std.specs.Prelude.{bytes_eq, is_some, nat_lt, count_by}
use Rattle.std.specs.List.{list_any}
use Rattle.std.specs.FinMap.{get}
use Rattle.std.proofs.lemmas.Bool.{false≢true}
use Rattle.std.proofs.lemmas.Bool.Decides.{nat_tests}
use Rattle.std.proofs.lemmas.List.Sums.{sum_by-cons}
use Rattle.nr_ids.specs.declared.key.Hash32.{Hash32}
use Rattle.nr_records.specs.declared.receipt.Receipt.{Receipt}
use Rattle.nr_state.specs.Changes.{with_received}
use Rattle.nr_state.specs.Flat.{inputs_of, is_missing, missing_inputs}
use Rattle.nr_state.specs.Keeping.{HasOwnInputs}
use Rattle.nr_state.specs.Queues.{awaited_by, has_awaited}
use Rattle.nr_state.specs.Valid.{Waits}
use Rattle.nr_state.specs.View.{has_input, repeats_input, ArePostponed}
use Rattle.nr_state.specs.World.{World}
use Rattle.nr_state.proofs.Awaiting.{Key, waits, has_waits, waits_has, waiter, no_waiter, one_waiter}
use Rattle.nr_state.proofs.Missing.{one_if, lacks_one_less}
use Rattle.nr_state.proofs.Postponed.{free_of}
use Rattle.nr_state.proofs.ValidOwned.{itself}

-- ---- own inputs are awaited by none
abbrev is_among : Hash32 → List Hash32 → Bool
is_among id ids = list_any (λ input. bytes_eq input.0 id.0) ids

none_among : (f : Hash32 → Bool) (ids : List Hash32) → ((id : Hash32) → is_among id ids ≡ true → f id ≡ false) → list_any f ids ≡ false
none_among f [] none = refl
none_among f (id ∷ ids) none =
    (λ i. none id (ap (λ b. b || is_among id ids) (itself id.0)) i || list_any f ids)
    ∙ none_among f ids (λ j there. none j (elim (bytes_eq id.0 j.0) as (λ b. (b || is_among j ids) ≡ true) [ true ↦ refl | false ↦ there ]))

pub own_unawaited : (w : World) (r : Receipt) → ArePostponed w → HasOwnInputs w r → has_awaited w r ≡ false
own_unawaited w r are own = none_among (λ input. is_some (awaited_by w r.receiver input)) (inputs_of r.body) (λ id there. by id there (awaited_by w r.receiver id) refl)
  where
    by : (id : Hash32) → has_input r id ≡ true → (o : Option Hash32) → awaited_by w r.receiver id ≡ o → is_some o ≡ false
    by id there None e = refl
    by id there (Some other) e =
        let one = waiter w are (r.receiver, id.0) other e in
        let has = waits_has (r.receiver, id.0) one.receipt one.waits_for in
        absurd (false≢true (sym (own.apart (r.receiver, other.0) one.receipt id one.there has.0 has.1) ∙ there))

pub unawaited_own : (w : World) (r : Receipt) → ArePostponed w → repeats_input r ≡ false → has_awaited w r ≡ false → HasOwnInputs w r
unawaited_own w r are distinct none = record { distinct = distinct; apart = λ k q id is same has. by k q id is same has (has_input r id) refl }
  where
    by : (k : Key) (q : Receipt) (id : Hash32) → get w.postponed k ≡ Some q → q.receiver ≡ r.receiver → has_input q id ≡ true → (b : Bool) → has_input r id ≡ b → b ≡ false
    by k q id is same has true too =
        absurd (false≢true (sym (no_waiter w (r.receiver, id.0) (free_of w r none (r.receiver, id.0) (has_waits r.receiver id r refl too)) k q is) ∙ has_waits r.receiver id q same has))
    by k q id is same has false too = refl

-- ---- what a receipt lacks
pub lacks_some : (f : Hash32 → Bool) (ids : List Hash32) → nat_lt 0 (count_by f ids) ≡ list_any f ids
lacks_some f [] = refl
lacks_some f (id ∷ ids) = ap (nat_lt 0) (sum_by-cons (λ (j : Hash32). one_if (f j)) id ids) ∙ by (f id) (lacks_some f ids)
  where
    by : (b : Bool) → nat_lt 0 (count_by f ids) ≡ list_any f ids → nat_lt 0 (one_if b + count_by f ids) ≡ (b || list_any f ids)
    by true rest = grind (arith, nat_tests)
    by false rest = ap (nat_lt 0) (let e : one_if false + count_by f ids ≡ count_by f ids = omega arith in e) ∙ rest

pub waits_lacking : (w : World) (r : Receipt) → nat_lt 0 (missing_inputs w r) ≡ list_any (is_missing w r.receiver) (inputs_of r.body)
waits_lacking w r = lacks_some (is_missing w r.receiver) (inputs_of r.body)

-- ---- a datum comes that isn't the last one of a receipt
pub still_waits : (w : World) (receiver : List ℕ) (id : Hash32) (bytes : Option (List ℕ)) → ArePostponed w → get w.received (receiver, id.0) ≡ None
    → ((k : Key) (r : Receipt) → get w.postponed k ≡ Some r → Waits w r)
    → ((by : Hash32) (r : Receipt) → awaited_by w receiver id ≡ Some by → get w.postponed (receiver, by.0) ≡ Some r → 2 ≤ missing_inputs w r)
    → (k : Key) (r : Receipt) → get w.postponed k ≡ Some r → Waits (with_received w receiver id bytes) r
still_waits w receiver id bytes are new all two k r is =
    sym (waits_lacking (with_received w receiver id bytes) r)
    ∙ by (waits (receiver, id.0) r) refl
  where
    before : nat_lt 0 (missing_inputs w r) ≡ true
    before = waits_lacking w r ∙ all k r is

    less : missing_inputs w r ≡ missing_inputs (with_received w receiver id bytes) r + one_if (waits (receiver, id.0) r)
    less = lacks_one_less w.received (receiver, id.0) bytes new r (are.each k r is).distinct

    waited : (o : Option Hash32) → awaited_by w receiver id ≡ o → waits (receiver, id.0) r ≡ true → 2 ≤ missing_inputs w r
    waited None e has = absurd (false≢true (sym (no_waiter w (receiver, id.0) e k r is) ∙ has))
    waited (Some other) e has =
        let one = waiter w are (receiver, id.0) other e in
        let same : ◌≡◌ {A = Key} k (receiver, other.0) = one_waiter w are (receiver, id.0) k (receiver, other.0) r one.receipt is one.there has one.waits_for in
        two other r e (subst (λ (j : Key). get w.postponed j ≡ Some r) same is)

    by : (b : Bool) → waits (receiver, id.0) r ≡ b → nat_lt 0 (missing_inputs (with_received w receiver id bytes) r) ≡ true
    by true e = let enough : 2 ≤ missing_inputs w r = waited (awaited_by w receiver id) refl e in let n = less ∙ ap (λ b. missing_inputs (with_received w receiver id bytes) r + one_if b) e in grind (arith, nat_tests)
    by false e = let n = less ∙ ap (λ b. missing_inputs (with_received w receiver id bytes) r + one_if b) e in grind (arith, nat_tests, before)
