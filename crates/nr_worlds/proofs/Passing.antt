-- The entries of a valid world pass the tests.
use Rattle.std.proofs.Common.{◌≡◌, ℕ, ◌<◌, ◌≤◌, Bool, true, false, List, [], ◌∷◌, ◌&&◌, ◌||◌, length, Some, None, refl, sym, ap, subst, ◌∙◌, inl, inr, arith}
use Rattle.std.specs.Prelude.{is_none, is_some, not, nat_le, nat_lt}
use Rattle.std.specs.FinMap.{get, entries}
use Rattle.std.specs.List.{AllByRecursion, list_all, list_any}
use Rattle.std.specs.Str.{bytes_eq}
use Rattle.std.specs.Cmp.Lexicographic.{pointwise}
use Rattle.std.proofs.lemmas.Bool.{eq-eqb, or_cases, and_from, or_left}
use Rattle.std.proofs.lemmas.Bool.Decides.{nat_tests}
use Rattle.std.proofs.lemmas.Slice.Eq.{bytes_eq-Decides}
use mathlib.Core.Bool.{or-true}
use Rattle.nr_bytes.proofs.Basics.{left_true, right_true}
use Rattle.nr_config.specs.Config.{Config}
use Rattle.nr_ids.specs.Grammar.{id_fault}
use Rattle.nr_ids.specs.declared.key.Hash32.{Hash32}
use Rattle.nr_records.specs.declared.receipt.Receipt.{Receipt}
use Rattle.nr_columns.specs.Entries.{pairs_of}
use Rattle.nr_columns.specs.declared.entry.Entry.{Entry}
use Rattle.nr_columns.proofs.Laid.{accounts_law, code_law, data_law, keys_law, postponed_law, received_law}
use Rattle.nr_entries.specs.Told.{is_id, is_id_and_hash, same_pair}
use Rattle.nr_entries.proofs.Names.{key_fits}
use Rattle.nr_state.specs.Flat.{flat, inputs_of}
use Rattle.nr_state.specs.FromEntries.{world_from}
use Rattle.nr_state.specs.Valid.{AreAccounts, AreWaiting, IsBounded, IsValidWorld}
use Rattle.nr_state.specs.View.{ArePostponed, has_input}
use Rattle.nr_state.specs.World.{World}
use Rattle.nr_state.specs.Worlds.{IsWorld}
use Rattle.nr_state.proofs.EntryWorlds.{entries_again}
use Rattle.nr_worlds.specs.Judging.{is_queue, is_world, queue_of}
use Rattle.nr_worlds.specs.Valid.{account_fits, accounts_fit, each, inputs_apart, is_bounded, is_valid_world, names_fit, numbers_fit, postponed_fits, shares_input, waiting_fits}
use Rattle.nr_worlds.proofs.Sound.{none_postponed}
use Rattle.nr_worlds.proofs.Tested.{each_of, lists_so, same_so}

pub below_so : (a b : ℕ) → a < b → nat_lt a b ≡ true
below_so a b h = grind (arith, nat_tests)

pub most_so : (a b : ℕ) → a ≤ b → nat_le a b ≡ true
most_so a b h = grind (arith, nat_tests)

pub id_so : (id : List ℕ) → id_fault id ≡ None → is_id id ≡ true
id_so id h = ap is_none h

pub hash_so : (k : List ℕ × List ℕ) → id_fault k.0 ≡ None → length k.1 ≡ 32 → is_id_and_hash k ≡ true
hash_so k h l = and_from _ _ (id_so k.0 h) (eq-eqb (length k.1) 32 l)

pub names_of : (w : World) → IsWorld w → names_fit w ≡ true
names_of w fits =
    and_from _ _ (and_from _ _ (and_from _ _ (and_from _ _ (and_from _ _
    (each_of accounts_law.total accounts_law.exact w.accounts _ (λ id a is. id_so id (fits.accounts id a is).0))
    (each_of keys_law.total keys_law.exact w.keys _ (λ k a is. and_from _ _ (id_so k.0 (fits.keys k a is).0) (key_fits k.1 (fits.keys k a is).1.0))))
    (each_of code_law.total code_law.exact w.code _ (λ id v is. id_so id (fits.code id v is))))
    (each_of data_law.total data_law.exact w.data_of _ (λ k v is. id_so k.0 (fits.data_of k v is))))
    (each_of received_law.total received_law.exact w.received _ (λ k v is. hash_so k (fits.received k v is).0 (fits.received k v is).1.0)))
    (each_of postponed_law.total postponed_law.exact w.postponed _ (λ k r is. hash_so k (fits.postponed k r is).0 (fits.postponed k r is).1.0))

-- ---- a valid world
pub bounded_so : (c : Config) (r : Receipt) → IsBounded c r → is_bounded c r ≡ true
bounded_so c r h = and_from _ _ (below_so _ _ h.price) (below_so _ _ h.gas)

pub all_bounded_so : (c : Config) (rs : List Receipt) → AllByRecursion (IsBounded c) rs → list_all (is_bounded c) rs ≡ true
all_bounded_so c [] h = refl
all_bounded_so c (r ∷ rs) h = and_from _ _ (bounded_so c r h.0) (all_bounded_so c rs h.1)

accounts_of : (c : Config) (w : World) → AreAccounts c w → accounts_fit c w ≡ true
accounts_of c w h =
    and_from _ _ (and_from _ _ (and_from _ _
    (each_of accounts_law.total accounts_law.exact w.accounts (account_fits c w) (λ id a is.
    and_from _ _ (and_from _ _ (ap not (h.no_system id (ap is_some is))) (eq-eqb _ _ (h.usage id a is)))
    ((bytes_eq-Decides _ _).1 (ap (λ (hash : Hash32). hash.0) (h.code_hash id a is)))))
    (each_of keys_law.total keys_law.exact w.keys _ (λ k a is. h.keys k (ap is_some is))))
    (each_of code_law.total code_law.exact w.code _ (λ id v is. h.code id (ap is_some is))))
    (each_of data_law.total data_law.exact w.data_of _ (λ k v is. h.data_of k (ap is_some is)))

-- an input that two receipts have
shared_input : (r : Receipt) (ids : List Hash32) → list_any (has_input r) ids ≡ true → (id : Hash32) × ((list_any (λ input. bytes_eq input.0 id.0) ids ≡ true) × (has_input r id ≡ true))
shared_input r [] h = absurd (let no : false ≡ true = h in cc)
shared_input r (i ∷ ids) h = elim (or_cases _ _ h) [
  | inl e ↦ (i, (ap (λ b. b || list_any (λ input. bytes_eq input.0 i.0) ids) ((bytes_eq-Decides i.0 i.0).1 refl), e))
  | inr e ↦
      let later = shared_input r ids e in
      (later.0, (elim (bytes_eq i.0 later.0.0) as (λ b. (b || list_any (λ input. bytes_eq input.0 later.0.0) ids) ≡ true) [ true ↦ refl | false ↦ later.1.0 ], later.1.1))
]

pub apart_of : (w : World) → ArePostponed w → inputs_apart w ≡ true
apart_of w are =
    each_of postponed_law.total postponed_law.exact w.postponed _ (λ j q e.
    each_of postponed_law.total postponed_law.exact w.postponed _ (λ k r f. by j k q r e f (shares_input q r) refl))
  where
    by : (j k : List ℕ × List ℕ) (q r : Receipt) → get w.postponed j ≡ Some q → get w.postponed k ≡ Some r → (b : Bool) → shares_input q r ≡ b → (same_pair j k || not b) ≡ true
    by j k q r e f false is = or-true (same_pair j k)
    by j k q r e f true is =
        let one = shared_input r (inputs_of q.body) (right_true _ _ is) in
        or_left _ _ (same_so j k (are.apart j k q r one.0 e f ((bytes_eq-Decides q.receiver r.receiver).0 (left_true _ _ is)) one.1.0 one.1.1))

waiting_of : (c : Config) (w : World) → AreWaiting c w → waiting_fits c w ≡ true
waiting_of c w h =
    and_from _ _ (and_from _ _
    (each_of postponed_law.total postponed_law.exact w.postponed (postponed_fits c w) (λ k r is.
    and_from _ _ (and_from _ _ (and_from _ _ (and_from _ _ (same_so k _ (h.postponed.each k r is).keyed) (h.actions k r is))
    (ap not (h.postponed.each k r is).distinct)) (h.waits k r is)) (bounded_so c r (h.bounded k r is))))
    (apart_of w h.postponed))
    (all_bounded_so c w.delayed h.delayed)

valid_of : (c : Config) (w : World) → IsValidWorld c w → is_valid_world c w ≡ true
valid_of c w h = and_from _ _ (and_from _ _ (accounts_of c w h.accounts) (waiting_of c w h.waiting)) (most_so _ _ h.tokens)

pub passing : (c : Config) (es : List Entry) (w : World) → IsWorld w → IsValidWorld c w → pairs_of es ≡ entries (flat w) → is_world c es ≡ true
unfolding is_world
passing c es w fits valid pairs =
    subst (λ u. (pointwise same_pair (entries (flat u)) (pairs_of es) && names_fit u && numbers_fit u && is_valid_world c u) ≡ true)
    (sym (entries_again w fits valid.waiting.postponed es pairs))
    (and_from _ _ (and_from _ _ (and_from _ _ (lists_so _ _ (sym pairs)) (names_of w fits)) (below_so _ _ fits.served)) (valid_of c w valid))

pub told_again : (c : Config) (es : List Entry) (w : World) → IsWorld w → IsValidWorld c w → pairs_of es ≡ entries (flat w) → world_from es ≡ w
told_again c es w fits valid pairs = entries_again w fits valid.waiting.postponed es pairs

-- ---- a delayed queue
module _ (es : List Entry) (w : World) (fits : IsWorld w) (alone : queue_of w ≡ w) (pairs : pairs_of es ≡ entries (flat w)) where
  pub queue_again : world_from es ≡ w
  queue_again = entries_again w fits (subst ArePostponed alone (none_postponed w)) es pairs

  pub passing_queue : is_queue es ≡ true
  unfolding is_queue
  passing_queue =
      subst (λ u. (pointwise same_pair (entries (flat (queue_of u))) (pairs_of es) && numbers_fit u) ≡ true) (sym queue_again)
      (and_from _ _ (lists_so _ _ (ap (λ u. entries (flat u)) alone ∙ sym pairs)) (below_so _ _ fits.served))
