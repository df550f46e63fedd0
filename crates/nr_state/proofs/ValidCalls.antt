-- Changes of an account's balance and data leave all else as it was.
use Rattle.std.proofs.Common.{◌≡◌, ℕ, true, false, cond, List, Option, Some, None, refl, ap, ◌∙◌}
use Rattle.std.specs.Prelude.{◌≢◌}
use Rattle.std.specs.FinMap.{FinMap, get, insert, remove, get-insert, get-remove}
use Rattle.std.specs.Ordering.{eq_by_cmp}
use Rattle.std.specs.Str.{bytes_eq}
use Rattle.nr_config.specs.Config.{Config}
use Rattle.nr_records.specs.declared.account.Account.{Account}
use Rattle.nr_state.specs.Calls.{ChangesOnly, GoesOn}
use Rattle.nr_state.specs.Changes.{with_moved, usage_of_datum, set_datum, removed_datum}
use Rattle.nr_state.specs.Usage.{datum_usage}
use Rattle.nr_state.specs.World.{World, bytes_cmp, pair_cmp, with_account}
use Rattle.nr_state.proofs.ValidSums.{equal}
use Rattle.nr_state.proofs.ValidOwned.{pair_total, exact_data, same_id, itself, get_written}

goes_on : (a : Option Account) → GoesOn a a
goes_on None = tt
goes_on (Some a) = refl

goes_further : (a b c : Option Account) → GoesOn a b → GoesOn b c → GoesOn a c
goes_further None None None g h = tt
goes_further None None (Some c) g h = absurd h
goes_further None (Some b) c g h = absurd g
goes_further (Some a) None c g h = absurd g
goes_further (Some a) (Some b) None g h = absurd h
goes_further (Some a) (Some b) (Some c) g h = h ∙ ap (λ (x : Account). record x { amount = c.amount; storage_usage = c.storage_usage }) g

-- ---- look-ups at other keys
other_account : (m : FinMap bytes_cmp Account) (id q : List ℕ) (new : Account) → q ≢ id → get (insert m id new) q ≡ get m q
other_account m id q new ne =
    get_written m id new q
    ∙ elim (bytes_eq q id) as (λ b. bytes_eq q id ≡ b → cond b (Some new) (get m q) ≡ get m q) [ true ↦ λ t. absurd (ne (same_id q id t)) | false ↦ λ t. refl ] refl

this_account : (m : FinMap bytes_cmp Account) (id : List ℕ) (new : Account) → get (insert m id new) id ≡ Some new
this_account m id new = get_written m id new id ∙ ap (λ b. cond b (Some new) (get m id)) (itself id)

module _ (m : FinMap pair_cmp (List ℕ)) (id key : List ℕ) (k : List ℕ × List ℕ) (ne : k.0 ≢ id) where
  other_datum : (o : Option (List ℕ)) → cond (eq_by_cmp pair_cmp k (id, key)) o (get m k) ≡ get m k
  other_datum o =
      elim (eq_by_cmp pair_cmp k (id, key)) as (λ b. eq_by_cmp pair_cmp k (id, key) ≡ b → cond b o (get m k) ≡ get m k) [
        | true ↦ λ t. absurd (ne (ap (λ (p : List ℕ × List ℕ). p.0) (exact_data k (id, key) (equal _ t))))
        | false ↦ λ t. refl
      ] refl

  datum_written : (value : List ℕ) → get (insert m (id, key) value) k ≡ get m k
  datum_written value = get-insert pair_total m (id, key) value k ∙ other_datum (Some value)

  datum_gone : get (remove m (id, key)) k ≡ get m k
  datum_gone = get-remove pair_total m (id, key) k ∙ other_datum None

-- ---- the changes
pub changes_nothing : (id : List ℕ) (w : World) → ChangesOnly id w w
changes_nothing id w = record { rest = refl; others = λ q ne. refl; account = goes_on (get w.accounts id); data_of = λ k ne. refl }

pub changes_chained : (id : List ℕ) (w v after : World) → ChangesOnly id w v → ChangesOnly id v after → ChangesOnly id w after
changes_chained id w v after p q = record {
  rest = q.rest ∙ ap (λ (x : World). record x { accounts = after.accounts; data_of = after.data_of }) p.rest;
  others = λ x ne. q.others x ne ∙ p.others x ne;
  account = goes_further (get w.accounts id) (get v.accounts id) (get after.accounts id) p.account q.account;
  data_of = λ k ne. q.data_of k ne ∙ p.data_of k ne;
}

pub changes_account : (id : List ℕ) (w : World) (old new : Account) → get w.accounts id ≡ Some old → GoesOn (Some old) (Some new) → ChangesOnly id w (with_account w id new)
changes_account id w old new is goes = record {
  rest = refl;
  others = λ q ne. other_account w.accounts id q new ne;
  account = rw (is, this_account w.accounts id new) goes;
  data_of = λ k ne. refl;
}

changes_data : (id : List ℕ) (w : World) (entries : FinMap pair_cmp (List ℕ)) (less more : ℕ) → ((k : List ℕ × List ℕ) → k.0 ≢ id → get entries k ≡ get w.data_of k) → ChangesOnly id w (with_moved (record w { data_of = entries }) id less more (get w.accounts id))
changes_data id w entries less more same =
    let base : World = record w { data_of = entries } in
    let first : ChangesOnly id w base = record { rest = refl; others = λ q ne. refl; account = goes_on (get w.accounts id); data_of = same } in
    elim (get w.accounts id) as (λ o. get w.accounts id ≡ o → ChangesOnly id w (with_moved base id less more o)) [
      | None ↦ λ is. first
      | Some old ↦ λ is. changes_chained id w base _ first (changes_account id base old _ is refl)
    ] refl

pub changes_datum : (c : Config) (id key value : List ℕ) (w : World) → ChangesOnly id w (set_datum c w id key value)
changes_datum c id key value w = changes_data id w (insert w.data_of (id, key) value) (usage_of_datum c w id key) (datum_usage c key value) (λ k ne. datum_written w.data_of id key k ne value)

pub changes_no_datum : (c : Config) (id key : List ℕ) (w : World) → ChangesOnly id w (removed_datum c w id key)
changes_no_datum c id key w = changes_data id w (remove w.data_of (id, key)) (usage_of_datum c w id key) 0 (λ k ne. datum_gone w.data_of id key k ne)
