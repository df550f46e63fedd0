-- What a conversion that isn't refused keeps.
use Rattle.std.proofs.Common.{◌≡◌, ℕ, ◌+◌, ◌*◌, ◌^◌, ◌<◌, ◌≤◌, Bool, true, false, cond, List, [], ◌∷◌, Option, Some, None, Ok, refl, ap, subst, arith}
use Rattle.std.specs.Prelude.{◌||◌, nat_lt, nat_le}
use Rattle.std.specs.Result.{result_unwrap_or}
use Rattle.std.specs.FinMap.{get}
use Rattle.std.specs.List.{AllByRecursion}
use Rattle.std.proofs.lemmas.Bool.{or_parts}
use Rattle.std.proofs.lemmas.Bool.Decides.{nat_tests}
use Rattle.nr_config.specs.Config.{Config}
use Rattle.nr_fees.specs.Fees.{exec_gas, attached_gas, deposits, prepaid_gas, receipt_tokens}
use Rattle.nr_ids.specs.Grammar.{is_system}
use Rattle.nr_records.specs.declared.access_key.AccessKey.{AccessKey}
use Rattle.nr_records.specs.declared.access_key.Permission.{Permission}
use Rattle.nr_records.specs.declared.access_key.Permission.TheVariants.{Call, Full}
use Rattle.nr_records.specs.declared.account.Account.{Account}
use Rattle.nr_records.specs.declared.transaction.Transaction.{Transaction}
use Rattle.nr_state.specs.Changes.{with_moved, usage_of_key}
use Rattle.nr_state.specs.Keeping.{IsKept, MovesTokens}
use Rattle.nr_state.specs.Tokens.{world_tokens}
use Rattle.nr_state.specs.Usage.{key_usage}
use Rattle.nr_state.specs.Valid.{IsValidWorld, IsBounded}
use Rattle.nr_state.specs.World.{World, with_account, with_key}
use Rattle.nr_state.specs.declared.place.Place.{Place}
use Rattle.nr_txconvert.specs.Costs.{sending_gas, whole_gas, whole_cost}
use Rattle.nr_txconvert.specs.Refusals.{refusals, first_refusal}
use Rattle.nr_txconvert.specs.Conversion.{receipt_of, converted, paid_account, used_key, charged, unless_refused, by_key, by_signer, convert}
use Rattle.nr_txconvert.specs.Keeping.{IsPaid}
use Rattle.nr_txconvert.specs.declared.converted.Converted.{Converted}
use Rattle.nr_txconvert.specs.declared.fault.TxFault.{TxFault}
use Rattle.nr_txconvert.proofs.Charging.{stands_with_account}

-- ---- where nothing is refused, no test holds
unless_none : (b : Bool) (fault : TxFault) (o : Option TxFault) → cond b (Some fault) o ≡ None → (b ≡ false) × (o ≡ None)
unless_none true fault o e = absurd cc
unless_none false fault o e = (refl, e)

none_holds : (list : List (Bool × TxFault)) → first_refusal list ≡ None → AllByRecursion (λ r. r.0 ≡ false) list
none_holds [] e = tt
none_holds (r ∷ rs) e =
    let here : (r.0 ≡ false) × (first_refusal rs ≡ None) = unless_none r.0 r.1 (first_refusal rs) e in
    (here.0, none_holds rs here.1)

not_below : (m n : ℕ) → nat_lt m n ≡ false → n ≤ m
not_below m n e = grind (arith, nat_tests)

not_above : (m n : ℕ) → nat_le m n ≡ false → n < m
not_above m n e = grind (arith, nat_tests)

-- ---- what the signer pays for
pub record IsPayable (c : Config) (tx : Transaction) (price : ℕ) (account : Account) : Type 0 where
  pub gas : whole_gas c tx < 2 ^ 64
  pub enough : whole_cost c tx price ≤ account.amount

payable : (c : Config) (tx : Transaction) (price : ℕ) (account : Account) (key : AccessKey) → first_refusal (refusals c tx price account key) ≡ None → IsPayable c tx price account
payable c tx price account key e = by key.permission e
  where
    pays : (nat_le (2 ^ 64) (whole_gas c tx) || nat_le (2 ^ 128) (whole_cost c tx price)) ≡ false → nat_lt account.amount (whole_cost c tx price) ≡ false → IsPayable c tx price account
    pays dear poor = record {
      gas = not_above (2 ^ 64) (whole_gas c tx) (or_parts (nat_le (2 ^ 64) (whole_gas c tx)) (nat_le (2 ^ 128) (whole_cost c tx price)) dear).0;
      enough = not_below account.amount (whole_cost c tx price) poor;
    }

    by : (p : Permission) → first_refusal (refusals c tx price account (record key { permission = p })) ≡ None → IsPayable c tx price account
    by (Call call) h =
        let all : AllByRecursion (λ r. r.0 ≡ false) (refusals c tx price account (record key { permission = Call call })) = none_holds (refusals c tx price account (record key { permission = Call call })) h in
        pays all.1.1.1.1.1.1.1.0 all.1.1.1.1.1.1.1.1.1.0
    by Full h =
        let all : AllByRecursion (λ r. r.0 ≡ false) (refusals c tx price account (record key { permission = Full })) = none_holds (refusals c tx price account (record key { permission = Full })) h in
        pays all.1.1.1.0 all.1.1.1.1.1.0

-- ---- the world behind it
-- of a key that is written, all but accounts and keys is the same
moved_rest : (w : World) (id : List ℕ) (less more : ℕ) (o : Option Account) → with_moved w id less more o ≡ record w { accounts = (with_moved w id less more o).accounts; keys = (with_moved w id less more o).keys }
moved_rest w id less more None = refl
moved_rest w id less more (Some account) = refl

shared : (s e a p : ℕ) → (s + e + a) * p ≡ s * p + (e + a) * p
shared s e a p = grind arith

module _ (c : Config) (w : World) (tx : Transaction) (place : Place) (account : Account) (key : AccessKey)
    (kept : (v : World) → IsValidWorld c v → IsKept c v) (moves : (v : World) → MovesTokens c v)
    (valid : IsValidWorld c w) (signer : get w.accounts tx.signer ≡ Some account) (pays : IsPayable c tx place.price account) where
  abbrev paid : Account
  paid = paid_account c tx place.price account

  abbrev poorer : World
  poorer = with_account w tx.signer paid

  abbrev after : World
  after = charged c w tx place.price account key

  plain : is_system tx.signer ≡ false
  plain = valid.accounts.no_system tx.signer (rw signer refl)

  poorer_tokens : world_tokens c poorer + whole_cost c tx place.price ≡ world_tokens c w
  poorer_tokens = omega (arith, (moves w).account_changed tx.signer account paid signer, pays.enough)

  poorer_valid : IsValidWorld c poorer
  poorer_valid = (kept w valid).account_changed tx.signer account paid signer refl refl (omega (arith, poorer_tokens, valid.tokens))

  after_valid : IsValidWorld c after
  after_valid = (kept poorer poorer_valid).key_set tx.signer tx.public_key (used_key c tx place.price key) (stands_with_account w tx.signer paid)

  after_tokens : world_tokens c after + whole_cost c tx place.price ≡ world_tokens c w
  after_tokens = omega (arith, (moves poorer).key_set tx.signer tx.public_key (used_key c tx place.price key), poorer_tokens)

  receipt_holds : receipt_tokens c (receipt_of tx place) ≡ deposits tx.actions + prepaid_gas c tx.actions * place.price
  receipt_holds = ap (λ b. deposits tx.actions + cond b 0 (prepaid_gas c tx.actions * place.price)) plain

  whole_shared : whole_cost c tx place.price ≡ sending_gas c tx * place.price + prepaid_gas c tx.actions * place.price + deposits tx.actions
  whole_shared = omega (arith, shared (sending_gas c tx) (exec_gas c tx.actions) (attached_gas tx.actions) place.price)

  bounded : place.price < 2 ^ 64 → IsBounded c (receipt_of tx place)
  bounded h = record { price = h; gas = rw plain (omega (arith, pays.gas)) }

  pub is_paid : IsPaid c w place.price after (converted c tx place)
  is_paid = record {
    valid = after_valid;
    tokens = omega (arith, after_tokens, receipt_holds, whole_shared);
    rest = moved_rest (with_key poorer tx.signer tx.public_key (used_key c tx place.price key)) tx.signer (usage_of_key c poorer tx.signer tx.public_key) (key_usage c tx.public_key (used_key c tx place.price key)) (get poorer.accounts tx.signer);
    action = refl;
    bounded = bounded;
  }

-- ---- the whole
module _ (kept : (c : Config) (w : World) → IsValidWorld c w → IsKept c w) (moves : (c : Config) (w : World) → MovesTokens c w)
    (c : Config) (w : World) (tx : Transaction) (place : Place) (after : World) (made : Converted) (valid : IsValidWorld c w) where
  at_refusal : (account : Account) (key : AccessKey) (o : Option TxFault) → get w.accounts tx.signer ≡ Some account → first_refusal (refusals c tx place.price account key) ≡ o
      → unless_refused c w tx place account key o ≡ Ok (after, made) → IsPaid c w place.price after made
  at_refusal account key None signer e is =
      let pair : (charged c w tx place.price account key, converted c tx place) ≡ (after, made) = ap (λ r. result_unwrap_or r (charged c w tx place.price account key, converted c tx place)) is in
      let first : IsPaid c w place.price (charged c w tx place.price account key) (converted c tx place) = is_paid c w tx place account key (kept c) (moves c) valid signer (payable c tx place.price account key e) in
      let second : IsPaid c w place.price after (converted c tx place) = subst (λ v. IsPaid c w place.price v (converted c tx place)) (ap (λ p. p.0) pair) first in
      subst (λ m. IsPaid c w place.price after m) (ap (λ p. p.1) pair) second
  at_refusal account key (Some fault) signer e is = absurd cc

  at_key : (account : Account) (o : Option AccessKey) → get w.accounts tx.signer ≡ Some account → by_key c w tx place account o ≡ Ok (after, made) → IsPaid c w place.price after made
  at_key account None signer is = absurd cc
  at_key account (Some key) signer is = at_refusal account key (first_refusal (refusals c tx place.price account key)) signer refl is

  at_signer : (o : Option Account) → get w.accounts tx.signer ≡ o → by_signer c w tx place o ≡ Ok (after, made) → IsPaid c w place.price after made
  at_signer None signer is = absurd cc
  at_signer (Some account) signer is = at_key account (get w.keys (tx.signer, tx.public_key)) signer is

  pub conversion_pays : convert c w tx place ≡ Ok (after, made) → IsPaid c w place.price after made
  unfolding convert
  conversion_pays is = at_signer (get w.accounts tx.signer) refl is
