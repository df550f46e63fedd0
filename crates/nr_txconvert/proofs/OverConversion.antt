-- Conversion in a world that is put together from two.
use Rattle.std.proofs.Common.{◌≡◌, ℕ, true, List, Option, Some, None, Ok, Err, refl, ap, ◌∙◌}
use Rattle.std.specs.FinMap.{get}
use Rattle.nr_config.specs.Config.{Config}
use Rattle.nr_records.specs.declared.access_key.AccessKey.{AccessKey}
use Rattle.nr_records.specs.declared.account.Account.{Account}
use Rattle.nr_records.specs.declared.transaction.Transaction.{Transaction}
use Rattle.nr_state.specs.Changes.{set_key}
use Rattle.nr_state.specs.World.{World, with_account}
use Rattle.nr_state.specs.declared.place.Place.{Place}
use Rattle.nr_txconvert.specs.Conversion.{Conversion, convert, by_signer, by_key, unless_refused, charged, converted}
use Rattle.nr_txconvert.specs.Conversion.{paid_account, used_key}
use Rattle.nr_txconvert.specs.Refusals.{refusals, first_refusal}
use Rattle.nr_txconvert.specs.declared.fault.TxFault.{TxFault}
use Rattle.nr_state.proofs.OverWorlds.{seen, key_seen, account_written, key_set}
use Rattle.nr_state.specs.Scopes.{Scope, over}

abbrev pub over_conversion : Scope → World → Conversion → Conversion
over_conversion p v (Ok made) = Ok (over p made.0 v, made.1)
over_conversion p v (Err fault) = Err fault

module _ (p : Scope) (v : World) (c : Config) (tx : Transaction) (place : Place) (own : p.own tx.signer
    ≡ true) (keys : p.keys tx.signer ≡ true) where
  charged_over : (w : World) (account : Account) (key : AccessKey)
      → charged c (over p w v) tx place.price account key ≡ over p (charged c w tx place.price account key) v
  charged_over w account key =
      let paid : Account = paid_account c tx place.price account in
      let used : AccessKey = used_key c tx place.price key in
      ap (λ u. set_key c u tx.signer tx.public_key used) (account_written p v w tx.signer paid own)
      ∙ key_set p v c (with_account w tx.signer paid) tx.signer tx.public_key used own keys

  unless : (w : World) (account : Account) (key : AccessKey) (o : Option TxFault)
      → unless_refused c (over p w v) tx place account key o
      ≡ over_conversion p v (unless_refused c w tx place account key o)
  unless w account key None = ap (λ u. Ok (u, converted c tx place)) (charged_over w account key)
  unless w account key (Some fault) = refl

  with_key : (w : World) (account : Account) (o : Option AccessKey)
      → by_key c (over p w v) tx place account o ≡ over_conversion p v (by_key c w tx place account o)
  with_key w account None = refl
  with_key w account (Some key) = unless w account key (first_refusal (refusals c tx place.price account key))

  with_signer : (w : World) (o : Option Account)
      → by_signer c (over p w v) tx place o ≡ over_conversion p v (by_signer c w tx place o)
  with_signer w None = refl
  with_signer w (Some account) =
      ap (by_key c (over p w v) tx place account) (key_seen p v w tx.signer tx.public_key keys)
      ∙ with_key w account (get w.keys (tx.signer, tx.public_key))

  -- it looks at the signer and the signer's key alone
  pub convert_over : (w : World) → convert c (over p w v) tx place ≡ over_conversion p v (convert c w tx place)
  unfolding convert
  convert_over w =
      ap (by_signer c (over p w v) tx place) (seen p v w tx.signer own) ∙ with_signer w (get w.accounts tx.signer)

-- ---- the receipt goes to the transaction's receiver
abbrev pub GoesTo : List ℕ → Conversion → Type 0
GoesTo id (Ok made) = made.1.receipt.receiver ≡ id
GoesTo id (Err fault) = Unit {0}

module _ (c : Config) (w : World) (tx : Transaction) (place : Place) where
  goes_unless : (account : Account) (key : AccessKey) (o : Option TxFault)
      → GoesTo tx.receiver (unless_refused c w tx place account key o)
  goes_unless account key None = refl
  goes_unless account key (Some fault) = tt

  goes_by_key : (account : Account) (o : Option AccessKey) → GoesTo tx.receiver (by_key c w tx place account o)
  goes_by_key account None = tt
  goes_by_key account (Some key) = goes_unless account key (first_refusal (refusals c tx place.price account key))

  goes_by_signer : (o : Option Account) → GoesTo tx.receiver (by_signer c w tx place o)
  goes_by_signer None = tt
  goes_by_signer (Some account) = goes_by_key account (get w.keys (tx.signer, tx.public_key))

  pub convert_goes : GoesTo tx.receiver (convert c w tx place)
  unfolding convert
  convert_goes = goes_by_signer (get w.accounts tx.signer)
