-- The conversion by its cases.
use Rattle.std.proofs.Common.{◌≡◌, ℕ, ◌-◌, ◌*◌, Option, Some, None, Ok, Err, refl, sym, ap, ◌∙◌}
use Rattle.std.specs.FinMap.{get}
use Rattle.nr_config.specs.Config.{Config}
use Rattle.nr_records.specs.declared.account.Account.{Account}
use Rattle.nr_records.specs.declared.access_key.AccessKey.{AccessKey}
use Rattle.nr_records.specs.declared.receipt.Receipt.{Receipt}
use Rattle.nr_records.specs.declared.transaction.Transaction.{Transaction}
use Rattle.nr_state.specs.View.{StateView, with_world}
use Rattle.nr_state.specs.Changes.{set_key}
use Rattle.nr_state.specs.World.{World, with_account}
use Rattle.nr_state.specs.declared.place.Place.{Place}
use Rattle.nr_txconvert.specs.Refusals.{refusals, first_refusal}
use Rattle.nr_txconvert.specs.Conversion.{receipt_of, converted, charged, lowered, unless_refused, convert, Converts}
use Rattle.nr_txconvert.specs.Parts.{Judges, cost_is}
use Rattle.nr_txconvert.specs.declared.cost.Cost.{Cost}
use Rattle.nr_txconvert.specs.declared.fault.TxFault.{TxFault}
use Rattle.nr_txconvert.specs.declared.fault.TxFault.TheVariants.{NoSigner, NoKey}

module _ (c : Config) (w : World) (tx : Transaction) (place : Place) where
  pub no_signer : get w.accounts tx.signer ≡ None → convert c w tx place ≡ Err NoSigner
  unfolding convert
  no_signer e = rw e refl

  module _ (account : Account) (signer : get w.accounts tx.signer ≡ Some account) where
    pub no_key : get w.keys (tx.signer, tx.public_key) ≡ None → convert c w tx place ≡ Err NoKey
    unfolding convert
    no_key e = rw (signer, e) refl

    module _ (key : AccessKey) (keyed : get w.keys (tx.signer, tx.public_key) ≡ Some key) where
      by_first : (o : Option TxFault) → first_refusal (refusals c tx place.price account key) ≡ o → convert c w tx place ≡ unless_refused c w tx place account key o
      unfolding convert
      by_first o e = rw (signer, keyed, e) refl

      pub refuses : (fault : TxFault) → first_refusal (refusals c tx place.price account key) ≡ Some fault → convert c w tx place ≡ Err fault
      refuses fault e = by_first (Some fault) e

      pub accepts : first_refusal (refusals c tx place.price account key) ≡ None → convert c w tx place ≡ Ok (charged c w tx place.price account key, converted c tx place)
      accepts e = by_first None e

-- the whole cost taken off, and the key as it is once it was used
pub charges : (c : Config) (w : World) (tx : Transaction) (price : ℕ) (account : Account) (key used : AccessKey) (cost : Cost)
    → cost ≡ cost_is c tx price → used ≡ record { nonce = tx.nonce; permission = lowered cost.gas key.permission }
    → set_key c (with_account w tx.signer (record account { amount = account.amount - cost.whole })) tx.signer tx.public_key used ≡ charged c w tx price account key
charges c w tx price account key used cost is so =
    ap (λ (k : AccessKey). set_key c (with_account w tx.signer (record account { amount = account.amount - cost.whole })) tx.signer tx.public_key k) so
    ∙ ap (λ (x : Cost). set_key c (with_account w tx.signer (record account { amount = account.amount - x.whole })) tx.signer tx.public_key (record { nonce = tx.nonce; permission = lowered x.gas key.permission })) is

abbrev some : AccessKey → Option AccessKey
some key = Some key

pub same_key : (o : Option AccessKey) (x y : AccessKey) → o ≡ Some x → o ≡ Some y → x ≡ y
same_key o x y e d = same (sym e ∙ d)
  where
    same : some x ≡ some y → x ≡ y
    same e = cc

-- what was paid and made is what the definition says
pub converts : (c : Config) (old new : StateView) (tx : Transaction) (place : Place) (account : Account) (key : AccessKey) (cost : Cost) (receipt : Receipt) (burnt : ℕ)
    → old.config ≡ c → get old.world.accounts tx.signer ≡ Some account → get old.world.keys (tx.signer, tx.public_key) ≡ Some key
    → Judges (Ok cost) c tx place.price account key → receipt ≡ receipt_of tx place → burnt ≡ cost.sending * place.price
    → new ≡ with_world old (charged old.config old.world tx place.price account key)
    → Converts c (Ok (record { receipt = receipt; gas = cost.sending; burnt = burnt })) old new tx place
converts c old new tx place account key cost receipt burnt config signer keyed judged is_receipt is_burnt after =
    let world : new.world ≡ charged old.config old.world tx place.price account key = ap (λ s. s.world) after in
    let under : charged old.config old.world tx place.price account key ≡ charged c old.world tx place.price account key = ap (λ d. charged d old.world tx place.price account key) config in
    let sending : cost.sending ≡ (converted c tx place).gas = ap (λ x. x.sending) judged.1 in
    let first : charged c old.world tx place.price account key ≡ new.world = sym (world ∙ under) in
    let burns : (converted c tx place).burnt ≡ burnt = sym (is_burnt ∙ ap (λ n. n * place.price) sending) in
    let second : converted c tx place ≡ record { receipt = receipt; gas = cost.sending; burnt = burnt } =
    λ i. record { receipt = sym is_receipt i; gas = sym sending i; burnt = burns i } in (
      accepts c old.world tx place account signer key keyed judged.0 ∙ (λ i. Ok (first i, second i)),
      after ∙ ap (with_world old) (sym world),
    )
