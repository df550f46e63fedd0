-- What fits its fields has no gas above 64 bits.
use Rattle.std.proofs.Common.{◌≡◌, ◌∙◌, ℕ, ◌^◌, ◌<◌, List, [], ◌∷◌, map, refl, arith}
use Rattle.std.specs.Prelude.{sum_by}
use Rattle.std.specs.FinMap.{entries, entries_sorted, get-entries, values}
use Rattle.std.specs.List.{AllByRecursion}
use Rattle.std.proofs.lemmas.List.Sums.{sum_by-cons}
use Rattle.nr_chunk.specs.Chain.{AreBounded}
use Rattle.nr_chunk.specs.Goodness.{AreGood, IsGood, IsSmall, large}
use Rattle.nr_chunk.specs.GoodReceipts.{none_in}
use Rattle.nr_config.specs.Config.{Config}
use Rattle.nr_fees.specs.Fees.{attached}
use Rattle.nr_receipt.specs.Keeping.{HasSmallCalls}
use Rattle.nr_records.specs.Actions.{IsAction}
use Rattle.nr_records.specs.Receipts.{IsBody, IsReceipt}
use Rattle.nr_records.specs.declared.action.Action.{Action}
use Rattle.nr_records.specs.declared.action.Action.TheVariants.{CreateAccount, DeployContract, FunctionCall}
use Rattle.nr_records.specs.declared.action.Action.TheVariants.{Transfer, AddKey, DeleteKey, DeleteAccount}
use Rattle.nr_records.specs.declared.receipt.Body.{Body}
use Rattle.nr_records.specs.declared.receipt.Body.TheVariants.{Act, Datum}
use Rattle.nr_records.specs.declared.receipt.Receipt.{Receipt}
use Rattle.nr_state.proofs.ValidOwned.{exact_data, pair_total}
use Rattle.nr_state.proofs.WorldsRead.{each_entry}
use Rattle.nr_state.specs.Valid.{IsBounded}
use Rattle.nr_state.specs.World.{World}
use Rattle.nr_state.specs.Worlds.{IsWorld}

-- ---- receipts
small_gas : (a : Action) → IsAction a → attached a < 2 ^ 64
small_gas CreateAccount fits = omega arith
small_gas (DeployContract code) fits = omega arith
small_gas (FunctionCall method args gas deposit) fits = fits.1.1.0
small_gas (Transfer deposit) fits = omega arith
small_gas (AddKey key access) fits = omega arith
small_gas (DeleteKey key) fits = omega arith
small_gas (DeleteAccount beneficiary) fits = omega arith

all_small : (actions : List Action) → AllByRecursion IsAction actions
    → AllByRecursion (λ a. attached a < 2 ^ 64) actions
all_small [] fits = tt
all_small (a ∷ rest) fits = (small_gas a fits.0, all_small rest fits.1)

small_calls : (b : Body) → IsBody b → HasSmallCalls b
small_calls (Act act) fits = all_small act.actions fits.1.1.1.1.1.1
small_calls (Datum d) fits = tt

pub good_one : (c : Config) (r : Receipt) → IsReceipt r → IsBounded c r → IsGood c r
good_one c r fits bounded = record { bounded = bounded; calls = small_calls r.body fits.1.1.1 }

pub good_all : (c : Config) (list : List Receipt) → AllByRecursion IsReceipt list → AreBounded c list → AreGood c list
good_all c [] fits bounded = tt
good_all c (r ∷ rest) fits bounded = (good_one c r fits.0 bounded.0, good_all c rest fits.1 bounded.1)

-- ---- worlds
none_large : (list : List Receipt) → AllByRecursion IsReceipt list → sum_by large list ≡ 0
none_large [] fits = refl
none_large (r ∷ rest) fits =
    let here : large r ≡ 0 = none_in r.body (small_calls r.body fits.0.1.1.1) in
    omega (arith, sum_by-cons large r rest, here, none_large rest fits.1)

abbrev Entries : Type 0
Entries = List ((List ℕ × List ℕ) × Receipt)

of_values : (es : Entries) → AllByRecursion (λ e. IsReceipt e.1) es → AllByRecursion IsReceipt (map (λ e. e.1) es)
of_values [] all = tt
of_values (e ∷ es) all = (all.0, of_values es all.1)

pub small_world : (w : World) → IsWorld w → IsSmall w
small_world w is = record {
  postponed =
      none_large (values w.postponed)
      (of_values (entries w.postponed)
      (each_entry pair_total exact_data (λ k r. IsReceipt r) (entries w.postponed) (entries_sorted w.postponed)
      (λ k r found. (is.postponed k r (get-entries w.postponed k ∙ found)).1.1)));
  delayed = none_large w.delayed is.delayed;
}
