-- Offering by its cases.
use Rattle.std.proofs.Common.{◌≡◌, ℕ, Bool, true, false, cond, not, Option, Some, None, sym, ap, subst, ◌∙◌, arith}
use Rattle.std.specs.Prelude.{is_some, nat_eq, nat_lt, option_map, Result}
use Rattle.std.specs.FinMap.{get}
use Rattle.std.proofs.lemmas.Bool.Decides.{nat_tests}
use Rattle.nr_join.specs.Offering.{offer_actions, store, offer_datum, offer_body, offer, Offers}
use Rattle.nr_join.specs.Parts.{is_complete}
use Rattle.nr_join.specs.declared.offered.Held.TheVariants.{Arrived}
use Rattle.nr_join.specs.declared.offered.Offered.{Offered}
use Rattle.nr_join.specs.declared.offered.Offered.TheVariants.{Clash}
use Rattle.nr_records.specs.declared.receipt.ActionReceipt.{ActionReceipt}
use Rattle.nr_records.specs.declared.receipt.Body.{Body}
use Rattle.nr_records.specs.declared.receipt.Body.TheVariants.{Act, Datum}
use Rattle.nr_records.specs.declared.receipt.DataReceipt.{DataReceipt}
use Rattle.nr_records.specs.declared.receipt.Receipt.{Receipt}
use Rattle.nr_state.specs.Changes.{with_received}
use Rattle.nr_state.specs.Flat.{missing_inputs}
use Rattle.nr_state.specs.View.{StateView}
use Rattle.nr_state.specs.World.{World}
use Rattle.nr_state.proofs.OwnInputs.{waits_lacking}

module _ {E : Type 0} (result : Result Offered E) (old new : StateView) (r : Receipt) where
  pub of_actions : (act : ActionReceipt) → r.body ≡ Act act → Offers result old new (offer_actions old.world r) → Offers result old new (offer old.world r)
  unfolding offer
  of_actions act is h = subst (λ (b : Body). Offers result old new (offer_body old.world r b)) (sym is) h

  of_datum : (d : DataReceipt) → r.body ≡ Datum d → Offers result old new (offer_datum old.world r d) → Offers result old new (offer old.world r)
  unfolding offer
  of_datum d is h = subst (λ (b : Body). Offers result old new (offer_body old.world r b)) (sym is) h

  pub of_stored : (d : DataReceipt) → r.body ≡ Datum d → is_some (get old.world.received (r.receiver, d.data_id.0)) ≡ false
      → Offers result old new (store (with_received old.world r.receiver d.data_id d.bytes) r d.data_id) → Offers result old new (offer old.world r)
  of_stored d is none h =
      of_datum d is (subst (λ (b : Bool). Offers result old new (cond b (old.world, Clash r (Arrived d.data_id)) (store (with_received old.world r.receiver d.data_id d.bytes) r d.data_id))) (sym none) h)

pub arrived : (w : World) (r : Receipt) (d : DataReceipt) → r.body ≡ Datum d → is_some (get w.received (r.receiver, d.data_id.0)) ≡ true → offer w r ≡ (w, Clash r (Arrived d.data_id))
unfolding offer
arrived w r d is some =
    ap (offer_body w r) is ∙ ap (λ b. cond b (w, Clash r (Arrived d.data_id)) (store (with_received w r.receiver d.data_id d.bytes) r d.data_id)) some

-- ---- who waits for a datum
none_lacks : (n : ℕ) → nat_eq n 0 ≡ not (nat_lt 0 n)
none_lacks n = grind (arith, nat_tests)

pub counted : (w : World) (o : Option Receipt) (n : ℕ) → Some n ≡ option_map (missing_inputs w) o → nat_eq n 0 ≡ is_complete w o
counted w None n e = absurd cc
counted w (Some q) n e = let same : n ≡ missing_inputs w q = cc in ap (λ m. nat_eq m 0) same ∙ none_lacks (missing_inputs w q) ∙ ap not (waits_lacking w q)
