-- What a try to take the next list leaves.
use Rattle.std.proofs.Common.{◌≡◌, ℕ, ◌+◌, ◌<◌, ◌≤◌, true, false, Option, Ok, length, sym, ap, ◌∙◌, subst, arith}
use Rattle.nr_overlap.specs.Rules.{Rules}
use Rattle.nr_overlap.specs.Serial.{list_to, sealing_at}
use Rattle.nr_exchange.specs.declared.planned.Serial.{Serial}
use Rattle.nr_exchange.specs.SerialPlan.{serial_plan}
use Rattle.nr_exchange.specs.declared.port.Parcel.TheVariants.{Whole}
use Rattle.nr_exchange.specs.Plan.{plan_of, IsNextChunk}
use Rattle.nr_exchange.specs.Notes.{link, claims, gave_back}
use Rattle.nr_exchange.specs.Views.{ExchangeView, PortView}
use Rattle.nr_exchange.specs.Ports.{IsPortOf, Takes}
use Rattle.nr_workers.specs.Taking.{done_after, source_after, HasClaimed, Finds, IsInbox}
use Rattle.nr_workers.specs.declared.inbox.Inbox.{Inbox}
use Rattle.nr_workers.specs.declared.inbox.Found.TheVariants.{Passed}
use Rattle.nr_exchange.proofs.Claimed.{taken_here, taken_else}
use Rattle.nr_workers.proofs.Orders.{none_of}
use Rattle.nr_workers.proofs.Takings.{last_there, is_next, goes_on, goes_past}

module _ {P W K L R : Type 0} (rules : P → Rules W K L R) (e : ExchangeView (Serial P W K L R)) where
  pub next_chunk : (last : ℕ) (i : Inbox P W K L R) → IsInbox rules e i → i.done < last → last ≤ (rules e.run.0).heights → (rules e.run.0).present i.source (i.done + 1) ≡ true
      → IsNextChunk (plan_of (rules e.run.0)) i.source (link i.port.note i.source).claimed (i.done + 1)
  next_chunk last i inbox below within there =
      let r = rules e.run.0 in
      is_next r i.port.note i.done i.source (inbox.claimed i.source inbox.source_there ∙ ap (Rattle.nr_overlap.specs.Serial.last_present r i.source) (none_of i.source i.source (i.done + 1) i.done (omega arith))) (omega arith) there

  moved : (i i' : Inbox P W K L R) → IsInbox rules e i → IsPortOf (serial_plan rules) e i'.port → i'.done ≡ done_after (rules e.run.0).shards i.done i.source → i'.source ≡ source_after (rules e.run.0).shards i.source
      → HasClaimed (rules e.run.0) i'.port.note (done_after (rules e.run.0).shards i.done i.source) (source_after (rules e.run.0).shards i.source) → IsInbox rules e i'
  moved i i' inbox port_of done source claimed =
      let r = rules e.run.0 in
      record {
        port_of = port_of;
        source_there = subst (λ (n : ℕ). n < r.shards) (sym source) (after_there r.shards i.source inbox.source_there);
        claimed = subst (λ (n : ℕ). HasClaimed r i'.port.note n i'.source) (sym done) (subst (λ (n : ℕ). HasClaimed r i'.port.note (done_after r.shards i.done i.source) n) (sym source) claimed);
      }
    where
      after_there : (shards n : ℕ) → n < shards → source_after shards n < shards
      after_there shards n lt = grind (arith, Rattle.std.proofs.lemmas.Bool.Decides.nat_tests)

  -- a source without a chunk
  pub passes : (shards : ℕ) (i i' : Inbox P W K L R) → IsInbox rules e i → (rules e.run.0).present i.source (i.done + 1) ≡ false → shards ≡ (rules e.run.0).shards → i'.port ≡ i.port → i'.done ≡ done_after shards i.done i.source → i'.source ≡ source_after shards i.source
      → IsInbox rules e i'
  passes shards i i' inbox missing all port done source =
      let r = rules e.run.0 in
      moved i i' inbox (subst (IsPortOf (serial_plan rules) e) (sym port) inbox.port_of) (done ∙ ap (λ (n : ℕ). done_after n i.done i.source) all) (source ∙ ap (λ (n : ℕ). source_after n i.source) all)
      (subst (λ p. HasClaimed r p.note (done_after r.shards i.done i.source) (source_after r.shards i.source)) (sym port) (goes_past r i.port.note i.done i.source inbox.claimed inbox.source_there missing))

  -- a list came
  pub takes : (shards : ℕ) (i i' : Inbox P W K L R) (port : PortView (Serial P W K L R)) (list : L) → IsInbox rules e i → (rules e.run.0).present i.source (i.done + 1) ≡ true → Takes (plan_of (rules e.run.0)) i.source (i.done + 1) i.port.note (Ok (Whole list)) port.note → IsPortOf (serial_plan rules) e port
      → shards ≡ (rules e.run.0).shards → i'.port ≡ port → i'.done ≡ done_after shards i.done i.source → i'.source ≡ source_after shards i.source → IsInbox rules e i'
  takes shards i i' port list inbox there took port_of all port_is done source =
      let r = rules e.run.0 in
      let v = i.port.note in
      let within : i.source < length v.links = (let l = inbox.port_of.linked in let t = inbox.source_there in omega arith) in
      let note : i'.port.note ≡ gave_back (claims v i.source took.0 (i.done + 1)) i.source = ap (λ p. p.note) port_is ∙ took.2.2 in
      moved i i' inbox (subst (IsPortOf (serial_plan rules) e) (sym port_is) port_of) (done ∙ ap (λ (n : ℕ). done_after n i.done i.source) all) (source ∙ ap (λ (n : ℕ). source_after n i.source) all)
      (goes_on r v i'.port.note i.done i.source inbox.claimed
      (ap (λ w. (link w i.source).claimed) note ∙ taken_here v i.source took.0 (i.done + 1) within ∙ sym (last_there r i.source i.done there))
      (λ t apart. ap (λ w. (link w t).claimed) note ∙ taken_else v i.source took.0 (i.done + 1) t apart))

  -- the next list is another one
  pub moved_on : (s last shards : ℕ) (i i' : Inbox P W K L R) (list : Option L) → i.done < last → shards ≡ (rules e.run.0).shards → list ≡ list_to (rules e.run.0) (sealing_at (rules e.run.0) i.source (i.done + 1)) s
      → i'.done ≡ done_after shards i.done i.source → i'.source ≡ source_after shards i.source → Finds (rules e.run.0) s last i.done i.source (Passed list) i'.done i'.source
  moved_on s last shards i i' list below all is done source =
      (below, is, done ∙ ap (λ (n : ℕ). done_after n i.done i.source) all, source ∙ ap (λ (n : ℕ). source_after n i.source) all)
