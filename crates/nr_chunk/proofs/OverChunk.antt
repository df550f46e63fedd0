-- A chunk on a world that is put together from two.
use Rattle.std.proofs.Common.{◌≡◌, ℕ, Bool, true, false, cond, List, [], ◌∷◌, Option, Ok}
use Rattle.std.proofs.Common.{Err, refl, sym, ap, subst, ◌∙◌}
use Rattle.std.specs.Prelude.{fold}
use Rattle.std.specs.FinMap.{get}
use Rattle.std.specs.List.{AllByRecursion}
use Rattle.nr_bytes.proofs.Basics.{all_push}
use Rattle.nr_chunk.specs.Chunk.{with_execution, told, clashed, late, has_gas, Opening, is_local, with_converted}
use Rattle.nr_chunk.specs.Chunk.{put_aside, by_conversion, convert_next, convert_all, without_front, run, by_offer}
use Rattle.nr_chunk.specs.Chunk.{offered_to, serve, serve_queue, serve_delayed, served_local, open_chunk}
use Rattle.nr_chunk.specs.Chunk.{take_list}
use Rattle.nr_chunk.specs.Views.{Working}
use Rattle.nr_config.specs.Config.{Config}
use Rattle.nr_join.specs.Offering.{offer}
use Rattle.nr_join.specs.declared.offered.Offered.{Offered}
use Rattle.nr_join.specs.declared.offered.Offered.TheVariants as offered
use Rattle.nr_receipt.specs.Execution.{execute}
use Rattle.nr_records.specs.declared.receipt.Body.{Body}
use Rattle.nr_records.specs.declared.receipt.Body.TheVariants.{Act, Datum}
use Rattle.nr_records.specs.declared.receipt.Receipt.{Receipt}
use Rattle.nr_records.specs.declared.transaction.Transaction.{Transaction}
use Rattle.nr_state.specs.Calls.{Called}
use Rattle.nr_state.specs.World.{World}
use Rattle.nr_state.specs.declared.calls.CallContext.{CallContext}
use Rattle.nr_txconvert.specs.Conversion.{Conversion, convert}
use Rattle.nr_state.specs.Keyed.{IsKeyed}
use Rattle.nr_state.specs.Local.{IsLocal}
use Rattle.nr_state.proofs.OverCalls.{over_itself}
use Rattle.nr_txconvert.proofs.OverConversion.{over_conversion, convert_over, GoesTo, convert_goes}
use Rattle.nr_receipt.proofs.OverExecution.{execute_over, owned, execute_apart}
use Rattle.nr_state.proofs.OverMaps.{get-over}
use Rattle.nr_join.proofs.OverOffering.{offer_over, RunsAt, offer_fine}
use Rattle.nr_state.specs.Scopes.{Scope, all_of, over}
use Rattle.nr_state.proofs.ValidOwned.{pair_total, exact_data, same_id}

-- the receiver is one of the accounts
abbrev pub IsFor : (List ℕ → Bool) → Receipt → Type 0
IsFor x r = x r.receiver ≡ true

-- receipts are under their receivers, and the delayed ones are for the accounts
pub record Stays (x : List ℕ → Bool) (w : World) : Type 0 where
  pub keyed : IsKeyed w
  pub queued : AllByRecursion (IsFor x) w.delayed

-- what waits outside of accounts
abbrev waits : Scope
waits = record { own = λ q. false; keys = λ q. false; waiting = λ q. true; queue = false }

-- ---- a world whose postponed receipts and queue are those of another
same_waiting : (x : List ℕ → Bool) (u w : World) → u ≡ over owned u w → Stays x w → Stays x u
same_waiting x u w is h = record {
  keyed = λ k r there.
      h.keyed k r (sym (get-over pair_total exact_data (λ k. false) u.postponed w.postponed k)
      ∙ ap (λ (t : World). get t.postponed k) (sym is) ∙ there);
  queued = subst (AllByRecursion (IsFor x)) (sym (ap (λ (t : World). t.delayed) is)) h.queued;
}

offer_stays : (x : List ℕ → Bool) (w : World) (r : Receipt) → Stays x w → Stays x (offer w r).0
offer_stays x w r h =
    let is : (offer w r).0 ≡ over waits (offer w r).0 w =
    ap (λ (o : World × Offered). o.0)
    (ap (λ u. offer u r) (sym (over_itself waits w)) ∙ offer_over waits w h.keyed w r h.keyed refl) in
    record {
      keyed = (offer_fine w r h.keyed).keyed;
      queued = subst (AllByRecursion (IsFor x)) (sym (ap (λ (t : World). t.delayed) is)) h.queued;
    }

module _ (x : List ℕ → Bool) (v : World) (kept : IsKeyed v) (c : Config) (call : World → CallContext → Called)
    (local : IsLocal call) where
  abbrev beyond : Working → Working
  beyond k = record k { world = over (all_of x) k.world v }

  -- ---- one receipt
  told_over : (k : Working) (r : Receipt) (b : Body) → told (beyond k) r b ≡ beyond (told k r b)
  told_over k r (Act act) = refl
  told_over k r (Datum d) = refl

  clashed_over : (k : Working) (r : Receipt) (b : Body) → clashed c (beyond k) r b ≡ beyond (clashed c k r b)
  clashed_over k r (Act act) = refl
  clashed_over k r (Datum d) = refl

  run_over : (k : Working) (q : Receipt) (b : Body) (inputs : List (Option (List ℕ))) → IsFor x q
      → run c call (beyond k) q b inputs ≡ beyond (run c call k q b inputs)
  run_over k q (Act act) inputs here =
      ap (with_execution (beyond k)) (execute_over (all_of x) v c call local k.world q act inputs k.place here here)
  run_over k q (Datum d) inputs here = refl

  by_offer_over : (k : Working) (r : Receipt) (o : Offered) → RunsAt r.receiver o → IsFor x r
      → by_offer c call (beyond k) r o ≡ beyond (by_offer c call k r o)
  by_offer_over k r (offered.Run q inputs) at here =
      ap (λ l. run c call l q q.body inputs) (told_over k r r.body)
      ∙ run_over (told k r r.body) q q.body inputs (ap x at ∙ here)
  by_offer_over k r (offered.Postponed id) at here = refl
  by_offer_over k r (offered.Stored id) at here = refl
  by_offer_over k r (offered.Clash q held) at here = clashed_over k q q.body

  serve_over : (k : Working) (r : Receipt) → IsKeyed k.world → IsFor x r
      → serve c call (beyond k) r ≡ beyond (serve c call k r)
  unfolding serve
  serve_over k r keyed here =
      elim (has_gas c k)
      as (λ b. cond b (offered_to c call (beyond k) r (offer (over (all_of x) k.world v) r)) (late (beyond k) r)
      ≡ beyond (cond b (offered_to c call k r (offer k.world r)) (late k r))) [
        | true ↦ ap (offered_to c call (beyond k) r) (offer_over (all_of x) v kept k.world r keyed here)
            ∙ by_offer_over (record k { world = (offer k.world r).0 }) r (offer k.world r).1
            (offer_fine k.world r keyed).runs here
        | false ↦ refl
      ]

  -- ---- what stays
  run_stays : (k : Working) (q : Receipt) (b : Body) (inputs : List (Option (List ℕ))) → Stays x k.world
      → Stays x (run c call k q b inputs).world
  run_stays k q (Act act) inputs h =
      same_waiting x (execute c call k.world q act inputs k.place).world k.world
      (execute_apart c call local k.world q act inputs k.place) h
  run_stays k q (Datum d) inputs h = h

  told_stays : (k : Working) (r : Receipt) (b : Body) → Stays x k.world → Stays x (told k r b).world
  told_stays k r (Act act) h = h
  told_stays k r (Datum d) h = h

  clashed_stays : (k : Working) (r : Receipt) (b : Body) → Stays x k.world → Stays x (clashed c k r b).world
  clashed_stays k r (Act act) h = h
  clashed_stays k r (Datum d) h = h

  by_offer_stays : (k : Working) (r : Receipt) (o : Offered) → Stays x k.world → Stays x (by_offer c call k r o).world
  by_offer_stays k r (offered.Run q inputs) h = run_stays (told k r r.body) q q.body inputs (told_stays k r r.body h)
  by_offer_stays k r (offered.Postponed id) h = h
  by_offer_stays k r (offered.Stored id) h = h
  by_offer_stays k r (offered.Clash q held) h = clashed_stays k q q.body h

  serve_stays : (k : Working) (r : Receipt) → Stays x k.world → IsFor x r → Stays x (serve c call k r).world
  unfolding serve
  serve_stays k r h here =
      elim (has_gas c k) as (λ b. Stays x (cond b (offered_to c call k r (offer k.world r)) (late k r)).world) [
        | true ↦ by_offer_stays (record k { world = (offer k.world r).0 }) r (offer k.world r).1
            (offer_stays x k.world r h)
        | false ↦ record { keyed = h.keyed; queued = all_push (IsFor x) k.world.delayed r h.queued here }
      ]

  -- ---- lists
  pub taken_over : (list : List Receipt) (k : Working) → Stays x k.world → AllByRecursion (IsFor x) list
      → take_list c call (beyond k) list ≡ beyond (take_list c call k list)
  taken_over [] k h all = refl
  taken_over (r ∷ rest) k h all =
      ap (λ l. take_list c call l rest) (serve_over k r h.keyed all.0)
      ∙ taken_over rest (serve c call k r) (serve_stays k r h all.0) all.1

  pub taken_stays : (list : List Receipt) (k : Working) → Stays x k.world → AllByRecursion (IsFor x) list
      → Stays x (take_list c call k list).world
  taken_stays [] k h all = h
  taken_stays (r ∷ rest) k h all = taken_stays rest (serve c call k r) (serve_stays k r h all.0) all.1

  -- ---- the queue
  queue_over : (queue : List Receipt) (k : Working) → Stays x k.world → AllByRecursion (IsFor x) queue
      → serve_queue c call queue (beyond k) ≡ beyond (serve_queue c call queue k)
  unfolding serve_queue
  queue_over [] k h all = refl
  queue_over (r ∷ rest) k h all =
      let front : Working = without_front k (r ∷ rest) in
      let stays : Stays x front.world = record { keyed = h.keyed; queued = all.1 } in
      elim (has_gas c k)
      as (λ b. cond b (serve_queue c call rest (serve c call (beyond front) r)) (beyond k)
      ≡ beyond (cond b (serve_queue c call rest (serve c call front r)) k)) [
        | true ↦ ap (serve_queue c call rest) (serve_over front r stays.keyed all.0)
            ∙ queue_over rest (serve c call front r) (serve_stays front r stays all.0) all.1
        | false ↦ refl
      ]

  queue_stays : (queue : List Receipt) (k : Working) → Stays x k.world → AllByRecursion (IsFor x) queue
      → Stays x (serve_queue c call queue k).world
  unfolding serve_queue
  queue_stays [] k h all = h
  queue_stays (r ∷ rest) k h all =
      let front : Working = without_front k (r ∷ rest) in
      let stays : Stays x front.world = record { keyed = h.keyed; queued = all.1 } in
      elim (has_gas c k) as (λ b. Stays x (cond b (serve_queue c call rest (serve c call front r)) k).world) [
        | true ↦ queue_stays rest (serve c call front r) (serve_stays front r stays all.0) all.1
        | false ↦ h
      ]

  -- ---- transactions
  abbrev beyond_opening : Opening → Opening
  beyond_opening o = record o { working = beyond o.working }

  record StaysOpen (o : Opening) : Type 0 where
    stays : Stays x o.working.world
    listed : AllByRecursion (IsFor x) o.local

  aside_over : (b : Bool) (k : Working) (list : List Receipt) (r : Receipt)
      → put_aside b (beyond k) list r ≡ beyond_opening (put_aside b k list r)
  aside_over true k list r = refl
  aside_over false k list r = refl

  by_conversion_over : (o : Opening) (tx : Transaction) (came : Conversion)
      → by_conversion (beyond_opening o) tx (over_conversion (all_of x) v came)
      ≡ beyond_opening (by_conversion o tx came)
  by_conversion_over o tx (Ok made) =
      aside_over (is_local tx) (with_converted o.working tx made.0 made.1) o.local made.1.receipt
  by_conversion_over o tx (Err fault) = refl

  next_over : (o : Opening) (tx : Transaction) → x tx.signer ≡ true
      → convert_next c (beyond_opening o) tx ≡ beyond_opening (convert_next c o tx)
  unfolding convert_next
  next_over o tx here =
      ap (by_conversion (beyond_opening o) tx) (convert_over (all_of x) v c tx o.working.place here here
      o.working.world)
      ∙ by_conversion_over o tx (convert c o.working.world tx o.working.place)

  aside_stays : (b : Bool) (k : Working) (list : List Receipt) (r : Receipt) → (b ≡ true → IsFor x r) → Stays x k.world
      → AllByRecursion (IsFor x) list → StaysOpen (put_aside b k list r)
  aside_stays true k list r here h all = record { stays = h; listed = all_push (IsFor x) list r all (here refl) }
  aside_stays false k list r here h all = record { stays = h; listed = all }

  by_conversion_stays : (o : Opening) (tx : Transaction) (came : Conversion) → x tx.signer ≡ true → StaysOpen o
      → came ≡ over_conversion owned o.working.world came → GoesTo tx.receiver came
      → StaysOpen (by_conversion o tx came)
  by_conversion_stays o tx (Ok made) here h is goes =
      let apart : made.0 ≡ over owned made.0 o.working.world = cc in
      aside_stays (is_local tx) (with_converted o.working tx made.0 made.1) o.local made.1.receipt
      (λ e. ap x (goes ∙ sym (same_id tx.signer tx.receiver e)) ∙ here)
      (same_waiting x made.0 o.working.world apart h.stays) h.listed
  by_conversion_stays o tx (Err fault) here h is goes = record { stays = h.stays; listed = h.listed }

  next_stays : (o : Opening) (tx : Transaction) → x tx.signer ≡ true → StaysOpen o → StaysOpen (convert_next c o tx)
  unfolding convert_next
  next_stays o tx here h =
      let w : World = o.working.world in
      by_conversion_stays o tx (convert c w tx o.working.place) here h
      (ap (λ u. convert c u tx o.working.place) (sym (over_itself owned w))
      ∙ convert_over owned w c tx o.working.place refl refl w)
      (convert_goes c w tx o.working.place)

  all_over : (txs : List Transaction) (o : Opening) → AllByRecursion (λ (tx : Transaction). x tx.signer ≡ true) txs
      → fold (convert_next c) (beyond_opening o) txs ≡ beyond_opening (fold (convert_next c) o txs)
  all_over [] o all = refl
  all_over (tx ∷ txs) o all =
      ap (λ p. fold (convert_next c) p txs) (next_over o tx all.0) ∙ all_over txs (convert_next c o tx) all.1

  all_stays : (txs : List Transaction) (o : Opening) → AllByRecursion (λ (tx : Transaction). x tx.signer ≡ true) txs
      → StaysOpen o → StaysOpen (fold (convert_next c) o txs)
  all_stays [] o all h = h
  all_stays (tx ∷ txs) o all h = all_stays txs (convert_next c o tx) all.1 (next_stays o tx all.0 h)

  -- ---- opening
  pub opened_over : (k : Working) (txs : List Transaction) → Stays x k.world
      → AllByRecursion (λ (tx : Transaction). x tx.signer ≡ true) txs
      → open_chunk c call (beyond k) txs ≡ beyond (open_chunk c call k txs)
  unfolding open_chunk
  opened_over k txs h all =
      let start : Opening = record { working = k; local = [] } in
      let o : Opening = convert_all c k txs in
      let s : StaysOpen o = all_stays txs start all (record { stays = h; listed = tt }) in
      let served : Stays x (served_local c call o).world = taken_stays o.local o.working s.stays s.listed in
      ap (λ p. serve_delayed c call (served_local c call p)) (all_over txs start all)
      ∙ ap (serve_delayed c call) (taken_over o.local o.working s.stays s.listed)
      ∙ queue_over (served_local c call o).world.delayed (served_local c call o) served served.queued

  pub opened_stays : (k : Working) (txs : List Transaction) → Stays x k.world
      → AllByRecursion (λ (tx : Transaction). x tx.signer ≡ true) txs → Stays x (open_chunk c call k txs).world
  unfolding open_chunk
  opened_stays k txs h all =
      let o : Opening = convert_all c k txs in
      let s : StaysOpen o = all_stays txs (record { working = k; local = [] }) all (record { stays = h; listed = tt })
      in
      let served : Stays x (served_local c call o).world = taken_stays o.local o.working s.stays s.listed in
      queue_stays (served_local c call o).world.delayed (served_local c call o) served served.queued
