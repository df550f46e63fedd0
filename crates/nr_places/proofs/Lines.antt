-- The lines of a chunk: one for each receipt that it executes, none for those that go out before it is sealed.
use Rattle.std.proofs.Common.{◌≡◌, ℕ, zero, suc, ◌+◌, ◌<◌, ◌≤◌, Bool, true, false, cond, List, [], ◌∷◌, ◌++◌, length, Option, Some, None, Ok, Err, inl, inr, refl, sym, ap, subst, ◌∙◌, arith, add-one}
use Rattle.std.specs.Prelude.{count_by, fold, map, slice_get, unwrap_or}
use Rattle.std.proofs.lemmas.List.{length-append}
use Rattle.std.proofs.lemmas.List.Sums.{sum_by-append, sum_by-cons, sum_by_push}
use Rattle.std.proofs.lemmas.Option.{slice_get_cases}
use Rattle.nr_chunk.specs.Chain.{Chain, IsChain, CanOpen, CanTake, CanSeal, chunk_at, place_at, rules_of}
use Rattle.nr_chunk.specs.Chunk.{Opening, begun, with_line, told, clashed, late, has_gas, run, by_offer, offered_to, serve, serve_all, serve_queue, served_local, without_front, is_local, with_converted, put_aside, by_conversion, convert_next, open_chunk, take_list, sent}
use Rattle.nr_chunk.specs.Lawful.{can_take_carried, laws_of}
use Rattle.nr_chunk.specs.Promised.{promise_of, pays_of}
use Rattle.nr_chunk.specs.Refused.{refused}
use Rattle.nr_chunk.specs.Served.{can_first, can_go_on, can_front, run_action}
use Rattle.nr_chunk.specs.Serving.{CanServe, Promise}
use Rattle.nr_chunk.specs.Tallies.{is_sent, is_execution, executions}
use Rattle.nr_chunk.specs.Views.{Kept, Working}
use Rattle.nr_config.specs.Config.{Config}
use Rattle.nr_ids.specs.declared.key.Hash32.{Hash32}
use Rattle.nr_join.specs.Keeping.{leaving}
use Rattle.nr_join.specs.Offering.{offer}
use Rattle.nr_join.specs.declared.offered.Offered.{Offered}
use Rattle.nr_join.specs.declared.offered.Offered.TheVariants as offered
use Rattle.nr_overlap.specs.Lawful.{AreLawful}
use Rattle.nr_overlap.specs.Rules.{Rules}
use Rattle.nr_overlap.specs.Serial.{due_after, list_to, sealing_at, with_list, work, world_after}
use Rattle.nr_overlap.proofs.SerialLemmas.{work_first, work_next}
use Rattle.nr_places.proofs.Kept.{begun_goes, executed_first, executed_more}
use Rattle.nr_places.proofs.Opening.{all_go}
use Rattle.nr_places.proofs.Waiting.{all_can, queue_stays}
use Rattle.nr_places.specs.Places.{executes, executes_all, executes_queue, executes_delayed, executes_opened, executes_list, executes_due, converted_at, executed_at}
use Rattle.nr_receipt.specs.Execution.{execute, settle_clash}
use Rattle.nr_records.specs.declared.chunk_result.ChunkLine.{ChunkLine}
use Rattle.nr_records.specs.declared.chunk_result.ChunkLine.TheVariants as line
use Rattle.nr_records.specs.declared.chunk_result.ChunkResult.{ChunkResult}
use Rattle.nr_records.specs.declared.receipt.Body.{Body}
use Rattle.nr_records.specs.declared.receipt.Body.TheVariants.{Act, Datum}
use Rattle.nr_records.specs.declared.receipt.Receipt.{Receipt}
use Rattle.nr_records.specs.declared.transaction.Transaction.{Transaction}
use Rattle.nr_state.specs.Queues.{is_act}
use Rattle.nr_state.specs.World.{World}
use Rattle.nr_txconvert.specs.Conversion.{Conversion, convert, transaction_hash}
use Rattle.nr_txconvert.specs.declared.fault.TxFault.{TxFault}
use Rattle.nr_txconvert.specs.declared.fault.TxFault.TheVariants as fault

-- from a working state to another, in which these receipts were executed
record Tells (before after : Working) (done : List Receipt) : Type 0 where
  local : after.local ≡ before.local
  sent : count_by is_sent after.lines ≡ count_by is_sent before.lines
  ran : executions after.lines ≡ executions before.lines + length done

pushed : (p : ChunkLine → Bool) (lines : List ChunkLine) (l : ChunkLine) (n : ℕ) → cond (p l) 1 0 ≡ n → count_by p (lines ++ l ∷ []) ≡ count_by p lines + n
pushed p lines l n e = sum_by_push (λ (l : ChunkLine). cond (p l) 1 0) lines l ∙ ap (λ t. count_by p lines + t) e

none_more : (a b : ℕ) → a ≡ b + 0 → a ≡ b
none_more a b e = omega (arith, e)

-- by one line
one_line : (k after : Working) (l : ChunkLine) (done : List Receipt) → after.local ≡ k.local → after.lines ≡ k.lines ++ l ∷ [] → is_sent l ≡ false → cond (is_execution l) 1 0 ≡ length done → Tells k after done
one_line k after l done local lines sent ran = record {
  local = local;
  sent = none_more (count_by is_sent after.lines) (count_by is_sent k.lines) (ap (count_by is_sent) lines ∙ pushed is_sent k.lines l 0 (ap (λ (b : Bool). cond b 1 0) sent));
  ran = ap executions lines ∙ pushed is_execution k.lines l (length done) ran;
}

-- one after the other
and_then : (a b c : Working) (xs ys : List Receipt) → Tells a b xs → Tells b c ys → Tells a c (xs ++ ys)
and_then a b c xs ys first next = record {
  local = next.local ∙ first.local;
  sent = next.sent ∙ first.sent;
  ran = omega (arith, first.ran, next.ran, length-append xs ys);
}

module _ (x : Chain) (p : Promise x.config x.call) where
  abbrev c : Config
  c = x.config

  -- ---- serving
  run_tells : (k : Working) (q : Receipt) (inputs : List (Option (List ℕ))) (b : Body) → is_act b ≡ true → Tells k (run c x.call k q b inputs) (q ∷ [])
  run_tells k q inputs (Act act) action = one_line k (run c x.call k q (Act act) inputs) (line.Run (execute c x.call k.world q act inputs k.place).executed.outcome) (q ∷ []) refl refl refl refl
  run_tells k q inputs (Datum d) action = absurd cc

  -- a datum that sets one free is told before it
  freed_tells : (k : Working) (r q : Receipt) (inputs : List (Option (List ℕ))) (b : Body) → is_act q.body ≡ true → Tells k (run c x.call (told k r b) q q.body inputs) (cond (is_act b) (q ∷ []) (r ∷ q ∷ []))
  freed_tells k r q inputs (Act act) action = run_tells k q inputs q.body action
  freed_tells k r q inputs (Datum d) action =
      let k1 : Working = told k r (Datum d) in
      and_then k k1 (run c x.call k1 q q.body inputs) (r ∷ []) (q ∷ []) (one_line k k1 (line.Received r.receipt_id) (r ∷ []) refl refl refl refl) (run_tells k1 q inputs q.body action)

  clash_tells : (k : Working) (q : Receipt) (b : Body) → Tells k (clashed c k q b) (q ∷ [])
  clash_tells k q (Act act) = one_line k (clashed c k q (Act act)) (line.Run (settle_clash c q act k.place).outcome) (q ∷ []) refl refl refl refl
  clash_tells k q (Datum d) = one_line k (clashed c k q (Datum d)) (line.Lost q.receipt_id) (q ∷ []) refl refl refl refl

  offer_tells : (k : Working) (r : Receipt) (after : World) (o : Offered) → CanServe c k (r ∷ []) → offer k.world r ≡ (after, o) → Tells (record k { world = after }) (by_offer c x.call (record k { world = after }) r o) (leaving r o)
  offer_tells k r after (offered.Run q inputs) can e = freed_tells (record k { world = after }) r q inputs r.body (run_action c x.call p k r after q inputs can e)
  offer_tells k r after (offered.Postponed id) can e = let k1 : Working = record k { world = after } in one_line k1 (with_line k1 (line.Postponed id)) (line.Postponed id) [] refl refl refl refl
  offer_tells k r after (offered.Stored id) can e = let k1 : Working = record k { world = after } in one_line k1 (with_line k1 (line.Received id)) (line.Received id) (r ∷ []) refl refl refl refl
  offer_tells k r after (offered.Clash q held) can e = clash_tells (record k { world = after }) q q.body

  serve_tells : (k : Working) (r : Receipt) → CanServe c k (r ∷ []) → Tells k (serve c x.call k r) (executes x k r)
  unfolding serve
  serve_tells k r can = by (has_gas c k)
    where
      o : World × Offered
      o = offer k.world r

      is : Tells (record k { world = o.0 }) (offered_to c x.call k r o) (leaving r o.1)
      is = offer_tells k r o.0 o.1 can refl

      by : (b : Bool) → Tells k (cond b (offered_to c x.call k r o) (late k r)) (cond b (leaving r o.1) [])
      by true = record { local = is.local; sent = is.sent; ran = is.ran }
      by false = one_line k (late k r) (line.Late r.receipt_id) [] refl refl refl refl

  no_line : (k : Working) → Tells k k []
  no_line k = record { local = refl; sent = refl; ran = omega arith }

  all_tell : (list : List Receipt) (k : Working) → CanServe c k list → Tells k (serve_all c x.call k list) (executes_all x k list)
  all_tell [] k can = no_line k
  all_tell (r ∷ rest) k can =
      let k1 : Working = serve c x.call k r in
      and_then k k1 (serve_all c x.call k1 rest) (executes x k r) (executes_all x k1 rest) (serve_tells k r (can_first c x.call p k r rest can)) (all_tell rest k1 (can_go_on c x.call p k r rest can))

  queue_tells : (queue : List Receipt) (k : Working) → CanServe c k [] → k.world.delayed ≡ queue → Tells k (serve_queue c x.call queue k) (executes_queue x queue k)
  unfolding serve_queue
  queue_tells [] k can e = no_line k
  queue_tells (r ∷ rest) k can e = by (has_gas c k) refl (λ can same. queue_tells rest k1 can same)
    where
      front : Working
      front = without_front k (r ∷ rest)

      can_one : CanServe c front (r ∷ [])
      can_one = subst (λ (q : List Receipt). CanServe c (without_front k q) (r ∷ [])) e (can_front c x.call p k r can (ap (λ (q : List Receipt). slice_get q 0) e))

      k1 : Working
      k1 = serve c x.call front r

      by : (b : Bool) → has_gas c k ≡ b → (CanServe c k1 [] → k1.world.delayed ≡ rest → Tells k1 (serve_queue c x.call rest k1) (executes_queue x rest k1))
          → Tells k (cond b (serve_queue c x.call rest k1) k) (cond b (executes x front r ++ executes_queue x rest k1) [])
      by true gas rest_tells =
          let one : Tells front k1 (executes x front r) = serve_tells front r can_one in
          and_then k k1 (serve_queue c x.call rest k1) (executes x front r) (executes_queue x rest k1) (record { local = one.local; sent = one.sent; ran = one.ran })
          (rest_tells (can_go_on c x.call p front r [] can_one) (queue_stays x p front r can_one gas))
      by false gas rest_tells = no_line k

-- ---- converting
-- so many receipts are local, and no line tells of one that was sent or executed
record Converts (o : Opening) : Type 0 where
  local : o.working.local ≡ length o.local
  sent : count_by is_sent o.working.lines ≡ 0
  ran : executions o.working.lines ≡ 0

quiet_line : (p : ChunkLine → Bool) (lines : List ChunkLine) (l : ChunkLine) → p l ≡ false → count_by p lines ≡ 0 → count_by p (lines ++ l ∷ []) ≡ 0
quiet_line p lines l e f = none_more (count_by p (lines ++ l ∷ [])) 0 (pushed p lines l 0 (ap (λ (b : Bool). cond b 1 0) e) ∙ ap (λ t. t + 0) f)

refusal_quiet : (p : ChunkLine → Bool) → ((hash : Hash32) (number first second : ℕ) → p (line.TxRefused hash number first second) ≡ false) → (hash : Hash32) (f : TxFault) → p (refused hash f) ≡ false
refusal_quiet p e hash fault.NoSigner = e hash 1 0 0
refusal_quiet p e hash fault.NoKey = e hash 2 0 0
refusal_quiet p e hash (fault.Nonce key tx) = e hash 3 key tx
refusal_quiet p e hash fault.TooManyActions = e hash 4 0 0
refusal_quiet p e hash fault.GasTooLarge = e hash 5 0 0
refusal_quiet p e hash (fault.KeyForbids part) = e hash 6 part 0
refusal_quiet p e hash fault.CostOverflow = e hash 7 0 0
refusal_quiet p e hash (fault.Allowance has needs) = e hash 8 has needs
refusal_quiet p e hash (fault.Balance has needs) = e hash 9 has needs
refusal_quiet p e hash (fault.StorageStake has needs) = e hash 10 has needs
refusal_quiet p e hash fault.Memory = e hash 0 0 0

aside_converts : (b : Bool) (k : Working) (local : List Receipt) (r : Receipt) → Converts (record { working = k; local = local }) → Converts (put_aside b k local r)
aside_converts true k local r is = record { local = omega (arith, is.local, length-append local (r ∷ [])); sent = is.sent; ran = is.ran }
aside_converts false k local r is = record { local = is.local; sent = is.sent; ran = is.ran }

next_converts : (c : Config) (o : Opening) (tx : Transaction) → Converts o → Converts (convert_next c o tx)
unfolding convert_next
next_converts c o tx is = by (convert c o.working.world tx o.working.place)
  where
    by : (v : Conversion) → Converts (by_conversion o tx v)
    by (Ok (w, made)) =
        aside_converts (is_local tx) (with_converted o.working tx w made) o.local made.receipt (record {
          local = is.local;
          sent = quiet_line is_sent o.working.lines (line.TxOk (transaction_hash tx) made.receipt.receipt_id) refl is.sent;
          ran = quiet_line is_execution o.working.lines (line.TxOk (transaction_hash tx) made.receipt.receipt_id) refl is.ran;
        })
    by (Err f) = record {
      local = is.local;
      sent = quiet_line is_sent o.working.lines (refused (transaction_hash tx) f) (refusal_quiet is_sent (λ hash number first second. refl) (transaction_hash tx) f) is.sent;
      ran = quiet_line is_execution o.working.lines (refused (transaction_hash tx) f) (refusal_quiet is_execution (λ hash number first second. refl) (transaction_hash tx) f) is.ran;
    }

all_convert : (c : Config) (txs : List Transaction) (o : Opening) → Converts o → Converts (fold (convert_next c) o txs)
all_convert c [] o is = is
all_convert c (tx ∷ txs) o is = all_convert c txs (convert_next c o tx) (next_converts c o tx is)

-- ---- a chunk at work: as many receipts are local, no line tells of one that was sent, and there is a line for each that was executed
pub record IsCounted (k : Working) (own done : List Receipt) : Type 0 where
  pub local : k.local ≡ length own
  pub sent : count_by is_sent k.lines ≡ 0
  pub ran : executions k.lines ≡ length done

goes_on : (k after : Working) (local xs ys : List Receipt) → IsCounted k local xs → Tells k after ys → IsCounted after local (xs ++ ys)
goes_on k after local xs ys is more = record { local = more.local ∙ is.local; sent = more.sent ∙ is.sent; ran = omega (arith, is.ran, more.ran, length-append xs ys) }

module _ (x : Chain) (is : IsChain x) where
  abbrev r : Rules Kept Working (List Receipt) ChunkResult
  r = rules_of x

  promise : Promise x.config x.call
  promise = promise_of x.config x.call is.config is.caller

  laws : AreLawful r (CanOpen x) (CanTake x) (CanSeal x)
  laws = laws_of x is

  counted_first : (s h : ℕ) → CanOpen x s (h + 1) (world_after r s h) → IsCounted (work r s h 0) (converted_at x s h).local (executed_at x s h 0)
  unfolding open_chunk
  counted_first s h can =
      let k : Working = begun (world_after r s h) (record { 0 = s }) (place_at x (h + 1)) in
      let o : Opening = converted_at x s h in
      let k1 : Working = served_local x.config x.call o in
      let k2 : Working = serve_queue x.config x.call k1.world.delayed k1 in
      let made : Converts o = all_convert x.config (unwrap_or (chunk_at x s (h + 1)) []) (record { working = k; local = [] }) (record { local = refl; sent = refl; ran = refl }) in
      let ready : CanServe x.config o.working o.local = (all_go x.config (pays_of x.config) (unwrap_or (chunk_at x s (h + 1)) []) (record { working = k; local = [] }) (begun_goes x is s (h + 1) (world_after r s h) can)).0 in
      let both : Tells o.working k2 (executes_opened x o) =
      and_then o.working k1 k2 (executes_all x o.working o.local) (executes_delayed x k1) (all_tell x promise o.local o.working ready) (queue_tells x promise k1.world.delayed k1 (all_can x promise o.local o.working ready) refl) in
      let list : List Receipt = (world_after r s h).carried in
      let k3 : Working = serve_all x.config x.call k2 list in
      let all : Tells o.working k3 (executes_opened x o ++ executes_all x k2 list) =
      and_then o.working k2 k3 (executes_opened x o) (executes_all x k2 list) both (all_tell x promise list k2 (can_take_carried x is s (h + 1) (world_after r s h) can)) in
      subst (λ (t : Working). IsCounted t o.local (executed_at x s h 0)) (sym (work_first r s h)) (subst (IsCounted k3 o.local) (sym (executed_first x s h))
      (record { local = all.local ∙ made.local; sent = all.sent ∙ made.sent; ran = omega (arith, all.ran, made.ran) }))

  counted_next : (s h n : ℕ) → s < r.shards → h < r.heights → r.present s (h + 1) ≡ true → (pair : ℕ × ℕ) → slice_get (due_after r s h) n ≡ Some pair
      → IsCounted (work r s h n) (converted_at x s h).local (executed_at x s h n) → IsCounted (work r s h (n + 1)) (converted_at x s h).local (executed_at x s h (suc n))
  counted_next s h n l below there pair next so_far =
      subst (λ (t : Working). IsCounted t (converted_at x s h).local (executed_at x s h (suc n))) (sym (work_next r s h n pair next))
      (subst (IsCounted (with_list r (work r s h n) (list_to r (sealing_at r pair.1 pair.0) s)) (converted_at x s h).local) (sym (executed_more x s h n ∙ ap (λ o. executed_at x s h n ++ executes_due x s h n o) next)) (by (list_to r (sealing_at r pair.1 pair.0) s) refl))
    where
      by : (o : Option (List Receipt)) → list_to r (sealing_at r pair.1 pair.0) s ≡ o
          → IsCounted (with_list r (work r s h n) o) (converted_at x s h).local (executed_at x s h n ++ executes_list x (work r s h n) o)
      by None e = goes_on (work r s h n) (work r s h n) (converted_at x s h).local (executed_at x s h n) [] so_far (no_line x promise (work r s h n))
      by (Some taken) e =
          let can : CanTake x (work r s h n) taken = laws.takes s h n pair taken l below there next e in
          goes_on (work r s h n) (take_list x.config x.call (work r s h n) taken) (converted_at x s h).local (executed_at x s h n) (executes_all x (work r s h n) taken) so_far
          (all_tell x promise taken (work r s h n) (record { config = can.config; valid = can.valid; coming = can.bounded; room = can.room }))

  pub counted_at : (s h n : ℕ) → s < r.shards → h < r.heights → r.present s (h + 1) ≡ true → n ≤ length (due_after r s h) → IsCounted (work r s h n) (converted_at x s h).local (executed_at x s h n)
  counted_at s h zero l below there few = counted_first s h (laws.opens s h l below there)
  counted_at s h (suc n) l below there few =
      let pair = within_some (due_after r s h) n (omega (arith, few)) in
      subst (λ (t : ℕ). IsCounted (work r s h t) (converted_at x s h).local (executed_at x s h (suc n))) (add-one n)
      (counted_next s h n l below there pair.0 pair.1 (counted_at s h n l below there (omega (arith, few))))
    where
      within_some : {A : Type 0} (xs : List A) (i : ℕ) → i < length xs → (a : A) × (slice_get xs i ≡ Some a)
      within_some xs i l = elim ((slice_get_cases xs i).1) [ inl p ↦ (p.0, p.2) | inr p ↦ absurd (omega (arith, p.0, l)) ]

-- ---- the lines of what goes out
sent_lines : (bs : List (List ℕ)) (list : List Receipt) → count_by is_sent (map (sent bs) list) ≡ length list
unfolding sent
sent_lines bs [] = refl
sent_lines bs (r ∷ rest) = sum_by-cons (λ (l : ChunkLine). cond (is_sent l) 1 0) (sent bs r) (map (sent bs) rest) ∙ one_and (count_by is_sent (map (sent bs) rest)) (length rest) (sent_lines bs rest)
  where
    one_and : (a b : ℕ) → a ≡ b → 1 + a ≡ suc b
    one_and a b e = omega (arith, e)

none_ran : (bs : List (List ℕ)) (list : List Receipt) → executions (map (sent bs) list) ≡ 0
unfolding sent
none_ran bs [] = refl
none_ran bs (r ∷ rest) = sum_by-cons (λ (l : ChunkLine). cond (is_execution l) 1 0) (sent bs r) (map (sent bs) rest) ∙ ap (λ t. 0 + t) (none_ran bs rest)

pub all_sent : (bs : List (List ℕ)) (lines : List ChunkLine) (list : List Receipt) → count_by is_sent lines ≡ 0 → count_by is_sent (lines ++ map (sent bs) list) ≡ length list
all_sent bs lines list e = omega (arith, sum_by-append (λ (l : ChunkLine). cond (is_sent l) 1 0) lines (map (sent bs) list), e, sent_lines bs list)

pub same_ran : (bs : List (List ℕ)) (lines : List ChunkLine) (list : List Receipt) → executions (lines ++ map (sent bs) list) ≡ executions lines
same_ran bs lines list = omega (arith, sum_by-append (λ (l : ChunkLine). cond (is_execution l) 1 0) lines (map (sent bs) list), none_ran bs list)
