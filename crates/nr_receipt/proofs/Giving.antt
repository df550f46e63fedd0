-- Receipts made behind the actions: what they hold, and what they leave of the frame.
use Rattle.std.proofs.Common.{◌≡◌, ℕ, ◌+◌, ◌<◌, Bool, true, false, cond, List, [], ◌∷◌, ◌++◌, Option, Some, None, drop, fold, get_or, length, replicate, refl, sym, ap, ◌∙◌, arith}
use Rattle.std.specs.Prelude.{◌==◌, IfSome, slice_get}
use Rattle.std.specs.List.{AllByRecursion}
use Rattle.std.specs.Str.{bytes_eq}
use Rattle.std.proofs.lemmas.Bool.{eqb-true}
use Rattle.std.proofs.lemmas.List.{drop_more}
use Rattle.std.proofs.lemmas.List.Sums.{sum_by-cons, sum_by-append}
use Rattle.std.proofs.lemmas.Option.{slice_get-get_or}
use Rattle.nr_bytes.proofs.Basics.{all_both}
use Rattle.nr_actions.specs.Refunds.{deposit_refund, refund}
use Rattle.nr_actions.specs.declared.frame.Frame.{Frame}
use Rattle.nr_config.specs.Config.{Config}
use Rattle.nr_fees.specs.Fees.{body_gas, body_price, body_tokens, receipt_tokens}
use Rattle.nr_ids.specs.Grammar.{is_system, system}
use Rattle.nr_ids.specs.declared.key.Hash32.{Hash32}
use Rattle.nr_ids.specs.declared.key.PublicKey.{PublicKey}
use Rattle.nr_ids.specs.declared.key.PublicKey.TheVariants.{Ed25519}
use Rattle.nr_ids.proofs.System.{system_is}
use Rattle.nr_receipt.specs.Drawing.{datum_for, deposits_back, given_up, handed_on, next_id, with_data, with_datum, with_deposits_back, with_drawn, with_gas_refund, with_outputs, with_result}
use Rattle.nr_receipt.specs.Frames.{gas_back}
use Rattle.nr_receipt.specs.Keeping.{HasSmallCalls}
use Rattle.nr_records.specs.declared.receipt.Body.{Body}
use Rattle.nr_records.specs.declared.receipt.Body.TheVariants.{Act, Datum}
use Rattle.nr_records.specs.declared.receipt.DataReceiver.{DataReceiver}
use Rattle.nr_records.specs.declared.receipt.Receipt.{Receipt}
use Rattle.nr_state.specs.Tokens.{list_tokens}
use Rattle.nr_state.specs.Valid.{IsBounded}
use Rattle.nr_state.specs.declared.calls.Returned.{Returned}
use Rattle.nr_state.specs.declared.calls.Returned.TheVariants.{Value, Promise}

-- more was made, which holds so much
pub record IsGiven (c : Config) (amount : ℕ) (f g : Frame) : Type 0 where
  pub same : g ≡ record f { made = g.made; next_ordinal = g.next_ordinal }
  pub tokens : list_tokens c g.made ≡ list_tokens c f.made + amount
  pub bounded : AllByRecursion (IsBounded c) f.made → AllByRecursion (IsBounded c) g.made
  pub calls : AllByRecursion (λ r. HasSmallCalls r.body) f.made → AllByRecursion (λ r. HasSmallCalls r.body) g.made

module _ (c : Config) where
  nothing : (f : Frame) → IsGiven c 0 f f
  nothing f = record { same = refl; tokens = omega arith; bounded = λ h. h; calls = λ h. h }

  both : (m n : ℕ) (f g h : Frame) → IsGiven c m f g → IsGiven c n g h → IsGiven c (m + n) f h
  both m n f g h p q =
      record {
        same = q.same ∙ ap (λ (k : Frame). record k { made = h.made; next_ordinal = h.next_ordinal }) p.same;
        tokens = omega (arith, p.tokens, q.tokens);
        bounded = λ k. q.bounded (p.bounded k);
        calls = λ k. q.calls (p.calls k);
      }

  drawn : (n : ℕ) (f : Frame) (r : Receipt) → receipt_tokens c r ≡ n → IsBounded c r → HasSmallCalls r.body → IsGiven c n f (with_drawn f r)
  drawn n f r e small few =
      record {
        same = refl;
        tokens = omega (arith, e, sum_by-append (receipt_tokens c) f.made (r ∷ []), sum_by-cons (receipt_tokens c) r []);
        bounded = λ h. all_both (IsBounded c) f.made (r ∷ []) h (small, tt);
        calls = λ h. all_both (λ (q : Receipt). HasSmallCalls q.body) f.made (r ∷ []) h (few, tt);
      }

  -- ---- data
  datum_small : (f : Frame) (bytes : Option (List ℕ)) (to : DataReceiver) → IsBounded c (datum_for f bytes to)
  datum_small f bytes to = record { price = omega arith; gas = omega arith }

  data_given : (bytes : Option (List ℕ)) (f : Frame) (outputs : List DataReceiver) → IsGiven c 0 f (fold (with_datum bytes) f outputs)
  data_given bytes f [] = nothing f
  data_given bytes f (to ∷ rest) =
      both 0 0 f (with_datum bytes f to) (fold (with_datum bytes) (with_datum bytes f to) rest) (drawn 0 f (datum_for f bytes to) refl (datum_small f bytes to) tt) (data_given bytes (with_datum bytes f to) rest)

  -- ---- a promise
  out_tokens : (outputs : List DataReceiver) (b : Bool) (body : Body) → body_tokens c b (with_outputs outputs body) ≡ body_tokens c b body
  out_tokens outputs b (Act act) = refl
  out_tokens outputs b (Datum d) = refl

  out_price : (outputs : List DataReceiver) (body : Body) → body_price (with_outputs outputs body) ≡ body_price body
  out_price outputs (Act act) = refl
  out_price outputs (Datum d) = refl

  out_gas : (outputs : List DataReceiver) (b : Bool) (body : Body) → body_gas c b (with_outputs outputs body) ≡ body_gas c b body
  out_gas outputs b (Act act) = refl
  out_gas outputs b (Datum d) = refl

  out_bounded : (outputs : List DataReceiver) (r : Receipt) → IsBounded c r → IsBounded c (record r { body = with_outputs outputs r.body })
  out_bounded outputs r h =
      record {
        price = omega (arith, h.price, out_price outputs r.body);
        gas = omega (arith, h.gas, out_gas outputs (is_system r.predecessor) r.body);
      }

  handed_tokens : (outputs : List DataReceiver) (id : Hash32) (made : List Receipt) → list_tokens c (handed_on outputs id made) ≡ list_tokens c made
  handed_tokens outputs id [] = refl
  handed_tokens outputs id (r ∷ rest) = by (bytes_eq r.receipt_id.0 id.0) (handed_tokens outputs id rest)
    where
      by : (b : Bool) → list_tokens c (handed_on outputs id rest) ≡ list_tokens c rest
          → list_tokens c (cond b (record r { body = with_outputs outputs r.body } ∷ rest) (r ∷ handed_on outputs id rest)) ≡ list_tokens c (r ∷ rest)
      by true e =
          omega (arith, sum_by-cons (receipt_tokens c) (record r { body = with_outputs outputs r.body }) rest, sum_by-cons (receipt_tokens c) r rest, out_tokens outputs (is_system r.predecessor) r.body)
      by false e = omega (arith, e, sum_by-cons (receipt_tokens c) r (handed_on outputs id rest), sum_by-cons (receipt_tokens c) r rest)

  handed_bounded : (outputs : List DataReceiver) (id : Hash32) (made : List Receipt) → AllByRecursion (IsBounded c) made → AllByRecursion (IsBounded c) (handed_on outputs id made)
  handed_bounded outputs id [] h = tt
  handed_bounded outputs id (r ∷ rest) h = by (bytes_eq r.receipt_id.0 id.0) (handed_bounded outputs id rest h.1)
    where
      by : (b : Bool) → AllByRecursion (IsBounded c) (handed_on outputs id rest) → AllByRecursion (IsBounded c) (cond b (record r { body = with_outputs outputs r.body } ∷ rest) (r ∷ handed_on outputs id rest))
      by true k = (out_bounded outputs r h.0, h.1)
      by false k = (h.0, k)

  out_calls : (outputs : List DataReceiver) (body : Body) → HasSmallCalls body → HasSmallCalls (with_outputs outputs body)
  out_calls outputs (Act act) h = h
  out_calls outputs (Datum d) h = h

  handed_calls : (outputs : List DataReceiver) (id : Hash32) (made : List Receipt) → AllByRecursion (λ r. HasSmallCalls r.body) made → AllByRecursion (λ r. HasSmallCalls r.body) (handed_on outputs id made)
  handed_calls outputs id [] h = tt
  handed_calls outputs id (r ∷ rest) h = by (bytes_eq r.receipt_id.0 id.0) (handed_calls outputs id rest h.1)
    where
      by : (b : Bool) → AllByRecursion (λ q. HasSmallCalls q.body) (handed_on outputs id rest)
          → AllByRecursion (λ q. HasSmallCalls q.body) (cond b (record r { body = with_outputs outputs r.body } ∷ rest) (r ∷ handed_on outputs id rest))
      by true k = (out_calls outputs r.body h.0, h.1)
      by false k = (h.0, k)

  pub result_given : (r : Returned) (f : Frame) → IsGiven c 0 f (with_result r f)
  result_given (Value bytes) f = data_given (Some bytes) f f.act.outputs
  result_given (Promise id) f = record { same = refl; tokens = omega (arith, handed_tokens f.act.outputs id f.made); bounded = handed_bounded f.act.outputs id f.made; calls = handed_calls f.act.outputs id f.made }

  -- ---- refunds
  refund_holds : (receiver : List ℕ) (id : Hash32) (signer : List ℕ) (key : PublicKey) (amount : ℕ) → receipt_tokens c (refund receiver id signer key amount) ≡ amount
  refund_holds receiver id signer key amount =
      let r : Receipt = refund receiver id signer key amount in
      let one : receipt_tokens c r ≡ body_tokens c true r.body = ap (λ b. body_tokens c b r.body) system_is in
      omega (arith, one)

  refund_small : (receiver : List ℕ) (id : Hash32) (signer : List ℕ) (key : PublicKey) (amount : ℕ) → IsBounded c (refund receiver id signer key amount)
  refund_small receiver id signer key amount = record { price = omega arith; gas = rw system_is (omega arith) }

  gas_by : (f : Frame) (amount : ℕ) (b : Bool) → (amount == 0) ≡ b → IsGiven c amount f (cond b f (with_drawn f (refund f.act.signer (next_id f) f.act.signer f.act.signer_key amount)))
  gas_by f amount true e = record { same = refl; tokens = omega (arith, eqb-true amount 0 e); bounded = λ h. h; calls = λ h. h }
  gas_by f amount false e = drawn amount f _ (refund_holds f.act.signer (next_id f) f.act.signer f.act.signer_key amount) (refund_small f.act.signer (next_id f) f.act.signer f.act.signer_key amount) (omega arith, tt)

  pub gas_given : (burnt : ℕ) (f : Frame) → IsGiven c (gas_back c f burnt) f (with_gas_refund c burnt f)
  gas_given burnt f = gas_by f (gas_back c f burnt) (gas_back c f burnt == 0) refl

  deposits_by : (f : Frame) (amount : ℕ) (b : Bool) → (amount == 0) ≡ b
      → IsGiven c amount f (cond b f (record f { made = f.made ++ deposit_refund f.predecessor (next_id f) amount ∷ []; next_ordinal = f.next_ordinal + 1 }))
  deposits_by f amount true e = record { same = refl; tokens = omega (arith, eqb-true amount 0 e); bounded = λ h. h; calls = λ h. h }
  deposits_by f amount false e = drawn amount f (deposit_refund f.predecessor (next_id f) amount) (refund_holds f.predecessor (next_id f) system (Ed25519 (replicate 32 0)) amount) (refund_small f.predecessor (next_id f) system (Ed25519 (replicate 32 0)) amount) (omega arith, tt)

  deposits_given : (f : Frame) → IsGiven c (deposits_back f) f (with_deposits_back f)
  deposits_given f = deposits_by f (deposits_back f) (deposits_back f == 0) refl

  pub failure_given : (f : Frame) → IsGiven c (deposits_back f) f (given_up f)
  failure_given f =
      let g : Frame = with_data None f in
      let p : IsGiven c 0 f g = data_given None f f.act.outputs in
      let q : IsGiven c (deposits_back g) g (given_up f) = deposits_given g in
      let e : deposits_back g ≡ deposits_back f = ap deposits_back p.same in
      let r : IsGiven c (deposits_back f) g (given_up f) = rw (← e) q in
      let s : IsGiven c (0 + deposits_back f) f (given_up f) = both 0 (deposits_back f) f g (given_up f) p r in
      record { same = s.same; tokens = omega (arith, s.tokens); bounded = s.bounded; calls = s.calls }

-- data leave what the receipt is
pub data_act : (bytes : Option (List ℕ)) (f : Frame) → (with_data bytes f).act ≡ f.act
data_act bytes f = by f f.act.outputs
  where
    by : (g : Frame) (outputs : List DataReceiver) → (fold (with_datum bytes) g outputs).act ≡ g.act
    by g [] = refl
    by g (to ∷ rest) = by (with_datum bytes g to) rest

-- ---- a datum more
pub record IsNext (bytes : Option (List ℕ)) (outputs : List DataReceiver) (i : ℕ) (g whole : Frame) (f : Frame) : Type 0 where
  pub left : fold (with_datum bytes) g (drop (i + 1) outputs) ≡ whole
  pub act : g.act ≡ f.act

pub data_on : (bytes : Option (List ℕ)) (f g whole : Frame) (outputs : List DataReceiver) (i : ℕ) → f.act.outputs ≡ outputs → i < length outputs → IfSome (slice_get f.act.outputs i) (λ to. g ≡ with_datum bytes f to)
    → fold (with_datum bytes) f (drop i outputs) ≡ whole → IsNext bytes outputs i g whole f
data_on bytes f g whole outputs i own inside given left =
    let none : DataReceiver = record { data_id = record { 0 = [] }; receiver = [] } in
    let to : DataReceiver = get_or outputs i none in
    let read : slice_get f.act.outputs i ≡ Some to = ap (λ (list : List DataReceiver). slice_get list i) own ∙ slice_get-get_or outputs i none inside in
    let is : g ≡ with_datum bytes f to = rw read at given in
    let more : drop i outputs ≡ to ∷ drop (i + 1) outputs = drop_more outputs i none inside in
    record {
      left = ap (λ (k : Frame). fold (with_datum bytes) k (drop (i + 1) outputs)) is ∙ ap (fold (with_datum bytes) f) (sym more) ∙ left;
      act = ap (λ (k : Frame). k.act) is;
    }
