-- What the calls of a book add, and what holds of its receipts.
use Rattle.std.proofs.Common.{◌≡◌, ℕ, zero, suc, ◌+◌, ◌*◌, ◌<◌, ◌≤◌, true, false, cond, List, [], ◌∷◌, ◌++◌, length, ap, refl, sym, ◌∙◌, subst, arith, length-append, Ok, Err}
use Rattle.std.specs.Prelude.{sum_by, nat_lt}
use Rattle.std.specs.List.{AllByRecursion, flat_map, list_any, list_all}
use Rattle.std.specs.Str.{bytes_eq}
use Rattle.std.proofs.lemmas.List.Folds.{list_any-append}
use Rattle.std.proofs.lemmas.List.Sums.{sum_by-append, sum_by-cons}
use Rattle.std.proofs.lemmas.Bool.{ltb-false}
use Rattle.std.proofs.Math.Nat.{suc-mul}
use mathlib.Core.Bool.{or-true}
use Rattle.nr_bytes.proofs.Basics.{all_weaker, bind_ok}
use Rattle.nr_bytes.specs.Reading.{◌>>=◌}
use Rattle.nr_config.specs.Config.{Config}
use Rattle.nr_fees.specs.Fees.{body_gas, deposit_of, attached, action_fee}
use Rattle.nr_fees.specs.declared.table.Payment.TheVariants.{Execute}
use Rattle.nr_ids.specs.declared.key.Hash32.{Hash32}
use Rattle.nr_promises.proofs.Changed.{sum_raised, any_kept}
use Rattle.nr_promises.proofs.MadeAfter.{made_by, made_gas_after, made_deposits_after}
use Rattle.nr_promises.proofs.Books.{first_of_ok, ok_is, joined_is, place_stands, chosen, book_with_receipt, book_with_joined, book_with_action}
use Rattle.nr_promises.specs.Book.{IsBook, IsOwn, places, promise_at, place_of, next_index, most_inputs, with_receipt, with_promise, all_places, create, then, join, act, changed, with_action, body_with_action, with_output, body_actions, actions_of_receipt, count_at, id_at, receipt_of}
use Rattle.nr_promises.specs.Keeping.{Adds, receipt_gas, action_gas}
use Rattle.nr_promises.specs.declared.contents.Book.{Book}
use Rattle.nr_promises.specs.declared.contents.Promise.{Promise}
use Rattle.nr_promises.specs.declared.contents.Promise.TheVariants.{Single, Joined}
use Rattle.nr_promises.specs.declared.contents.Origin.{Origin}
use Rattle.nr_promises.specs.declared.fault.PromiseFault.TheVariants.{TooManyActions}
use Rattle.nr_records.specs.declared.action.Action.{Action}
use Rattle.nr_records.specs.declared.receipt.Body.{Body}
use Rattle.nr_records.specs.declared.receipt.Body.TheVariants.{Act, Datum}
use Rattle.nr_records.specs.declared.receipt.Receipt.{Receipt}
use Rattle.nr_state.proofs.ValidOwned.{itself}
use Rattle.nr_state.specs.Calls.{HasPrice, IsMade, IsReturned, body_deposits, made_gas}
use Rattle.nr_state.specs.declared.calls.CallContext.{CallContext}
use Rattle.nr_state.specs.declared.calls.Returned.{Returned}
use Rattle.nr_state.specs.declared.calls.Returned.TheVariants as end

-- ---- what was returned stays among the receipts made
pub still_returned : (made more : List Receipt) (r : Returned) → IsReturned made r → IsReturned (made ++ more) r
still_returned made more (end.Value bytes) h = h
still_returned made more (end.Promise id) h = rw (list_any-append (λ (q : Receipt). bytes_eq q.receipt_id.0 id.0) made more, h) refl

pub returned_changed : (f : Receipt → Receipt) → ((q : Receipt) → (f q).receipt_id ≡ q.receipt_id) → (made : List Receipt) (at : ℕ) (r : Returned) → IsReturned made r → IsReturned (changed f made at) r
returned_changed f same made at (end.Value bytes) h = h
returned_changed f same made at (end.Promise id) h =
    any_kept (λ (q : Receipt). bytes_eq q.receipt_id.0 id.0) f (λ q. ap (λ (i : Hash32). bytes_eq i.0 id.0) (same q)) made at ∙ h

-- ---- a new receipt
pub adds_receipt : (c : Config) (b : Book) (receiver waited : List ℕ) → Adds c b (with_receipt b receiver waited) (receipt_gas c) 0
adds_receipt c b receiver waited = record {
  gas_is = made_gas_after c b.origin receiver waited [] b.made b.next_ordinal;
  deposits_are = let e = made_deposits_after b.origin receiver waited [] b.made b.next_ordinal in omega (arith, e);
  promises = omega (arith, length-append b.promises (Single (length b.made) ∷ []));
  returned = λ r h. made_by b.origin receiver (λ m. IsReturned m r) (λ m. IsReturned m r)
      (λ m output at k. returned_changed (with_output output) (λ q. refl) m at r k)
      (λ m id ids k. still_returned m _ r k)
      waited [] b.made b.next_ordinal h;
  rest = refl;
  is_book = book_with_receipt b receiver waited;
}

pub adds_created : (c : Config) (b d : Book) (receiver : List ℕ) (index : ℕ) → create b receiver ≡ Ok (d, index) → Adds c b d (receipt_gas c) 0
adds_created c b d receiver index h =
    let s = bind_ok (next_index b) (λ i. Ok (with_receipt b receiver [], i)) (d, index) h in
    let e : d ≡ with_receipt b receiver [] = first_of_ok _ _ _ _ s.2 in
    subst (λ (k : Book). Adds c b k (receipt_gas c) 0) (sym e) (adds_receipt c b receiver [])

pub adds_chained : (c : Config) (b d : Book) (after : ℕ) (receiver : List ℕ) (index : ℕ) → then b after receiver ≡ Ok (d, index) → Adds c b d (receipt_gas c) 0
adds_chained c b d after receiver index h =
    let p = bind_ok (promise_at b after) (λ promise. next_index b >>= λ i. Ok (with_receipt b receiver (places promise), i)) (d, index) h in
    let s = bind_ok (next_index b) (λ i. Ok (with_receipt b receiver (places p.0), i)) (d, index) p.2 in
    let e : d ≡ with_receipt b receiver (places p.0) = first_of_ok _ _ _ _ s.2 in
    subst (λ (k : Book). Adds c b k (receipt_gas c) 0) (sym e) (adds_receipt c b receiver (places p.0))

-- ---- a joint promise
pub adds_promise : (c : Config) (b : Book) (promise : Promise) → (IsBook b → IsBook (record b { promises = b.promises ++ promise ∷ [] })) → Adds c b (record b { promises = b.promises ++ promise ∷ [] }) 0 0
adds_promise c b promise kept = record {
  gas_is = omega arith;
  deposits_are = omega arith;
  promises = omega (arith, length-append b.promises (promise ∷ []));
  returned = λ r h. h;
  rest = refl;
  is_book = kept;
}

pub adds_joined : (c : Config) (b d : Book) (indices : List ℕ) (index : ℕ) → join b indices ≡ Ok (d, index) → Adds c b d 0 0
adds_joined c b d indices index h =
    let all = all_places b.promises indices in
    let j = joined_is (nat_lt most_inputs (length all)) (list_all (λ i. nat_lt i (length b.promises)) indices) _ _ (with_promise b (Joined all)) (d, index) h in
    let s = bind_ok (next_index b) (λ i. Ok (record b { promises = b.promises ++ Joined all ∷ [] }, i)) (d, index) j.1 in
    let e : d ≡ record b { promises = b.promises ++ Joined all ∷ [] } = first_of_ok _ _ _ _ s.2 in
    let few : length all ≤ most_inputs = ltb-false most_inputs (length all) j.0 in
    subst (λ (k : Book). Adds c b k 0 0) (sym e) (adds_promise c b (Joined all) (book_with_joined b indices few))

-- ---- an action
pub gas_with_action : (c : Config) (action : Action) (price : ℕ) (b : Body) → HasPrice price b → body_gas c false (body_with_action action b) ≡ body_gas c false b + action_gas c action
gas_with_action c action price (Act act) h = omega (arith, sum_by-append (action_fee c Execute) act.actions (action ∷ []), sum_by-append attached act.actions (action ∷ []))
gas_with_action c action price (Datum d) h = absurd h

pub deposits_with_action : (action : Action) (price : ℕ) (b : Body) → HasPrice price b → body_deposits (body_with_action action b) ≡ body_deposits b + deposit_of action
deposits_with_action action price (Act act) h = omega (arith, sum_by-append deposit_of act.actions (action ∷ []))
deposits_with_action action price (Datum d) h = absurd h

pub adds_action : (c : Config) (b : Book) (at : ℕ) (action : Action) → IsBook b → at < length b.made → Adds c b (record b { made = changed (with_action action) b.made at }) (action_gas c action) (deposit_of action)
adds_action c b at action is lt = record {
  gas_is = sum_raised (IsOwn b.origin) (λ r. body_gas c false r.body) (with_action action) (action_gas c action) (λ r own. gas_with_action c action b.origin.gas_price r.body own.price) b.made at lt is.made;
  deposits_are = sum_raised (IsOwn b.origin) (λ r. body_deposits r.body) (with_action action) (deposit_of action) (λ r own. deposits_with_action action b.origin.gas_price r.body own.price) b.made at lt is.made;
  promises = omega arith;
  returned = returned_changed (with_action action) (λ q. refl) b.made at;
  rest = refl;
  is_book = book_with_action b at action;
}

pub adds_acted : (c : Config) (b d : Book) (index : ℕ) (action : Action) → IsBook b → act b index action ≡ Ok d → Adds c b d (action_gas c action) (deposit_of action)
adds_acted c b d index action is h =
    let p = bind_ok (place_of b index) (λ at. cond (nat_lt (count_at b.made at) b.max_actions) (Ok (record b { made = changed (with_action action) b.made at })) (Err TooManyActions)) d h in
    let e : d ≡ record b { made = changed (with_action action) b.made p.0 } = chosen _ _ _ _ p.2 in
    subst (λ (k : Book). Adds c b k (action_gas c action) (deposit_of action)) (sym e) (adds_action c b p.0 action is (place_stands b index p.0 is p.1))

-- ---- what a promise stands for is among the receipts made
pub id_among : (made : List Receipt) (at : ℕ) → at < length made → list_any (λ r. bytes_eq r.receipt_id.0 (id_at made at).0) made ≡ true
id_among [] at lt = absurd (omega arith)
id_among (r ∷ rs) zero lt = rw (itself r.receipt_id.0) refl
id_among (r ∷ rs) (suc at) lt = let less : at < length rs = omega arith in rw (id_among rs at less) (or-true _)

pub stands_for_made : (b : Book) (index : ℕ) (id : Hash32) → IsBook b → receipt_of b index ≡ Ok id → IsReturned b.made (end.Promise id)
stands_for_made b index id is h =
    let p = bind_ok (place_of b index) (λ at. Ok (id_at b.made at)) id h in
    let e : id ≡ id_at b.made p.0 = ok_is _ _ p.2 in
    subst (λ (i : Hash32). IsReturned b.made (end.Promise i)) (sym e) (id_among b.made p.0 (place_stands b index p.0 is p.1))

-- ---- the receipts made
pub two_sums : {X : Type 0} (f g : X → ℕ) (xs : List X) → sum_by f xs + sum_by g xs ≡ sum_by (λ x. f x + g x) xs
two_sums f g [] = omega arith
two_sums f g (x ∷ xs) = omega (arith, two_sums f g xs, sum_by-cons f x xs, sum_by-cons g x xs, sum_by-cons (λ y. f y + g y) x xs)

pub gas_of_body : (c : Config) (price : ℕ) (b : Body) → HasPrice price b → body_gas c false b ≡ receipt_gas c + sum_by (action_gas c) (body_actions b)
gas_of_body c price (Act act) h = omega (arith, two_sums (action_fee c Execute) attached act.actions)
gas_of_body c price (Datum d) h = absurd h

pub gas_of_made : (c : Config) (o : Origin) (made : List Receipt) → AllByRecursion (IsOwn o) made → made_gas c made ≡ length made * receipt_gas c + sum_by (action_gas c) (flat_map actions_of_receipt made)
gas_of_made c o [] all = omega arith
gas_of_made c o (r ∷ rs) all =
    omega (arith, gas_of_body c o.gas_price r.body all.0.price, gas_of_made c o rs all.1, sum_by-cons (λ (q : Receipt). body_gas c false q.body) r rs, sum_by-append (action_gas c) (actions_of_receipt r) (flat_map actions_of_receipt rs), suc-mul (length rs) (receipt_gas c))

pub made_by_call : (x : CallContext) (b : Book) → IsBook b → b.origin.current ≡ x.current → b.origin.gas_price ≡ x.gas_price → AllByRecursion (IsMade x) b.made
made_by_call x b is current price =
    all_weaker (IsOwn b.origin) (IsMade x) (λ r own. record { predecessor = own.predecessor ∙ current; price = subst (λ (n : ℕ). HasPrice n r.body) price own.price }) b.made is.made
