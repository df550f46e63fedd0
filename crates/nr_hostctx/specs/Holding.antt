-- What every call of a binding keeps that goes on: the promised gas is that of the receipts made, no token is lost, and
-- of the world nothing changes but the current account's amount and data. Laws of this project's own.
use Rattle.std.specs.Prelude.{◌≡◌, ℕ, ◌+◌, ◌-◌, ◌≤◌, Bool, true, false, List, Option, Some, None, IsSome, Result}
use Rattle.std.specs.Prelude.{Ok, Err, nat_le, nat_lt, refl, if◌then◌else◌, unwrap_or}
use Rattle.std.proofs.Common.{arith, ◌∙◌, sym, ap, subst}
use Rattle.std.proofs.lemmas.Bool.{leb-true}
use Rattle.std.specs.FinMap.{get}
use Rattle.nr_config.specs.Config.{Config}
use Rattle.nr_fees.specs.Fees.{fee, action_fee, attached, deposit_of}
use Rattle.nr_fees.specs.declared.table.Fee.TheVariants.{ActionReceipt as action_receipt}
use Rattle.nr_fees.specs.declared.table.Payment.TheVariants.{Execute}
use Rattle.nr_guest.specs.Guest.{RegisterView}
use Rattle.nr_promises.proofs.Keeping.{adds_created, adds_chained, adds_joined, adds_acted, stands_for_made}
use Rattle.nr_promises.specs.Book.{IsBook, create, then, join, act}
use Rattle.nr_promises.specs.Keeping.{Adds, receipt_gas, action_gas}
use Rattle.nr_promises.specs.declared.contents.Book.{Book}
use Rattle.nr_promises.specs.declared.contents.Origin.{Origin}
use Rattle.nr_promises.specs.declared.fault.PromiseFault.{PromiseFault}
use Rattle.nr_records.specs.declared.account.Account.{Account}
use Rattle.nr_records.specs.declared.action.Action.{Action}
use Rattle.nr_state.proofs.ValidCalls.{changes_chained, changes_account, changes_datum, changes_no_datum}
use Rattle.nr_state.proofs.ValidTokens.{moves_tokens}
use Rattle.nr_state.proofs.ValidWorlds.{set_datum_kept, removed_datum_kept, with_account_kept}
use Rattle.nr_state.specs.Calls.{ChangesOnly, GoesOn, IsReturned, made_gas, made_deposits}
use Rattle.nr_state.specs.Changes as change
use Rattle.nr_state.specs.Tokens.{world_tokens}
use Rattle.nr_state.specs.Valid.{IsValidWorld}
use Rattle.nr_state.specs.World.{World, with_account}
use Rattle.nr_state.specs.declared.calls.CallContext.{CallContext}
use Rattle.nr_state.specs.declared.calls.Returned.{Returned}
use Rattle.nr_state.specs.declared.calls.Returned.TheVariants as end
use Rattle.nr_wasmmem.specs.declared.fault.HostStop.TheVariants as stop
use Rattle.nr_wasmtypes.specs.declared.host.HostFn.{HostFn}
use Rattle.nr_hostctx.specs.Ready.{account_in, account_less, world_less}
use Rattle.nr_hostctx.specs.Acts.{Came, Goes, Stops, Act, onward, ◌>>=◌, has_gas, burn, promise}
use Rattle.nr_hostctx.specs.Faults.{balance_exceeded}
use Rattle.nr_hostctx.specs.Kept.{IsKept, row_kept}
use Rattle.nr_hostctx.specs.PromiseActions as action
use Rattle.nr_hostctx.specs.Promises as promises
use Rattle.nr_hostctx.specs.Rows.{row}
use Rattle.nr_hostctx.specs.State.{HostState}
use Rattle.nr_hostctx.specs.Storage as storage

-- What holds in a call that began in this world: of the gas promised so much isn't yet a receipt's, and so many tokens
-- left the account that no receipt has yet.
pub record InCall (c : Config) (x : CallContext) (w : World) (gas tokens : ℕ) (s : HostState) : Type 0 where
  pub config : s.config ≡ c
  pub context : s.context ≡ x
  pub limit : s.gas.limit ≡ x.gas
  pub fits : s.gas.burnt + s.gas.promised ≤ x.gas
  pub promised : s.gas.promised ≡ made_gas c s.book.made + gas
  pub kept : world_tokens c w ≡ world_tokens c s.world + made_deposits s.book.made + tokens
  pub changes : ChangesOnly x.current w s.world
  pub valid : IsValidWorld c w → IsValidWorld c s.world
  pub book : IsBook s.book
  pub current : s.book.origin.current ≡ x.current
  pub price : s.book.origin.gas_price ≡ x.gas_price
  pub returned : IsReturned s.book.made s.returned

abbrev pub OnGoes : {A : Type 0} → (HostState → Type 0) → Came A → Type 0
OnGoes Q (Goes s value) = Q s
OnGoes Q (Stops s why) = Unit {0}

-- an act turns states of the one kind into states of the other
abbrev pub Turns : {A : Type 0} → (HostState → Type 0) → Act A → (HostState → Type 0) → Type 0
Turns P act Q = (s : HostState) → P s → OnGoes Q (act s)

on_came : {A B : Type 0} → (Q R : HostState → Type 0) (came : Came A) (next : A → Act B) → OnGoes Q came
    → ((a : A) → Turns Q (next a) R) → OnGoes R (onward came next)
on_came Q R (Goes t value) next h k = k value t h
on_came Q R (Stops t why) next h k = tt

-- one act after the other
step : {A B : Type 0} → (P Q R : HostState → Type 0) (act : Act A) (next : A → Act B) → Turns P act Q
    → ((a : A) → Turns Q (next a) R) → Turns P (act >>= next) R
step P Q R act next h k s p = on_came Q R (act s) next (h s p) k

le_true : (a b : ℕ) → nat_le a b ≡ true → a ≤ b
le_true a b is = leb-true a b is

choose : {A : Type 0} → (Q : HostState → Type 0) (b : Bool) (y z : Came A) → (b ≡ true → OnGoes Q y)
    → (b ≡ false → OnGoes Q z) → OnGoes Q (if b then y else z)
choose Q true y z h k = h refl
choose Q false y z h k = k refl

goes_stands : (o p : Option Account) → GoesOn o p → IsSome o → IsSome p
goes_stands None p g stands = absurd cc
goes_stands (Some a) None g stands = absurd g
goes_stands (Some a) (Some b) g stands = refl

some_is : (o : Option Account) (d : Account) → IsSome o → o ≡ Some (unwrap_or o d)
some_is None d stands = absurd cc
some_is (Some a) d stands = refl

not_less : (a b : ℕ) → nat_lt a b ≡ false → b ≤ a
not_less a b e = grind (arith, e)

module _ (c : Config) (x : CallContext) (w : World) (standing : IsSome (get w.accounts x.current)) where
  abbrev H : ℕ → ℕ → HostState → Type 0
  H gas tokens = InCall c x w gas tokens

  -- nothing is owed
  abbrev K : HostState → Type 0
  K = H 0 0

  -- a receipt's gas is promised that isn't made yet
  abbrev R : HostState → Type 0
  R = H (0 + receipt_gas c) 0

  abbrev Stays : {A : Type 0} → Act A → Type 0
  Stays act = Turns K act K

  chain : {A B : Type 0} → (act : Act A) (next : A → Act B) → Stays act → ((a : A) → Stays (next a))
      → Stays (act >>= next)
  chain act next h k = step K K K act next h k

  -- registers, memory and logs are apart
  apart : (g t : ℕ) (s : HostState) (registers : RegisterView) (guest : List ℕ) (logs : List (List ℕ)) → H g t s
      → H g t (record s { registers = registers; guest = guest; logs = logs })
  apart g t s registers guest logs h =
      record {
        config = h.config;
        context = h.context;
        limit = h.limit;
        fits = h.fits;
        promised = h.promised;
        kept = h.kept;
        changes = h.changes;
        valid = h.valid;
        book = h.book;
        current = h.current;
        price = h.price;
        returned = h.returned;
      }

  -- ---- gas
  burns_at : (g t n : ℕ) → Turns (H g t) (burn n) (H g t)
  unfolding burn
  burns_at g t n s h =
      choose (H g t) (has_gas s.gas n) _ _
      (λ (is : nat_le (s.gas.burnt + s.gas.promised + n) s.gas.limit ≡ true). record {
        config = h.config;
        context = h.context;
        limit = h.limit;
        fits = omega (arith, le_true _ _ is, h.limit);
        promised = h.promised;
        kept = h.kept;
        changes = h.changes;
        valid = h.valid;
        book = h.book;
        current = h.current;
        price = h.price;
        returned = h.returned;
      })
      (λ is. tt)

  burns : (n : ℕ) → Stays (burn n)
  burns n = burns_at 0 0 n

  prepays_at : (g t n : ℕ) → Turns (H g t) (promise n) (H (g + n) t)
  unfolding promise
  prepays_at g t n s h =
      choose (H (g + n) t) (has_gas s.gas n) _ _
      (λ (is : nat_le (s.gas.burnt + s.gas.promised + n) s.gas.limit ≡ true). record {
        config = h.config;
        context = h.context;
        limit = h.limit;
        fits = omega (arith, le_true _ _ is, h.limit);
        promised = omega (arith, h.promised);
        kept = h.kept;
        changes = h.changes;
        valid = h.valid;
        book = h.book;
        current = h.current;
        price = h.price;
        returned = h.returned;
      })
      (λ is. tt)

  -- another result of the call, which the receipts made allow
  with_returned : (s : HostState) (r : Returned) → IsReturned s.book.made r → K s → K (record s { returned = r })
  with_returned s r is h =
      record {
        config = h.config;
        context = h.context;
        limit = h.limit;
        fits = h.fits;
        promised = h.promised;
        kept = h.kept;
        changes = h.changes;
        valid = h.valid;
        book = h.book;
        current = h.current;
        price = h.price;
        returned = is;
      }

  -- ---- the world
  stands_in : (s : HostState) → K s → IsSome (get s.world.accounts x.current)
  stands_in s h = goes_stands (get w.accounts x.current) _ h.changes.account standing

  -- another world of the same tokens
  with_world_is : (s : HostState) (after : World) → world_tokens c after ≡ world_tokens c s.world
      → ChangesOnly x.current s.world after → (IsValidWorld c s.world → IsValidWorld c after) → K s
      → K (record s { world = after })
  with_world_is s after same changes valid h =
      record {
        config = h.config;
        context = h.context;
        limit = h.limit;
        fits = h.fits;
        promised = h.promised;
        kept = omega (arith, h.kept, same);
        changes = changes_chained x.current w s.world after h.changes changes;
        valid = λ v. valid (h.valid v);
        book = h.book;
        current = h.current;
        price = h.price;
        returned = h.returned;
      }

  -- where the state says what account and which configuration these are
  in_state : (s : HostState) (after : Config → List ℕ → World) → K s → K (record s { world = after c x.current })
      → K (record s { world = after s.config s.context.current })
  in_state s after h k =
      subst (λ (d : Config). K (record s { world = after d s.context.current })) (sym h.config)
      (subst (λ id. K (record s { world = after c id })) (sym (ap (λ (y : CallContext). y.current) h.context)) k)

  sets : (key value : List ℕ) → Stays (storage.set_datum key value)
  unfolding storage.set_datum
  sets key value s h =
      in_state s (λ d id. change.set_datum d s.world id key value) h
      (with_world_is s (change.set_datum c s.world x.current key value)
      ((moves_tokens c s.world).datum_set x.current key value)
      (changes_datum c x.current key value s.world)
      (λ v. set_datum_kept c s.world x.current v key value (stands_in s h)) h)

  removes : (key : List ℕ) → Stays (storage.remove_datum key)
  unfolding storage.remove_datum
  removes key s h =
      in_state s (λ d id. change.removed_datum d s.world id key) h
      (with_world_is s (change.removed_datum c s.world x.current key)
      ((moves_tokens c s.world).datum_removed x.current key)
      (changes_no_datum c x.current key s.world)
      (λ v. removed_datum_kept c s.world x.current v key (stands_in s h)) h)

  -- ---- promises
  -- the receipts made have so much more gas and so many more tokens, which were owed
  with_book_made : (g t n u : ℕ) (s : HostState) (d : Book) → Adds c s.book d n u → H (g + n) (t + u) s
      → H g t (record s { book = d })
  with_book_made g t n u s d adds h =
      let o : d.origin ≡ s.book.origin = ap (λ (b : Book). b.origin) adds.rest in
      record {
        config = h.config;
        context = h.context;
        limit = h.limit;
        fits = h.fits;
        promised = omega (arith, h.promised, adds.gas_is);
        kept = omega (arith, h.kept, adds.deposits_are);
        changes = h.changes;
        valid = h.valid;
        book = adds.is_book h.book;
        current = ap (λ (y : Origin). y.current) o ∙ h.current;
        price = ap (λ (y : Origin). y.gas_price) o ∙ h.price;
        returned = adds.returned s.returned h.returned;
      }

  with_book_is : {A : Type 0} → (P : HostState → Type 0) (s : HostState) (r : Result (Book × A) PromiseFault)
      → ((d : Book) (a : A) → r ≡ Ok (d, a) → P (record s { book = d })) → OnGoes P (promises.with_book r s)
  with_book_is P s (Ok came) k = k came.0 came.1 refl
  with_book_is P s (Err e) k = tt

  -- so much is owed, in another form of the number
  owes : (g k t u : ℕ) (s : HostState) → g ≡ k → t ≡ u → H g t s → H k u s
  owes g k t u s e f h = subst (λ n. H n u s) e (subst (λ n. H g n s) f h)

  makes : (receiver : List ℕ) → Turns R (promises.make receiver) K
  unfolding promises.make
  makes receiver s h =
      with_book_is K s (create s.book receiver) (λ d index is.
      with_book_made 0 0 (receipt_gas c) 0 s d (adds_created c s.book d receiver index is)
      (owes _ _ _ _ s refl (omega arith) h))

  makes_after : (index : ℕ) (receiver : List ℕ) → Turns R (promises.make_after index receiver) K
  unfolding promises.make_after
  makes_after index receiver s h =
      with_book_is K s ((then) s.book index receiver) (λ d at is.
      with_book_made 0 0 (receipt_gas c) 0 s d (adds_chained c s.book d index receiver at is)
      (owes _ _ _ _ s refl (omega arith) h))

  makes_joint : (indices : List ℕ) → Stays (promises.make_joint indices)
  unfolding promises.make_joint
  makes_joint indices s h =
      with_book_is K s (join s.book indices) (λ d at is.
      with_book_made 0 0 0 0 s d (adds_joined c s.book d indices at is)
      (owes _ _ _ _ s (omega arith) (omega arith) h))

  prepays_receipt : Turns K promises.prepay_receipt R
  prepays_receipt s h =
      let e : fee s.config Execute action_receipt ≡ receipt_gas c =
      ap (λ (d : Config). fee d Execute action_receipt) h.config in
      rw e (prepays_at 0 0 (receipt_gas c) s h)

  receipts : (receiver : List ℕ) → Turns K (promises.pay_receipt receiver) R
  unfolding promises.pay_receipt
  receipts receiver = step K K R (promises.send_receipt receiver) _ (λ s. burns _ s) (λ sent. prepays_receipt)

  connects : (count : ℕ) (receiver : List ℕ) → Turns R (promises.pay_inputs count receiver) R
  unfolding promises.pay_inputs
  connects count receiver s = burns_at (0 + receipt_gas c) 0 _ s

  creates : (receiver : List ℕ) → Stays (promises.create_promise receiver)
  unfolding promises.create_promise
  creates receiver = step K R K (promises.pay_receipt receiver) _ (receipts receiver) (λ paid. makes receiver)

  chains : (index count : ℕ) (receiver : List ℕ) → Stays (promises.chain_promise index count receiver)
  unfolding promises.chain_promise
  chains index count receiver =
      step K R K (promises.pay_receipt receiver) _ (receipts receiver) (λ paid.
      step R R K (promises.pay_inputs count receiver) _ (connects count receiver) (λ connected.
      makes_after index receiver))

  -- ---- actions
  local_is : (s : HostState) (r : Result (List ℕ) PromiseFault) → K s → OnGoes K (action.local_if r s)
  local_is s (Ok receiver) h = h
  local_is s (Err e) h = tt

  locals : (index : ℕ) → Stays (action.local_at index)
  locals index s = local_is s _

  prepays_action : (a : Action) → Turns K (action.prepay_action a) (H (0 + action_gas c a) 0)
  prepays_action a s h =
      let e : action_fee s.config Execute a + attached a ≡ action_gas c a =
      ap (λ (d : Config). action_fee d Execute a + attached a) h.config in
      rw e (prepays_at 0 0 (action_gas c a) s h)

  -- the account's amount falls
  less_is : (g deposit : ℕ) (s : HostState) (account : Account) → get s.world.accounts x.current ≡ Some account
      → deposit ≤ account.amount → H g 0 s
      → H g (0 + deposit) (record s { world = with_account s.world x.current (account_less account deposit) })
  less_is g deposit s account is rich h =
      let after : World = with_account s.world x.current (account_less account deposit) in
      let moved
      : world_tokens c after + (account.amount + account.locked)
      ≡ world_tokens c s.world + (account.amount - deposit + account.locked) =
      (moves_tokens c s.world).account_changed x.current account (account_less account deposit) is in
      let fewer : world_tokens c s.world ≡ world_tokens c after + deposit = omega (arith, moved, rich) in
      record {
        config = h.config;
        context = h.context;
        limit = h.limit;
        fits = h.fits;
        promised = h.promised;
        kept = omega (arith, h.kept, fewer);
        changes =
            changes_chained x.current w s.world after h.changes
            (changes_account x.current s.world account (account_less account deposit) is refl);
        valid = λ v.
            with_account_kept c s.world x.current (h.valid v) account (account_less account deposit) is refl refl
            (omega (arith, fewer, (h.valid v).tokens));
        book = h.book;
        current = h.current;
        price = h.price;
        returned = h.returned;
      }

  -- a deposit taken from an account, if it has as much
  abbrev taken_from : List ℕ → HostState → ℕ → Came (Unit {0})
  taken_from id s deposit =
      if nat_lt (account_in s.world id).amount deposit
      then Stops s (stop.Fault balance_exceeded)
      else Goes (record s { world = world_less s.world id deposit }) tt

  takes : (g deposit : ℕ) → Turns (H g 0) (action.take deposit) (H g (0 + deposit))
  unfolding action.take
  takes g deposit s h =
      let stands : IsSome (get s.world.accounts x.current) =
      goes_stands (get w.accounts x.current) _ h.changes.account standing in
      subst (λ id. OnGoes (H g (0 + deposit)) (taken_from id s deposit))
      (sym (ap (λ (y : CallContext). y.current) h.context))
      (choose (H g (0 + deposit)) (nat_lt (account_in s.world x.current).amount deposit) _ _
      (λ is. tt)
      (λ is.
      less_is g deposit s (account_in s.world x.current) (some_is (get s.world.accounts x.current) _ stands)
      (not_less _ _ is) h))

  with_action_is : (a : Action) (index : ℕ) (s : HostState) (r : Result Book PromiseFault) → act s.book index a ≡ r
      → H (0 + action_gas c a) (0 + deposit_of a) s → OnGoes K (action.with_action r s)
  with_action_is a index s (Ok d) is h =
      with_book_made 0 0 (action_gas c a) (deposit_of a) s d (adds_acted c s.book d index a h.book is) h
  with_action_is a index s (Err e) is h = tt

  appends : (index : ℕ) (a : Action) → Stays (action.append index a)
  unfolding action.append
  appends index a =
      chain (action.local_at index) _ (locals index) (λ local.
      chain (action.send_action local a) _ (λ s. burns _ s) (λ sent.
      step K (H (0 + action_gas c a) 0) K (action.prepay_action a) _ (prepays_action a) (λ paid.
      step (H (0 + action_gas c a) 0) (H (0 + action_gas c a) (0 + deposit_of a)) K (action.take _) _
      (takes (0 + action_gas c a) (deposit_of a)) (λ taken s.
      with_action_is a index s (act s.book index a) refl))))

  -- ---- all of them
  abbrev Keeps : (A : Type 0) → HostState → Came A → Type 0
  Keeps A s came = K s → OnGoes K came

  keeps : IsKept Keeps
  keeps =
      record {
        chained = λ A B s came next h k holds. on_came K K came next (h holds) (λ a t. k a t);
        goes = λ A s a h. h;
        stops = λ A s why h. tt;
        burns = burns;
        registers_set = λ s r h. apart 0 0 s r s.guest s.logs h;
        guest_set = λ s bytes is h. apart 0 0 s s.registers bytes s.logs h;
        logs_set = λ s logs h. apart 0 0 s s.registers s.guest logs h;
        value_set = λ s value h. with_returned s (end.Value value) tt h;
        promise_set = λ s index id is h.
            with_returned s (end.Promise id) (stands_for_made s.book index id h.book is) h;
        datum_set = sets;
        datum_removed = removes;
        created = creates;
        chain_made = chains;
        joined = makes_joint;
        appended = appends;
      }

  pub row_holds : (f : HostFn) (a : List ℕ) → Stays (row f a)
  row_holds f a = row_kept Keeps keeps f a
