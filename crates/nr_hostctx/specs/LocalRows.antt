-- Bindings look at the current account alone: with all else of another world each comes to the same. Laws of this
-- project's own.
use Rattle.std.specs.Prelude.{◌≡◌, ℕ, Bool, true, false, List, Option, Some, None, Result, Ok, Err, unwrap_or}
use Rattle.std.specs.Prelude.{is_some, nat_lt, if◌then◌else◌, refl}
use Rattle.std.proofs.Common.{ap, ◌∙◌}
use Rattle.std.specs.FinMap.{get}
use Rattle.nr_ids.specs.declared.key.Hash32.{Hash32}
use Rattle.nr_promises.specs.Book.{create, then, join, act, receipt_of, receiver_of}
use Rattle.nr_promises.specs.declared.contents.Book.{Book}
use Rattle.nr_promises.specs.declared.fault.PromiseFault.{PromiseFault}
use Rattle.nr_records.specs.declared.account.Account.{Account}
use Rattle.nr_records.specs.declared.action.Action.{Action}
use Rattle.nr_state.specs.World.{World, with_account}
use Rattle.nr_wasmtypes.specs.declared.host.HostFn.{HostFn}
use Rattle.nr_wasmmem.specs.declared.fault.HostStop.TheVariants as stop
use Rattle.nr_hostctx.specs.Accounts.{account_of}
use Rattle.nr_hostctx.specs.Acts.{Came, Goes, Stops, Act, onward, ◌>>=◌, look, guest_or_fault, has_gas}
use Rattle.nr_hostctx.specs.Acts.{burn, promise}
use Rattle.nr_hostctx.specs.Bounds.{after_of}
use Rattle.nr_hostctx.specs.Faults.{balance_exceeded}
use Rattle.nr_hostctx.specs.PromiseActions as action
use Rattle.nr_hostctx.specs.Promises as promises
use Rattle.nr_hostctx.specs.Ready.{no_account, account_less}
use Rattle.nr_hostctx.specs.Rows.{row}
use Rattle.nr_hostctx.specs.State.{HostState}
use Rattle.nr_hostctx.specs.Storage as storage
use Rattle.nr_state.proofs.OverWorlds.{seen, datum_seen, account_written, datum_set, datum_removed}
use Rattle.nr_state.specs.Scopes.{Scope, one_account, over}
use Rattle.nr_state.proofs.ValidOwned.{itself}
use Rattle.nr_hostctx.specs.Kept.{AreKept, act_kept}

module _ (v : World) where
  -- the state with all but the current account of another world
  abbrev pub elsewhere : HostState → HostState
  elsewhere s = record s { world = over (one_account s.context.current) s.world v }

  abbrev pub came_elsewhere : {A : Type 0} → Came A → Came A
  came_elsewhere (Goes s value) = Goes (elsewhere s) value
  came_elsewhere (Stops s why) = Stops (elsewhere s) why

  -- an act comes to the same there as here, and leaves the context
  pub record Alike {A : Type 0} (there here : Came A) (s : HostState) : Type 0 where
    pub same : there ≡ came_elsewhere here
    pub context : (after_of here).context ≡ s.context

  abbrev pub IsLocalAct : (A : Type 0) → Act A → Type 0
  IsLocalAct A act = (s : HostState) → Alike (act (elsewhere s)) (act s) s

  -- ---- one act and then the next
  on_came : {A B : Type 0} → (s : HostState) (came : Came A) (next : A → Act B) → (after_of came).context ≡ s.context
      → ((a : A) → IsLocalAct B (next a)) → Alike (onward (came_elsewhere came) next) (onward came next) s
  on_came s (Goes t value) next h k = record { same = (k value t).same; context = (k value t).context ∙ h }
  on_came s (Stops t why) next h k = record { same = refl; context = h }

  chain : {A B : Type 0} → (act : Act A) (next : A → Act B) → IsLocalAct A act → ((a : A) → IsLocalAct B (next a))
      → IsLocalAct B (act >>= next)
  chain act next h k s =
      let on = on_came s (act s) next (h s).context k in
      record { same = ap (λ c. onward c next) (h s).same ∙ on.same; context = on.context }

  choose : {A : Type 0} → (s : HostState) (b : Bool) (y y' z z' : Came A) → Alike y' y s → Alike z' z s
      → Alike (if b then y' else z') (if b then y else z) s
  choose s true y y' z z' h k = h
  choose s false y y' z z' h k = k

  -- ---- gas
  burns : (n : ℕ) → IsLocalAct (Unit {0}) (burn n)
  unfolding burn
  burns n s =
      choose s (has_gas s.gas n) _ _ _ _ (record { same = refl; context = refl })
      (record { same = refl; context = refl })

  prepays : (n : ℕ) → IsLocalAct (Unit {0}) (promise n)
  unfolding promise
  prepays n s =
      choose s (has_gas s.gas n) _ _ _ _ (record { same = refl; context = refl })
      (record { same = refl; context = refl })

  -- ---- the account and its data
  account_there : (s : HostState) → account_of (elsewhere s) ≡ account_of s
  account_there s =
      ap (λ o. unwrap_or o no_account)
      (seen (one_account s.context.current) v s.world s.context.current (itself s.context.current))

  sees_account : (A : Type 0) (f : Account → A) → IsLocalAct A (look (λ s. f (account_of s)))
  sees_account A f s = record {
    same = ap (λ account. Goes (elsewhere s) (f account)) (account_there s);
    context =
        refl;
  }

  datum_at : (key : List ℕ) (s : HostState)
      → get (elsewhere s).world.data_of (s.context.current, key) ≡ get s.world.data_of (s.context.current, key)
  datum_at key s =
      datum_seen (one_account s.context.current) v s.world s.context.current key (itself s.context.current)

  sets : (key value : List ℕ) → IsLocalAct (Unit {0}) (storage.set_datum key value)
  unfolding storage.set_datum
  sets key value s = record {
    same =
        ap (λ (w : World). Goes (record s { world = w }) tt)
        (datum_set (one_account s.context.current) v s.config s.world s.context.current key value
        (itself s.context.current));
    context = refl;
  }

  removes : (key : List ℕ) → IsLocalAct (Unit {0}) (storage.remove_datum key)
  unfolding storage.remove_datum
  removes key s = record {
    same =
        ap (λ (w : World). Goes (record s { world = w }) tt)
        (datum_removed (one_account s.context.current) v s.config s.world s.context.current key
        (itself s.context.current));
    context = refl;
  }

  -- ---- promises
  with_book_is : {A : Type 0} → (r : Result (Book × A) PromiseFault) → IsLocalAct A (promises.with_book r)
  with_book_is (Ok came) s = record { same = refl; context = refl }
  with_book_is (Err e) s = record { same = refl; context = refl }

  makes : (receiver : List ℕ) → IsLocalAct ℕ (promises.make receiver)
  unfolding promises.make
  makes receiver s = with_book_is (create s.book receiver) s

  makes_after : (index : ℕ) (receiver : List ℕ) → IsLocalAct ℕ (promises.make_after index receiver)
  unfolding promises.make_after
  makes_after index receiver s = with_book_is ((then) s.book index receiver) s

  makes_joint : (indices : List ℕ) → IsLocalAct ℕ (promises.make_joint indices)
  unfolding promises.make_joint
  makes_joint indices s = with_book_is (join s.book indices) s

  receipts : (receiver : List ℕ) → IsLocalAct (Unit {0}) (promises.pay_receipt receiver)
  unfolding promises.pay_receipt
  receipts receiver = chain (promises.send_receipt receiver) _ (λ s. burns _ s) (λ sent s. prepays _ s)

  creates : (receiver : List ℕ) → IsLocalAct ℕ (promises.create_promise receiver)
  unfolding promises.create_promise
  creates receiver = chain (promises.pay_receipt receiver) _ (receipts receiver) (λ paid. makes receiver)

  connects : (count : ℕ) (receiver : List ℕ) → IsLocalAct (Unit {0}) (promises.pay_inputs count receiver)
  unfolding promises.pay_inputs
  connects count receiver s = burns _ s

  chains : (index count : ℕ) (receiver : List ℕ) → IsLocalAct ℕ (promises.chain_promise index count receiver)
  unfolding promises.chain_promise
  chains index count receiver =
      chain (promises.pay_receipt receiver) _ (receipts receiver) (λ paid.
      chain (promises.pay_inputs count receiver) _ (connects count receiver) (λ connected. makes_after index receiver))

  returned_by : (s : HostState) (r : Result Hash32 PromiseFault)
      → Alike (onward (promises.from_book r (elsewhere s)) (λ id. promises.set_promise id))
      (onward (promises.from_book r s) (λ id. promises.set_promise id)) s
  unfolding promises.set_promise
  returned_by s (Ok id) = record { same = refl; context = refl }
  returned_by s (Err e) = record { same = refl; context = refl }

  -- ---- actions
  local_is : (r : Result (List ℕ) PromiseFault) → IsLocalAct Bool (action.local_if r)
  local_is (Ok receiver) s = record { same = refl; context = refl }
  local_is (Err e) s = record { same = refl; context = refl }

  takes : (deposit : ℕ) → IsLocalAct (Unit {0}) (action.take deposit)
  unfolding action.take
  takes deposit s = record { same = paid ∙ chosen.same; context = chosen.context }
    where
      id : List ℕ
      id = s.context.current

      p : Scope
      p = one_account id

      less : World → Account → World
      less w account = with_account w id (account_less account deposit)

      result : Account → World → Came (Unit {0})
      result account w =
          if nat_lt account.amount deposit then Stops s (stop.Fault balance_exceeded) else Goes
          (record s { world = w }) tt

      there : Came (Unit {0})
      there =
          if nat_lt (account_of s).amount deposit then Stops (elsewhere s) (stop.Fault balance_exceeded)
          else Goes (record s { world = over p (less s.world (account_of s)) v }) tt

      chosen : Alike there (action.take deposit s) s
      chosen = choose s (nat_lt (account_of s).amount deposit) _ _ _ _ (record { same = refl; context = refl })
          (record { same = refl; context = refl })

      paid : action.take deposit (elsewhere s) ≡ there
      paid = λ i. if nat_lt (account_there s i).amount deposit then Stops (elsewhere s) (stop.Fault balance_exceeded)
          else Goes (record s {
            world = (ap (less (over p s.world v)) (account_there s)
                ∙ account_written p v s.world id (account_less (account_of s) deposit) (itself id)) i;
          }) tt

  with_action_is : (r : Result Book PromiseFault) → IsLocalAct (Unit {0}) (action.with_action r)
  with_action_is (Ok book) s = record { same = refl; context = refl }
  with_action_is (Err e) s = record { same = refl; context = refl }

  appends : (index : ℕ) (a : Action) → IsLocalAct (Unit {0}) (action.append index a)
  unfolding action.append
  appends index a =
      chain (action.local_at index) _ (λ s. local_is (receiver_of s.book index) s) (λ local.
      chain (action.send_action local a) _ (λ s. burns _ s) (λ sent.
      chain (action.prepay_action a) _ (λ s. prepays _ s) (λ paid.
      chain (action.take _) _ (takes _) (λ taken s. with_action_is (act s.book index a) s))))

  guest_by : (o : Option (List ℕ)) → IsLocalAct (Unit {0}) (guest_or_fault o)
  guest_by None s = record { same = refl; context = refl }
  guest_by (Some bytes) s = record { same = refl; context = refl }

  -- ---- all of them
  kept : AreKept IsLocalAct
  kept = record {
    chained = λ A B act next h k. chain act next h k;
    goes = λ A a s. record { same = refl; context = refl };
    stops = λ A why s. record { same = refl; context = refl };
    looks = λ A f apart s. record {
      same = ap (Goes (elsewhere s)) (apart s (over (one_account s.context.current) s.world v));
      context = refl;
    };
    account_seen = sees_account;
    datum_seen = λ key s. record { same = ap (Goes (elsewhere s)) (datum_at key s); context = refl };
    datum_there = λ key s. record { same = ap (λ o. Goes (elsewhere s) (is_some o)) (datum_at key s); context = refl };
    burns = burns;
    registers_set = λ r s. record { same = refl; context = refl };
    guest_set = λ f long s. guest_by (f s.guest) s;
    logs_set = λ logs s. record { same = refl; context = refl };
    value_set = λ value s. record { same = refl; context = refl };
    promise_set = λ index s. returned_by s (receipt_of s.book index);
    datum_set = sets;
    datum_removed = removes;
    created = creates;
    chain_made = chains;
    joined = makes_joint;
    appended = appends;
  }

  pub row_local : (f : HostFn) (args : List ℕ) → IsLocalAct (Option ℕ) (row f args)
  row_local f args = act_kept IsLocalAct kept f args
