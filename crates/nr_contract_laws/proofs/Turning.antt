-- What an act of a binding makes of a state whose numbers fit, and of which numbers its value is.
use Rattle.std.proofs.Common.{◌≡◌, ℕ, ◌+◌, ◌-◌, ◌*◌, ◌^◌, ◌<◌, ◌≤◌, Bool, true, false, cond, ◌&&◌, nat_le, nat_lt, List}
use Rattle.std.proofs.Common.{length, Option, Some, None, Result, Ok, Err, refl, sym, ap, ◌∙◌, subst, arith}
use Rattle.std.specs.Prelude.{◌==◌, ◌||◌, ◌++◌, ◌∷◌, [], drop, is_none, unwrap_or}
use Rattle.std.specs.FinMap.{get, insert, remove}
use Rattle.std.specs.Map.{lookup, values_of}
use Rattle.std.specs.Option.{option_map}
use Rattle.std.specs.Str.{is_utf8}
use Rattle.std.proofs.lemmas.Bool.{leb-true}
use Rattle.std.proofs.lemmas.List.Sums.{sum_by-cons}
use Rattle.nr_bytes.specs.Numbers.{number}
use Rattle.nr_config.specs.Config.{Config, max_actions, max_key_bytes, max_log_bytes, max_logs, max_promises}
use Rattle.nr_config.specs.Config.{max_value_bytes}
use Rattle.nr_contract_laws.proofs.Books.{IsBounded, IsIndexed, acted, chained, created, joined}
use Rattle.nr_contract_laws.specs.Numbers.{FitsState, usage_of}
use Rattle.nr_fees.specs.Fees.{deposit_of}
use Rattle.nr_guest.specs.Guest.{RegisterView, all_bytes, argument, argument_size, can_set, has_place, held_with}
use Rattle.nr_guest.specs.Guest.{no_length, register, register_length, set_register}
use Rattle.nr_guest.specs.declared.fault.GuestFault.{GuestFault}
use Rattle.nr_hostctx.specs.Accounts.{account_of}
use Rattle.nr_hostctx.specs.Acts.{Act, Came, Goes, Stops, argument_size_at, burn, burnt_more, bytes_of, fault, fault_if}
use Rattle.nr_hostctx.specs.Acts.{from_guest, give, guest_bytes, guest_or_fault, has_gas, look, onward, or_fault, pay}
use Rattle.nr_hostctx.specs.Acts.{pay_bytes, promise, promised_more, put_guest, put_register, registers_or_fault}
use Rattle.nr_hostctx.specs.Acts.{to_guest, to_register, ◌>>=◌}
use Rattle.nr_hostctx.specs.Faults.{bad_utf8, key_too_long, out_of_bounds, too_many_actions, too_many_promises}
use Rattle.nr_hostctx.specs.Faults.{value_too_long}
use Rattle.nr_hostctx.specs.Logs as log
use Rattle.nr_hostctx.specs.PromiseActions as action
use Rattle.nr_hostctx.specs.Promises as promises
use Rattle.nr_hostctx.specs.Ready.{account_in, account_less, no_account, world_less}
use Rattle.nr_hostctx.specs.Storage as storage
use Rattle.nr_hostctx.specs.declared.seen.Gas.{Gas}
use Rattle.nr_hostctx.specs.declared.seen.HostState.{HostState}
use Rattle.nr_ids.specs.Grammar.{id_fault}
use Rattle.nr_ids.specs.declared.key.Hash32.{Hash32}
use Rattle.nr_ids.specs.declared.key.PublicKey.{PublicKey}
use Rattle.nr_promises.specs.Book.{act, actions_of, create, inputs_of, join, receipt_of, receiver_of, then}
use Rattle.nr_promises.specs.declared.contents.Book.{Book}
use Rattle.nr_promises.specs.declared.fault.PromiseFault.{PromiseFault}
use Rattle.nr_records.specs.Ids.{key_at}
use Rattle.nr_records.specs.Reading.{all_of}
use Rattle.nr_records.specs.declared.account.Account.{Account}
use Rattle.nr_records.specs.declared.action.Action.{Action}
use Rattle.nr_records.specs.declared.fault.RecordFault.{RecordFault}
use Rattle.nr_state.proofs.ValidOwned.{get_written, itself}
use Rattle.nr_state.specs.Changes as change
use Rattle.nr_state.specs.Usage.{datum_usage}
use Rattle.nr_state.specs.World.{World, with_account}
use Rattle.nr_state.specs.declared.calls.Returned.{Returned}
use Rattle.nr_state.specs.declared.calls.Returned.TheVariants as end
use Rattle.nr_wasmexec.proofs.Branches.{some_is}
use Rattle.nr_wasmmem.specs.Bytes.{put_over, range_in}
use Rattle.nr_wasmmem.specs.declared.fault.HostStop.{HostStop}

-- ---- one act and then the next
-- where an act goes on, its value is one of these and the state behind it is one of those
abbrev pub Good : {A : Type 0} → (HostState → Type 0) → (A → Type 0) → Came A → Type 0
Good Q V (Goes s value) = V value × Q s
Good Q V (Stops s why) = Unit {0}

-- an act turns states of the one kind into states of the other, and gives such a value
pub record Turn {A : Type 0} (P Q : HostState → Type 0) (V : A → Type 0) (a : Act A) : Type 0 where
  pub at : (s : HostState) → P s → Good Q V (a s)

abbrev pub AnyValue : {A : Type 0} → A → Type 0
AnyValue a = Unit {0}

abbrev pub Small : ℕ → Type 0
Small n = n < 2 ^ 64

on_came : {A B : Type 0} (Q R : HostState → Type 0) (V : A → Type 0) (W : B → Type 0) (came : Came A)
    (next : A → Act B) → Good Q V came → ((a : A) → V a → Turn Q R W (next a)) → Good R W (onward came next)
on_came Q R V W (Goes t value) next h k = (k value h.0).at t h.1
on_came Q R V W (Stops t why) next h k = tt

pub chain : {A B : Type 0} {P Q R : HostState → Type 0} {V : A → Type 0} {W : B → Type 0} (one : Act A)
    (next : A → Act B) → Turn P Q V one → ((a : A) → V a → Turn Q R W (next a)) → Turn P R W (one >>= next)
chain {A} {B} {P} {Q} {R} {V} {W} one next h k =
    record { at = λ s p. on_came Q R V W (one s) next (h.at s p) k }

-- where nothing is asked of the value
pub after : {A B : Type 0} {P Q R : HostState → Type 0} {W : B → Type 0} (one : Act A) (next : A → Act B)
    → Turn P Q AnyValue one → ((a : A) → Turn Q R W (next a)) → Turn P R W (one >>= next)
after one next h k = chain one next h (λ a v. k a)

choose : {A : Type 0} (Q : HostState → Type 0) (V : A → Type 0) (b : Bool) (y z : Came A) → (b ≡ true → Good Q V y)
    → (b ≡ false → Good Q V z) → Good Q V (cond b y z)
choose Q V true y z h k = h refl
choose Q V false y z h k = k refl

pub not_less : (a b : ℕ) → nat_lt a b ≡ false → b ≤ a
not_less a b e = grind (arith, e)

-- ---- what a state is in a call: its numbers fit, and the account is counted as at most so many bytes
pub record Counts (c : Config) (u : ℕ) (s : HostState) : Type 0 where
  pub fits : FitsState s
  pub config : s.config ≡ c
  pub usage : usage_of s ≤ u

pub counts_here : (s : HostState) → FitsState s → Counts s.config (usage_of s) s
counts_here s fits = record { fits = fits; config = refl; usage = omega arith }

-- ---- the storage that an account is counted as
account_written : (w : World) (id : List ℕ) (account : Account) → account_in (with_account w id account) id ≡ account
account_written w id account =
    ap (λ o. unwrap_or o no_account)
    (get_written w.accounts id account id ∙ ap (λ b. cond b (Some account) (get w.accounts id)) (itself id))

moved_by : (w : World) (id : List ℕ) (less more : ℕ) (o : Option Account) → get w.accounts id ≡ o
    → (account_in (change.with_moved w id less more o) id).storage_usage ≤ (unwrap_or o no_account).storage_usage + more
moved_by w id less more None e = rw e (omega arith)
moved_by w id less more (Some account) e =
    let written
    : (account_in (with_account w id (change.moved less more account)) id).storage_usage
    ≡ account.storage_usage - less + more =
    ap (λ (a : Account). a.storage_usage) (account_written w id (change.moved less more account)) in
    omega (arith, written)

moved_usage : (w : World) (id : List ℕ) (less more : ℕ)
    → (account_in (change.with_usage w id less more) id).storage_usage ≤ (account_in w id).storage_usage + more
moved_usage w id less more = moved_by w id less more (get w.accounts id) refl

added_usage : (c : Config) (w : World) (id key value : List ℕ)
    → (account_in (change.set_datum c w id key value) id).storage_usage
    ≤ (account_in w id).storage_usage + datum_usage c key value
added_usage c w id key value =
    moved_usage (record w { data_of = insert w.data_of (id, key) value }) id (change.usage_of_datum c w id key)
    (datum_usage c key value)

removed_usage : (c : Config) (w : World) (id key : List ℕ)
    → (account_in (change.removed_datum c w id key) id).storage_usage ≤ (account_in w id).storage_usage + 0
removed_usage c w id key =
    moved_usage (record w { data_of = remove w.data_of (id, key) }) id (change.usage_of_datum c w id key) 0

less_usage : (w : World) (id : List ℕ) (n : ℕ)
    → (account_in (world_less w id n) id).storage_usage ≡ (account_in w id).storage_usage
less_usage w id n =
    ap (λ (a : Account). a.storage_usage) (account_written w id (account_less (account_in w id) n))

-- ---- registers
held_long : (test : ℕ → Bool) (es : List (ℕ × List ℕ)) (bytes : List ℕ) → lookup test es ≡ Some bytes
    → length bytes ≤ all_bytes es
held_long test [] bytes e = absurd cc
held_long test (x ∷ es) bytes e = by_test (test x.0) (held_long test es bytes) e
  where
    by_test : (b : Bool) → (lookup test es ≡ Some bytes → length bytes ≤ all_bytes es)
        → cond b (Some x.1) (lookup test es) ≡ Some bytes → length bytes ≤ all_bytes (x ∷ es)
    by_test true rest e =
        let same : length x.1 ≡ length bytes = ap length (some_is x.1 bytes e) in
        omega (arith, sum_by-cons length x.1 (values_of es), same)
    by_test false rest e = omega (arith, sum_by-cons length x.1 (values_of es), rest e)

pub length_fits : (r : RegisterView) (id : ℕ) → all_bytes r.held < 2 ^ 64 → register_length r id < 2 ^ 64
length_fits r id fits = by_register (register r id) refl
  where
    by_register : (o : Option (List ℕ)) → register r id ≡ o → unwrap_or (option_map length o) no_length < 2 ^ 64
    by_register None e = omega arith
    by_register (Some bytes) e = omega (arith, fits, held_long _ r.held bytes e)

last_true : (a b d : Bool) → (a && b && d) ≡ true → d ≡ true
last_true true true d e = e
last_true true false d e = absurd cc
last_true false b d e = absurd cc

-- what registers are once one is set
abbrev IsSet : RegisterView → RegisterView → Type 0
IsSet old new = (all_bytes new.held ≤ new.limits.all_bytes) × (new.limits ≡ old.limits)

abbrev with_it : RegisterView → ℕ → List ℕ → RegisterView
with_it r id bytes = record r { held = held_with r id bytes }

set_is : (r new : RegisterView) (id : ℕ) (bytes : List ℕ) → set_register r id bytes ≡ Some new → IsSet r new
unfolding set_register
set_is r new id bytes e = by_test (can_set r id bytes) refl e
  where
    by_test : (b : Bool) → can_set r id bytes ≡ b → cond b (Some (with_it r id bytes)) None ≡ Some new → IsSet r new
    by_test true is e =
        subst (IsSet r) (some_is (with_it r id bytes) new e) (
          leb-true (all_bytes (held_with r id bytes)) r.limits.all_bytes
              (last_true (nat_le (length bytes) r.limits.register_bytes) (has_place r id) _ is),
          refl,
        )
    by_test false is e = absurd cc

module _ (c : Config) (u : ℕ) where
  abbrev pub K : HostState → Type 0
  K s = Counts c u s

  abbrev pub Gives : {A : Type 0} → (A → Type 0) → Act A → Type 0
  Gives V a = Turn K K V a

  abbrev pub Stays : {A : Type 0} → Act A → Type 0
  Stays a = Turn K K AnyValue a

  -- ---- other parts of a state
  with_gas : (s : HostState) (g : Gas) → g.burnt + g.promised ≤ g.limit → g.limit ≡ s.gas.limit → K s
      → K (record s { gas = g })
  with_gas s g within same h =
      record {
        fits = record {
          within = within;
          limit = subst (λ n. n < 2 ^ 64) (sym same) h.fits.limit;
          context = h.fits.context;
          held = h.fits.held;
          registers = h.fits.registers;
          promises = h.fits.promises;
        };
        config = h.config;
        usage = h.usage;
      }

  with_registers : (s : HostState) (r : RegisterView) → IsSet s.registers r → K s → K (record s { registers = r })
  with_registers s r is h =
      record {
        fits = record {
          within = h.fits.within;
          limit = h.fits.limit;
          context = h.fits.context;
          held = is.0;
          registers = rw is.1 h.fits.registers;
          promises = h.fits.promises;
        };
        config = h.config;
        usage = h.usage;
      }

  with_book : (s : HostState) (d : Book) → d.max_promises ≡ s.book.max_promises → K s → K (record s { book = d })
  with_book s d same h =
      record {
        fits = record {
          within = h.fits.within;
          limit = h.fits.limit;
          context = h.fits.context;
          held = h.fits.held;
          registers = h.fits.registers;
          promises = rw same h.fits.promises;
        };
        config = h.config;
        usage = h.usage;
      }

  pub with_world : (n : ℕ) (s : HostState) (w : World) → (account_in w s.context.current).storage_usage ≤ n → K s
      → Counts c n (record s { world = w })
  with_world n s w usage h =
      record {
        fits = record {
          within = h.fits.within;
          limit = h.fits.limit;
          context = h.fits.context;
          held = h.fits.held;
          registers = h.fits.registers;
          promises = h.fits.promises;
        };
        config = h.config;
        usage = usage;
      }

  -- memory, logs and the returned value are apart
  pub apart : (s : HostState) (guest : List ℕ) (logs : List (List ℕ)) (returned : Returned) → K s
      → K (record s { guest = guest; logs = logs; returned = returned })
  apart s guest logs returned h =
      record {
        fits = record {
          within = h.fits.within;
          limit = h.fits.limit;
          context = h.fits.context;
          held = h.fits.held;
          registers = h.fits.registers;
          promises = h.fits.promises;
        };
        config = h.config;
        usage = h.usage;
      }

  -- ---- values and faults
  pub gives : {A : Type 0} (V : A → Type 0) (a : A) → V a → Gives V (give a)
  gives V a v = record { at = λ s h. (v, h) }

  pub here : {A : Type 0} (a : A) → Stays (give a)
  here a = record { at = λ s h. (tt, h) }

  pub faults : {A : Type 0} (V : A → Type 0) (kind : ℕ) → Gives V (fault kind)
  faults V kind = record { at = λ s h. tt }

  stops : {A : Type 0} (why : HostStop) → Stays {A = A} (λ s. Stops s why)
  stops why = record { at = λ s h. tt }

  either : {A : Type 0} (b : Bool) (y z : Act A) → Stays y → Stays z → Stays (cond b y z)
  either true y z h k = h
  either false y z h k = k

  pub tested : (b : Bool) (kind : ℕ) → Stays (fault_if b kind)
  tested true kind = faults AnyValue kind
  tested false kind = here tt

  pub found : {A : Type 0} (o : Option A) (kind : ℕ) → Stays (or_fault o kind)
  found None kind = faults AnyValue kind
  found (Some a) kind = here a

  answered : {A : Type 0} (r : Result A GuestFault) → Stays (from_guest r)
  answered (Ok a) = here a
  answered (Err e) = stops _

  from_book_is : {A : Type 0} (r : Result A PromiseFault) → Stays (promises.from_book r)
  from_book_is (Ok a) = here a
  from_book_is (Err e) = stops _

  -- ---- what depends on a look
  pub looks : {A : Type 0} (V : A → Type 0) (f : HostState → A) → ((s : HostState) → K s → V (f s)) → Gives V (look f)
  looks V f k = record { at = λ s h. (k s h, h) }

  pub seen : {A : Type 0} (f : HostState → A) → Stays (look f)
  seen f = record { at = λ s h. (tt, h) }

  pub seeing : {A B : Type 0} {W : B → Type 0} (f : HostState → A) (next : A → Act B) → ((a : A) → Gives W (next a))
      → Gives W (λ s. next (f s) s)
  seeing f next k = record { at = λ s h. (k (f s)).at s h }

  -- ---- gas
  pub burns : (n : ℕ) → Stays (burn n)
  unfolding burn
  burns n =
      record {
        at = λ s h.
            choose K AnyValue (has_gas s.gas n) _ _
            (λ (is : nat_le (s.gas.burnt + s.gas.promised + n) s.gas.limit ≡ true).
            (tt, with_gas s (burnt_more s.gas n) (omega (arith, leb-true _ _ is)) refl h))
            (λ is. tt);
      }

  prepays : (n : ℕ) → Stays (promise n)
  unfolding promise
  prepays n =
      record {
        at = λ s h.
            choose K AnyValue (has_gas s.gas n) _ _
            (λ (is : nat_le (s.gas.burnt + s.gas.promised + n) s.gas.limit ≡ true).
            (tt, with_gas s (promised_more s.gas n) (omega (arith, leb-true _ _ is)) refl h))
            (λ is. tt);
      }

  pub pays : (cost : Config → ℕ) → Stays (pay cost)
  pays cost = seeing (λ s. cost s.config) burn burns

  -- ---- bytes
  pub arguments : (len ptr : ℕ) → Stays (bytes_of len ptr)
  unfolding bytes_of
  arguments len ptr =
      after (argument_size_at len ptr) _
      (seeing (λ s. argument_size s.registers len ptr) from_guest answered) (λ size.
      after (pay_bytes size) _ (pays _) (λ paid.
      seeing (λ s. argument s.registers s.guest len ptr) from_guest answered))

  pub ranges : (len ptr : ℕ) → Stays (guest_bytes len ptr)
  unfolding guest_bytes
  ranges len ptr =
      after (pay_bytes len) _ (pays _) (λ paid.
      seeing (λ s. range_in s.guest ptr len) (λ o. or_fault o out_of_bounds) (λ o. found o _))

  sets_register : (id : ℕ) (bytes : List ℕ) → Stays (put_register id bytes)
  sets_register id bytes = record { at = λ s h. by_set s h (set_register s.registers id bytes) refl }
    where
      by_set : (s : HostState) → K s → (o : Option RegisterView) → set_register s.registers id bytes ≡ o
          → Good K AnyValue (registers_or_fault o s)
      by_set s h None e = tt
      by_set s h (Some r) e = (tt, with_registers s r (set_is s.registers r id bytes e) h)

  pub writes : (id : ℕ) (bytes : List ℕ) → Stays (to_register id bytes)
  unfolding to_register
  writes id bytes = after (pay_bytes (length bytes)) _ (pays _) (λ paid. sets_register id bytes)

  sets_guest : (ptr : ℕ) (bytes : List ℕ) → Stays (put_guest ptr bytes)
  sets_guest ptr bytes = record { at = λ s h. by_put s h (put_over s.guest ptr bytes) }
    where
      by_put : (s : HostState) → K s → (o : Option (List ℕ)) → Good K AnyValue (guest_or_fault o s)
      by_put s h None = tt
      by_put s h (Some new) = (tt, apart s new s.logs s.returned h)

  pub stores : (ptr : ℕ) (bytes : List ℕ) → Stays (to_guest ptr bytes)
  unfolding to_guest
  stores ptr bytes = after (pay_bytes (length bytes)) _ (pays _) (λ paid. sets_guest ptr bytes)

  -- ---- texts, logs and values
  zeros : (ptr : ℕ) → Stays (log.zero_ended ptr)
  unfolding log.zero_ended
  zeros ptr =
      after (log.text_at ptr) _
      (seeing (λ s. log.before_zero (drop ptr s.guest)) (λ o. or_fault o out_of_bounds) (λ o. found o _)) (λ text.
      after (pay_bytes (length text)) _ (pays _) (λ paid. here text))

  pub texts : (len ptr : ℕ) → Stays (log.text_of len ptr)
  texts len ptr = either _ (log.zero_ended ptr) (guest_bytes len ptr) (zeros ptr) (ranges len ptr)

  pub is_text : (text : List ℕ) → Stays (log.utf8 text)
  is_text text = tested _ bad_utf8

  pub adds_log : (text : List ℕ) → Stays (log.add_log text)
  unfolding log.add_log
  adds_log text =
      record {
        at = λ s h.
            choose K AnyValue
            (nat_le (max_logs s.config) (length s.logs)
            || nat_lt (max_log_bytes s.config) (log.log_bytes s.logs + length text)) _ _
            (λ is. tt)
            (λ is. (tt, apart s s.guest (s.logs ++ text ∷ []) s.returned h));
      }

  pub returns : (value : List ℕ) → Stays (log.set_value value)
  unfolding log.set_value
  returns value = record { at = λ s h. (tt, apart s s.guest s.logs (end.Value value) h) }

  -- ---- data
  pub short_key : (key : List ℕ) → Gives (λ done. length key ≤ max_key_bytes c) (storage.short_key key)
  short_key key = record { at = λ s h. by_test s h (nat_lt (max_key_bytes s.config) (length key)) refl }
    where
      by_test : (s : HostState) → K s → (b : Bool) → nat_lt (max_key_bytes s.config) (length key) ≡ b
          → Good K (λ done. length key ≤ max_key_bytes c) (fault_if b key_too_long s)
      by_test s h true e = tt
      by_test s h false e =
          let same : max_key_bytes s.config ≡ max_key_bytes c = ap max_key_bytes h.config in
          (omega (arith, not_less _ _ e, same), h)

  pub short_value : (value : List ℕ) → Gives (λ done. length value ≤ max_value_bytes c) (storage.short_value value)
  short_value value = record { at = λ s h. by_test s h (nat_lt (max_value_bytes s.config) (length value)) refl }
    where
      by_test : (s : HostState) → K s → (b : Bool) → nat_lt (max_value_bytes s.config) (length value) ≡ b
          → Good K (λ done. length value ≤ max_value_bytes c) (fault_if b value_too_long s)
      by_test s h true e = tt
      by_test s h false e =
          let same : max_value_bytes s.config ≡ max_value_bytes c = ap max_value_bytes h.config in
          (omega (arith, not_less _ _ e, same), h)

  pub founds : (reg : ℕ) (o : Option (List ℕ)) → Gives Small (storage.found_in reg o)
  founds reg None = gives Small 0 (omega arith)
  founds reg (Some bytes) = after (to_register reg bytes) _ (writes reg bytes) (λ put. gives Small 1 (omega arith))

  pub removes : (key : List ℕ) → Stays (storage.remove_datum key)
  unfolding storage.remove_datum
  removes key =
      record {
        at = λ s h. (
          tt,
          with_world u s (change.removed_datum s.config s.world s.context.current key)
              (let less = removed_usage s.config s.world s.context.current key in omega (arith, h.usage, less)) h,
        );
      }

  -- ---- promises
  with_book_is : (s : HostState) → K s → (r : Result (Book × ℕ) PromiseFault) → IsIndexed s.book r
      → Good K Small (promises.with_book r s)
  with_book_is s h (Ok came) is = (omega (arith, is.1, h.fits.promises), with_book s came.0 is.0 h)
  with_book_is s h (Err e) is = tt

  makes : (receiver : List ℕ) → Gives Small (promises.make receiver)
  unfolding promises.make
  makes receiver = record { at = λ s h. with_book_is s h (create s.book receiver) (created s.book receiver) }

  makes_after : (index : ℕ) (receiver : List ℕ) → Gives Small (promises.make_after index receiver)
  unfolding promises.make_after
  makes_after index receiver =
      record { at = λ s h. with_book_is s h ((then) s.book index receiver) (chained s.book index receiver) }

  pub makes_joint : (indices : List ℕ) → Gives Small (promises.make_joint indices)
  unfolding promises.make_joint
  makes_joint indices = record { at = λ s h. with_book_is s h (join s.book indices) (joined s.book indices) }

  sends_receipt : (receiver : List ℕ) → Stays (promises.send_receipt receiver)
  sends_receipt receiver = record { at = λ s h. (burns _).at s h }

  prepays_receipt : Stays promises.prepay_receipt
  prepays_receipt = record { at = λ s h. (prepays _).at s h }

  receipts : (receiver : List ℕ) → Stays (promises.pay_receipt receiver)
  unfolding promises.pay_receipt
  receipts receiver =
      after (promises.send_receipt receiver) _ (sends_receipt receiver) (λ sent. prepays_receipt)

  pub creates : (receiver : List ℕ) → Gives Small (promises.create_promise receiver)
  unfolding promises.create_promise
  creates receiver = after (promises.pay_receipt receiver) _ (receipts receiver) (λ paid. makes receiver)

  connects : (count : ℕ) (receiver : List ℕ) → Stays (promises.pay_inputs count receiver)
  unfolding promises.pay_inputs
  connects count receiver = record { at = λ s h. (burns _).at s h }

  pub chains : (index count : ℕ) (receiver : List ℕ) → Gives Small (promises.chain_promise index count receiver)
  unfolding promises.chain_promise
  chains index count receiver =
      after (promises.pay_receipt receiver) _ (receipts receiver) (λ paid.
      after (promises.pay_inputs count receiver) _ (connects count receiver) (λ connected. makes_after index receiver))

  pub inputs : (index : ℕ) → Stays (promises.inputs_at index)
  inputs index = seeing (λ s. inputs_of s.book index) promises.from_book from_book_is

  pub ids : (bytes : List ℕ) → Stays (promises.account_id bytes)
  ids bytes = either (is_none (id_fault bytes)) (give bytes) _ (here bytes) (faults AnyValue _)

  pub place : Stays promises.place_for_one
  place =
      seeing (λ s. nat_le (max_promises s.config) (length s.book.promises)) (λ b. fault_if b too_many_promises)
      (λ b. tested b _)

  pub sizes : (count : ℕ) → Stays (promises.indices_size count)
  sizes count =
      either {A = ℕ} (nat_lt (8 * count) (2 ^ 64)) (give (8 * count)) (fault out_of_bounds) (here (8 * count))
      (faults AnyValue out_of_bounds)

  pub results : (reg : ℕ) (o : Option (List ℕ)) → Gives Small (promises.result_in reg o)
  results reg None = gives Small 2 (omega arith)
  results reg (Some bytes) = after (to_register reg bytes) _ (writes reg bytes) (λ put. gives Small 1 (omega arith))

  pub sets_promise : (id : Hash32) → Stays (promises.set_promise id)
  unfolding promises.set_promise
  sets_promise id = record { at = λ s h. (tt, apart s s.guest s.logs (end.Promise id) h) }

  pub receipt_is : (index : ℕ) → Stays (promises.receipt_at index)
  receipt_is index = seeing (λ s. receipt_of s.book index) promises.from_book from_book_is

  -- ---- actions
  local_is : (r : Result (List ℕ) PromiseFault) → Stays (action.local_if r)
  local_is (Ok receiver) = seen _
  local_is (Err e) = stops _

  takes : (deposit : ℕ) → Stays (action.take deposit)
  unfolding action.take
  takes deposit =
      record {
        at = λ s h.
            choose K AnyValue (nat_lt (account_of s).amount deposit) _ _
            (λ is. tt)
            (λ is. (
              tt,
              with_world u s (world_less s.world s.context.current deposit)
                  (let same = less_usage s.world s.context.current deposit in omega (arith, h.usage, same)) h,
            ));
      }

  with_action_is : (s : HostState) → K s → (r : Result Book PromiseFault) → IsBounded s.book r
      → Good K AnyValue (action.with_action r s)
  with_action_is s h (Ok d) is = (tt, with_book s d is h)
  with_action_is s h (Err e) is = tt

  sends_action : (local : Bool) (a : Action) → Stays (action.send_action local a)
  sends_action local a = record { at = λ s h. (burns _).at s h }

  prepays_action : (a : Action) → Stays (action.prepay_action a)
  prepays_action a = record { at = λ s h. (prepays _).at s h }

  adds_action : (index : ℕ) (a : Action) → Stays (action.add_action index a)
  adds_action index a = record { at = λ s h. with_action_is s h (act s.book index a) (acted s.book index a) }

  pub appends : (index : ℕ) (a : Action) → Stays (action.append index a)
  unfolding action.append
  appends index a =
      after (action.local_at index) _ (seeing (λ s. receiver_of s.book index) action.local_if local_is) (λ local.
      after (action.send_action local a) _ (sends_action local a) (λ sent.
      after (action.prepay_action a) _ (prepays_action a) (λ paid.
      after (action.take (deposit_of a)) _ (takes (deposit_of a)) (λ taken. adds_action index a))))

  pub amounts : (ptr : ℕ) → Stays (action.amount_at ptr)
  amounts ptr = after (guest_bytes 16 ptr) _ (ranges 16 ptr) (λ bytes. here (number bytes))

  key_is : (r : Result PublicKey RecordFault) → Stays (action.key_of r)
  key_is (Ok key) = here key
  key_is (Err e) = faults AnyValue _

  pub keys : (bytes : List ℕ) → Stays (action.public_key bytes)
  keys bytes = key_is (all_of key_at bytes)

  pub arguments_of_call : (mlen mptr args_len args_ptr amount_ptr : ℕ)
      → Stays (action.call_arguments mlen mptr args_len args_ptr amount_ptr)
  unfolding action.call_arguments
  arguments_of_call mlen mptr args_len args_ptr amount_ptr =
      after (bytes_of mlen mptr) _ (arguments mlen mptr) (λ method.
      after (bytes_of args_len args_ptr) _ (arguments args_len args_ptr) (λ args.
      after (action.amount_at amount_ptr) _ (amounts amount_ptr) (λ amount.
      here (action.call_arguments_of method args amount))))

  pub texts_in : (bytes : List ℕ) → Stays (action.text_in bytes)
  texts_in bytes = either (is_utf8 bytes) (give bytes) _ (here bytes) (faults AnyValue _)

  pub names : (bytes : List ℕ) → Stays (action.method_name bytes)
  names bytes =
      after (action.text_in bytes) _ (texts_in bytes) (λ name.
      either (length name == 0) _ (give name) (faults AnyValue _) (here name))

  pub counts : (index : ℕ) → Stays (action.actions_at index)
  counts index = seeing (λ s. actions_of s.book index) promises.from_book from_book_is

  pub has_room : (count : ℕ) → Stays (action.has_room count)
  has_room count =
      seeing (λ s. nat_le (max_actions s.config) count) (λ b. fault_if b too_many_actions) (λ b. tested b _)

-- a datum that is written
pub sets : (c : Config) (u n : ℕ) (key value : List ℕ) → datum_usage c key value ≤ n
    → Turn (Counts c u) (Counts c (u + n)) AnyValue (storage.set_datum key value)
unfolding storage.set_datum
sets c u n key value most =
    record {
      at = λ s h. (
        tt,
        with_world c u (u + n) s (change.set_datum s.config s.world s.context.current key value)
            (
            let more = added_usage s.config s.world s.context.current key value in
            let same : datum_usage s.config key value ≡ datum_usage c key value =
            ap (λ (d : Config). datum_usage d key value) h.config in
            omega (arith, h.usage, more, same, most)
            ) h,
      );
    }
