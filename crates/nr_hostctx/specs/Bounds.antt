-- What holds of every call of a binding: it never raises the gas that is left, burns and promises within the limit, and
-- leaves the size of the guest's memory. Laws of this project's own.
use Rattle.std.specs.Prelude.{◌≡◌, ℕ, ◌+◌, ◌≤◌, Bool, true, false, List, length, Result, Ok, Err, nat_le, nat_lt, refl}
use Rattle.std.specs.Prelude.{if◌then◌else◌}
use Rattle.std.proofs.Common.{arith, ◌∙◌}
use Rattle.std.proofs.lemmas.Bool.{leb-true}
use Rattle.nr_promises.specs.Book.{create, then, join, act}
use Rattle.nr_promises.specs.declared.contents.Book.{Book}
use Rattle.nr_promises.specs.declared.fault.PromiseFault.{PromiseFault}
use Rattle.nr_records.specs.declared.action.Action.{Action}
use Rattle.nr_wasmtypes.specs.declared.host.HostFn.{HostFn}
use Rattle.nr_hostctx.specs.Accounts.{account_of}
use Rattle.nr_hostctx.specs.Acts.{Came, Goes, Stops, Act, onward, ◌>>=◌, burnt_more, promised_more, burnt_all, has_gas}
use Rattle.nr_hostctx.specs.Acts.{burn, promise}
use Rattle.nr_hostctx.specs.Host.{gas_left}
use Rattle.nr_hostctx.specs.Kept.{IsKept, row_kept}
use Rattle.nr_hostctx.specs.PromiseActions as action
use Rattle.nr_hostctx.specs.Promises as promises
use Rattle.nr_hostctx.specs.Rows.{row}
use Rattle.nr_hostctx.specs.State.{HostState, Gas}
use Rattle.nr_hostctx.specs.Storage as storage

-- ---- the relation
pub record Bounded (old new : HostState) : Type 0 where
  pub gas : gas_left new.gas ≤ gas_left old.gas
  pub fits : old.gas.burnt + old.gas.promised ≤ old.gas.limit → new.gas.burnt + new.gas.promised ≤ new.gas.limit
  pub limit : new.gas.limit ≡ old.gas.limit
  pub guest : length new.guest ≡ length old.guest

-- the state behind an act, whether it goes on or stops
abbrev pub after_of : {A : Type 0} → Came A → HostState
after_of (Goes s value) = s
after_of (Stops s why) = s

abbrev pub IsBounded : {A : Type 0} → Act A → Type 0
IsBounded act = (s : HostState) → Bounded s (after_of (act s))

here : (s : HostState) → Bounded s s
here s = record { gas = omega arith; fits = λ h. h; limit = refl; guest = refl }

onto : (a b c : HostState) → Bounded a b → Bounded b c → Bounded a c
onto a b c h k =
    record {
      gas = omega (arith, h.gas, k.gas);
      fits = λ f. k.fits (h.fits f);
      limit = k.limit ∙ h.limit;
      guest = k.guest ∙ h.guest;
    }

on_came : {A B : Type 0} → (s : HostState) (came : Came A) (next : A → Act B) → Bounded s (after_of came)
    → ((a : A) → IsBounded (next a)) → Bounded s (after_of (onward came next))
on_came s (Goes t value) next h k = onto s t _ h (k value t)
on_came s (Stops t why) next h k = h

chain : {A B : Type 0} → (act : Act A) (next : A → Act B) → IsBounded act → ((a : A) → IsBounded (next a))
    → IsBounded (act >>= next)
chain act next h k s = on_came s (act s) next (h s) k

choose : {A : Type 0} → (s : HostState) (b : Bool) (y z : Came A) → (b ≡ true → Bounded s (after_of y))
    → (b ≡ false → Bounded s (after_of z)) → Bounded s (after_of (if b then y else z))
choose s true y z h k = h refl
choose s false y z h k = k refl

-- ---- gas
le_true : (a b : ℕ) → nat_le a b ≡ true → a ≤ b
le_true a b is = leb-true a b is

-- the same state with other gas
spends : (s : HostState) (g : Gas) → gas_left g ≤ gas_left s.gas
    → (s.gas.burnt + s.gas.promised ≤ s.gas.limit → g.burnt + g.promised ≤ g.limit) → g.limit ≡ s.gas.limit
    → Bounded s (record s { gas = g })
spends s g less fits limit = record { gas = less; fits = fits; limit = limit; guest = refl }

burns : (n : ℕ) → IsBounded (burn n)
unfolding burn
burns n s =
    choose s (has_gas s.gas n) _ _
    (λ (is : nat_le (s.gas.burnt + s.gas.promised + n) s.gas.limit ≡ true).
    spends s (burnt_more s.gas n) (omega arith) (λ h. omega (arith, le_true _ _ is)) refl)
    (λ is. spends s (burnt_all s.gas) (omega arith) (λ h. omega (arith, h)) refl)

prepays : (n : ℕ) → IsBounded (promise n)
unfolding promise
prepays n s =
    choose s (has_gas s.gas n) _ _
    (λ (is : nat_le (s.gas.burnt + s.gas.promised + n) s.gas.limit ≡ true).
    spends s (promised_more s.gas n) (omega arith) (λ h. omega (arith, le_true _ _ is)) refl)
    (λ is. spends s (burnt_all s.gas) (omega arith) (λ h. omega (arith, h)) refl)

-- ---- what gas and memory don't stand in
sets : (key value : List ℕ) → IsBounded (storage.set_datum key value)
unfolding storage.set_datum
sets key value s = record { gas = omega arith; fits = λ h. h; limit = refl; guest = refl }

removes : (key : List ℕ) → IsBounded (storage.remove_datum key)
unfolding storage.remove_datum
removes key s = record { gas = omega arith; fits = λ h. h; limit = refl; guest = refl }

with_book_is : {A : Type 0} → (s : HostState) (r : Result (Book × A) PromiseFault)
    → Bounded s (after_of (promises.with_book r s))
with_book_is s (Ok came) = record { gas = omega arith; fits = λ h. h; limit = refl; guest = refl }
with_book_is s (Err e) = here s

makes : (receiver : List ℕ) → IsBounded (promises.make receiver)
unfolding promises.make
makes receiver s = with_book_is s (create s.book receiver)

makes_after : (index : ℕ) (receiver : List ℕ) → IsBounded (promises.make_after index receiver)
unfolding promises.make_after
makes_after index receiver s = with_book_is s ((then) s.book index receiver)

makes_joint : (indices : List ℕ) → IsBounded (promises.make_joint indices)
unfolding promises.make_joint
makes_joint indices s = with_book_is s (join s.book indices)

receipts : (receiver : List ℕ) → IsBounded (promises.pay_receipt receiver)
unfolding promises.pay_receipt
receipts receiver = chain (promises.send_receipt receiver) _ (λ s. burns _ s) (λ sent s. prepays _ s)

creates : (receiver : List ℕ) → IsBounded (promises.create_promise receiver)
unfolding promises.create_promise
creates receiver = chain (promises.pay_receipt receiver) _ (receipts receiver) (λ paid. makes receiver)

connects : (count : ℕ) (receiver : List ℕ) → IsBounded (promises.pay_inputs count receiver)
unfolding promises.pay_inputs
connects count receiver s = burns _ s

chains : (index count : ℕ) (receiver : List ℕ) → IsBounded (promises.chain_promise index count receiver)
unfolding promises.chain_promise
chains index count receiver =
    chain (promises.pay_receipt receiver) _ (receipts receiver) (λ paid.
    chain (promises.pay_inputs count receiver) _ (connects count receiver) (λ connected. makes_after index receiver))

-- ---- actions
local_is : (s : HostState) (r : Result (List ℕ) PromiseFault) → Bounded s (after_of (action.local_if r s))
local_is s (Ok receiver) = here s
local_is s (Err e) = here s

locals : (index : ℕ) → IsBounded (action.local_at index)
locals index s = local_is s _

takes : (deposit : ℕ) → IsBounded (action.take deposit)
unfolding action.take
takes deposit s =
    choose s (nat_lt (account_of s).amount deposit) _ _
    (λ is. here s)
    (λ is. record { gas = omega arith; fits = λ h. h; limit = refl; guest = refl })

with_action_is : (s : HostState) (r : Result Book PromiseFault) → Bounded s (after_of (action.with_action r s))
with_action_is s (Ok book) = record { gas = omega arith; fits = λ h. h; limit = refl; guest = refl }
with_action_is s (Err e) = here s

appends : (index : ℕ) (a : Action) → IsBounded (action.append index a)
unfolding action.append
appends index a =
    chain (action.local_at index) _ (locals index) (λ local.
    chain (action.send_action local a) _ (λ s. burns _ s) (λ sent.
    chain (action.prepay_action a) _ (λ s. prepays _ s) (λ paid.
    chain (action.take _) _ (takes _) (λ taken s. with_action_is s (act s.book index a)))))

-- ---- all of them
abbrev Bounds : (A : Type 0) → HostState → Came A → Type 0
Bounds A s came = Bounded s (after_of came)

kept : IsKept Bounds
kept =
    record {
      chained = λ A B s came next h k. on_came s came next h k;
      goes = λ A s a. here s;
      stops = λ A s why. here s;
      burns = burns;
      registers_set = λ s r. record { gas = omega arith; fits = λ h. h; limit = refl; guest = refl };
      guest_set = λ s bytes h. record { gas = omega arith; fits = λ f. f; limit = refl; guest = h };
      logs_set = λ s logs. record { gas = omega arith; fits = λ h. h; limit = refl; guest = refl };
      value_set = λ s value. record { gas = omega arith; fits = λ h. h; limit = refl; guest = refl };
      promise_set = λ s index id is. record { gas = omega arith; fits = λ h. h; limit = refl; guest = refl };
      datum_set = sets;
      datum_removed = removes;
      created = creates;
      chain_made = chains;
      joined = makes_joint;
      appended = appends;
    }

pub row_bounded : (f : HostFn) (a : List ℕ) → IsBounded (row f a)
row_bounded f a = row_kept Bounds kept f a
