-- The rules that hold of every binding. A binding is a chain of acts, each of which works on the state of the call
-- and gives a value, or stops the call. After the NEAR Nomicon, "Bindings Specification"; gas and faults are this
-- project's.
use Rattle.std.specs.Prelude.{◌≡◌, ◌≢◌, ℕ, ◌+◌, ◌-◌, ◌*◌, Bool, if◌then◌else◌, List, length, Option, Some, None, Result}
use Rattle.std.specs.Prelude.{Ok, Err, nat_le}
use Rattle.nr_config.specs.Config.{Config, host_base, host_byte}
use Rattle.nr_guest.specs.Guest.{RegisterView, argument, argument_size, set_register}
use Rattle.nr_guest.specs.declared.fault.GuestFault.{GuestFault}
use Rattle.nr_wasmmem.specs.Bytes.{range_in, put_over}
use Rattle.nr_wasmmem.specs.declared.fault.HostStop.{HostStop}
use Rattle.nr_wasmmem.specs.declared.fault.HostStop.TheVariants as stop
use Rattle.nr_hostctx.specs.Faults.{guest_stop, register_limit, out_of_bounds}
use Rattle.nr_hostctx.specs.State.{HostState, Gas, state_of, rest_in}
use Rattle.nr_triedef.specs.declared.store.Store.{Ghosts}
use Rattle.nr_hostctx.specs.declared.context.HostContext.{HostContext}

-- what an act comes to
pub data Came (A : Type 0) : Type 0 where
  Goes : (after : HostState) (value : A) → Came A
  Stops : (after : HostState) (why : HostStop) → Came A

abbrev pub Act : Type 0 → Type 0
Act A = HostState → Came A

-- one act and then the next, unless the first stops the call
abbrev pub onward : {A B : Type 0} → Came A → (A → Act B) → Came B
onward (Goes after value) next = next value after
onward (Stops after why) next = Stops after why

infixl 10 ◌>>=◌
abbrev pub ◌>>=◌ : {A B : Type 0} → Act A → (A → Act B) → Act B
act >>= next = λ s. onward (act s) next

-- a call of the code did this, and left all else of the state that it borrows, unless memory ran out
abbrev pub Leads : {S : Type 0} {G : Ghosts S} {A : Type 0} → HostContext S G → HostContext S G → Came A → Came A
    → Type 0
Leads old new came shown = (came ≡ shown) × (rest_in new ≡ rest_in old)

abbrev pub Does : {S : Type 0} {G : Ghosts S} {A : Type 0} → Result A HostStop → HostContext S G → HostContext S G
    → Act A → Type 0
Does (Ok value) old new act = Leads old new (act (state_of old)) (Goes (state_of new) value)
Does (Err why) old new act = why ≢ stop.Memory → Leads old new (act (state_of old)) (Stops (state_of new) why)

-- a part of the code copied bytes, or memory ran out
abbrev pub Copies : Result (List ℕ) HostStop → List ℕ → Type 0
Copies (Ok copy) bytes = copy ≡ bytes
Copies (Err why) bytes = why ≡ stop.Memory

abbrev pub give : {A : Type 0} → A → Act A
give value = λ s. Goes s value

-- what the state shows
abbrev pub look : {A : Type 0} → (HostState → A) → Act A
look f = λ s. Goes s (f s)

-- ---- faults
abbrev pub fault : {A : Type 0} → ℕ → Act A
fault kind = λ s. Stops s (stop.Fault kind)

abbrev pub fault_if : Bool → ℕ → Act (Unit {0})
fault_if test kind = if test then fault kind else give tt

-- the value, or a fault where there is none
abbrev pub or_fault : {A : Type 0} → Option A → ℕ → Act A
or_fault None kind = fault kind
or_fault (Some value) kind = give value

-- what registers and memory answer
abbrev pub from_guest : {A : Type 0} → Result A GuestFault → Act A
from_guest (Ok value) = give value
from_guest (Err e) = λ s. Stops s (guest_stop e)

-- ---- gas
abbrev pub burnt_more : Gas → ℕ → Gas
burnt_more g n = record g { burnt = g.burnt + n }

abbrev pub promised_more : Gas → ℕ → Gas
promised_more g n = record g { promised = g.promised + n }

-- all that isn't promised
abbrev pub burnt_all : Gas → Gas
burnt_all g = record g { burnt = g.limit - g.promised }

abbrev pub has_gas : Gas → ℕ → Bool
has_gas g n = nat_le (g.burnt + g.promised + n) g.limit

-- n gas within the limit; a call that has less stops, with all burnt that isn't promised
unfoldable pub burn : ℕ → Act (Unit {0})
burn n s =
    if has_gas s.gas n
    then Goes (record s { gas = burnt_more s.gas n }) tt
    else Stops (record s { gas = burnt_all s.gas }) stop.Gas

-- n gas for other receipts
unfoldable pub promise : ℕ → Act (Unit {0})
promise n s =
    if has_gas s.gas n
    then Goes (record s { gas = promised_more s.gas n }) tt
    else Stops (record s { gas = burnt_all s.gas }) stop.Gas

-- what the configuration says
abbrev pub pay : (Config → ℕ) → Act (Unit {0})
pay cost = λ s. burn (cost s.config) s

-- what each call burns first
abbrev pub begin : Act (Unit {0})
begin = pay host_base

-- what bytes cost that are read or written
abbrev pub pay_bytes : ℕ → Act (Unit {0})
pay_bytes n = pay (λ c. host_byte c * n)

-- ---- byte arguments
-- a register or a range of the guest's memory: a register that isn't there is a fault, its bytes are paid for, and a
-- range that isn't inside is a fault
abbrev pub argument_size_at : ℕ → ℕ → Act ℕ
argument_size_at len ptr = λ s. from_guest (argument_size s.registers len ptr) s

abbrev pub argument_at : ℕ → ℕ → Act (List ℕ)
argument_at len ptr = λ s. from_guest (argument s.registers s.guest len ptr) s

unfoldable pub bytes_of : ℕ → ℕ → Act (List ℕ)
bytes_of len ptr = do
  size ← argument_size_at len ptr
  paid ← pay_bytes size
  argument_at len ptr

abbrev pub range_at : ℕ → ℕ → Act (List ℕ)
range_at len ptr = λ s. or_fault (range_in s.guest ptr len) out_of_bounds s

-- a range of the guest's memory, whatever its length
unfoldable pub guest_bytes : ℕ → ℕ → Act (List ℕ)
guest_bytes len ptr = do
  paid ← pay_bytes len
  range_at len ptr

-- ---- bytes that are written
abbrev pub registers_or_fault : Option RegisterView → Act (Unit {0})
registers_or_fault None = fault register_limit
registers_or_fault (Some r) = λ s. Goes (record s { registers = r }) tt

abbrev pub put_register : ℕ → List ℕ → Act (Unit {0})
put_register id bytes = λ s. registers_or_fault (set_register s.registers id bytes) s

unfoldable pub to_register : ℕ → List ℕ → Act (Unit {0})
to_register id bytes = do
  paid ← pay_bytes (length bytes)
  put_register id bytes

abbrev pub guest_or_fault : Option (List ℕ) → Act (Unit {0})
guest_or_fault None = fault out_of_bounds
guest_or_fault (Some bytes) = λ s. Goes (record s { guest = bytes }) tt

abbrev pub put_guest : ℕ → List ℕ → Act (Unit {0})
put_guest ptr bytes = λ s. guest_or_fault (put_over s.guest ptr bytes) s

unfoldable pub to_guest : ℕ → List ℕ → Act (Unit {0})
to_guest ptr bytes = do
  paid ← pay_bytes (length bytes)
  put_guest ptr bytes
