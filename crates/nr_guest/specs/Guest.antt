-- NEAR Nomicon, "Registers API" and "Memory": the registers of a call, and the byte arguments of bindings. The limits
-- are this project's.
use Rattle.std.specs.Prelude.{ℕ, ◌≡◌, Bool, false, true, ◌&&◌, ◌||◌, ◌==◌, nat_le, nat_lt, if◌then◌else◌, List, []}
use Rattle.std.specs.Prelude.{length, sum_by, Option, Some, None, is_some, unwrap_or, Result, Ok, Err}
use Rattle.std.specs.BTreeMap.{is_at, insert_entry}
use Rattle.std.specs.Map.{lookup, values_of}
use Rattle.std.specs.Option.{option_map, ok_or}
use Rattle.std.specs.Ordering.{nat_cmp}
use Rattle.nr_config.specs.Config.{Config, max_registers, max_register_bytes, max_all_register_bytes}
use Rattle.nr_guest.specs.declared.fault.GuestFault.{GuestFault}
use Rattle.nr_guest.specs.declared.fault.GuestFault.TheVariants.{BadRegister, OutOfBounds, RegisterLimit, Memory}
use Rattle.nr_guest.specs.declared.registers.Limits.{Limits}
use Rattle.nr_wasmmem.specs.Bytes.{range_in}

-- ---- registers: bytes by number, under three limits
pub record RegisterView : Type 0 where
  pub held : List (ℕ × List ℕ)
  pub limits : Limits

-- how many registers there may be, how many bytes one may have, and how many all of them
abbrev pub limits_of : Config → Limits
limits_of c =
    record {
      registers = max_registers c;
      register_bytes = max_register_bytes c;
      all_bytes = max_all_register_bytes c;
    }

abbrev pub no_registers : Config → RegisterView
no_registers c = record { held = []; limits = limits_of c }

abbrev pub register : RegisterView → ℕ → Option (List ℕ)
register r id = lookup (is_at (nat_cmp id)) r.held

-- 2 ^ 64 - 1: the length of a register that isn't there, and as the length of an argument the sign that it is a
-- register
abbrev pub no_length : ℕ
no_length = 18446744073709551615

abbrev pub register_length : RegisterView → ℕ → ℕ
register_length r id = unwrap_or (option_map length (register r id)) no_length

-- ---- writing
abbrev pub all_bytes : List (ℕ × List ℕ) → ℕ
all_bytes held = sum_by length (values_of held)

-- the registers once these bytes are in one, in place of those that it had
abbrev pub held_with : RegisterView → ℕ → List ℕ → List (ℕ × List ℕ)
held_with r id bytes = insert_entry nat_cmp r.held id bytes

-- it is there, or there may be one more
abbrev pub has_place : RegisterView → ℕ → Bool
has_place r id = is_some (register r id) || nat_lt (length r.held) r.limits.registers

abbrev pub can_set : RegisterView → ℕ → List ℕ → Bool
can_set r id bytes =
    nat_le (length bytes) r.limits.register_bytes && has_place r id
    && nat_le (all_bytes (held_with r id bytes)) r.limits.all_bytes

-- the registers with bytes in one, where the limits allow it
unfoldable pub set_register : RegisterView → ℕ → List ℕ → Option RegisterView
set_register r id bytes = if can_set r id bytes then Some (record r { held = held_with r id bytes }) else None

-- what a write answers; one that is refused leaves all as it was
abbrev pub Sets : Result (Unit {0}) GuestFault → RegisterView → RegisterView → Option RegisterView → Type 0
Sets (Ok done) old new came = came ≡ Some new
Sets (Err RegisterLimit) old new came = (came ≡ None) × (new ≡ old)
Sets (Err Memory) old new came = new.limits ≡ old.limits
Sets (Err BadRegister) old new came = ⊥
Sets (Err OutOfBounds) old new came = ⊥

-- ---- a byte argument: a register, or a range of the guest's memory
abbrev pub is_register : ℕ → Bool
is_register len = len == no_length

-- how many bytes it has
abbrev pub argument_size : RegisterView → ℕ → ℕ → Result ℕ GuestFault
argument_size r len ptr = if is_register len then ok_or (option_map length (register r ptr)) BadRegister else Ok len

abbrev pub argument : RegisterView → List ℕ → ℕ → ℕ → Result (List ℕ) GuestFault
argument r memory len ptr =
    if is_register len then ok_or (register r ptr) BadRegister else ok_or (range_in memory ptr len) OutOfBounds

-- ---- what a part of the code answers: what all registers hold then, where the limits allow a write
abbrev pub size_at : RegisterView → ℕ → ℕ
size_at r id = unwrap_or (option_map length (register r id)) 0

abbrev pub HasRoom : Option ℕ → RegisterView → ℕ → List ℕ → Type 0
HasRoom None r id bytes = can_set r id bytes ≡ false
HasRoom (Some total) r id bytes = (can_set r id bytes ≡ true) × (total ≡ all_bytes (held_with r id bytes))
