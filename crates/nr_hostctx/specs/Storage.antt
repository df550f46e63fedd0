-- The bindings of the storage, each as its row. After the NEAR Nomicon, "Bindings Specification", Trie API.
use Rattle.std.specs.Prelude.{ℕ, Bool, ◌+◌, ◌*◌, nat_lt, if◌then◌else◌, is_some, List, length, Option, Some, None}
use Rattle.std.specs.FinMap.{get}
use Rattle.nr_config.specs.Config.{max_key_bytes, max_value_bytes, storage_base, storage_byte}
use Rattle.nr_state.specs.Changes as change
use Rattle.nr_hostctx.specs.Acts.{Act, Goes, ◌>>=◌, give, look, fault_if, begin, pay, bytes_of, to_register}
use Rattle.nr_hostctx.specs.Faults.{key_too_long, value_too_long}

-- ---- what is tried, and what is paid
abbrev pub short_key : List ℕ → Act (Unit {0})
short_key key = λ s. fault_if (nat_lt (max_key_bytes s.config) (length key)) key_too_long s

abbrev pub short_value : List ℕ → Act (Unit {0})
short_value value = λ s. fault_if (nat_lt (max_value_bytes s.config) (length value)) value_too_long s

abbrev pub size_of : Option (List ℕ) → ℕ
size_of None = 0
size_of (Some bytes) = length bytes

abbrev pub pay_storage : ℕ → Act (Unit {0})
pay_storage n = pay (λ c. storage_base c + storage_byte c * n)

-- ---- data of the current account
abbrev pub datum : List ℕ → Act (Option (List ℕ))
datum key = look (λ s. get s.world.data_of (s.context.current, key))

abbrev pub has_datum : List ℕ → Act Bool
has_datum key = look (λ s. is_some (get s.world.data_of (s.context.current, key)))

unfoldable pub set_datum : List ℕ → List ℕ → Act (Unit {0})
set_datum key value s = Goes (record s { world = change.set_datum s.config s.world s.context.current key value }) tt

unfoldable pub remove_datum : List ℕ → Act (Unit {0})
remove_datum key s = Goes (record s { world = change.removed_datum s.config s.world s.context.current key }) tt

-- 1 with the bytes in the register, or 0
abbrev pub found_in : ℕ → Option (List ℕ) → Act ℕ
found_in reg None = give 0
found_in reg (Some bytes) = do
  put ← to_register reg bytes
  give 1

-- ---- the bindings
unfoldable pub storage_write : ℕ → ℕ → ℕ → ℕ → ℕ → Act ℕ
storage_write klen kptr vlen vptr reg = do
  begun ← begin
  key ← bytes_of klen kptr
  value ← bytes_of vlen vptr
  small ← short_key key
  fits ← short_value value
  old ← datum key
  paid ← pay_storage (length key + length value + size_of old)
  set ← set_datum key value
  found_in reg old

unfoldable pub storage_read : ℕ → ℕ → ℕ → Act ℕ
storage_read klen kptr reg = do
  begun ← begin
  key ← bytes_of klen kptr
  small ← short_key key
  value ← datum key
  paid ← pay_storage (length key + size_of value)
  found_in reg value

unfoldable pub storage_remove : ℕ → ℕ → ℕ → Act ℕ
storage_remove klen kptr reg = do
  begun ← begin
  key ← bytes_of klen kptr
  small ← short_key key
  old ← datum key
  paid ← pay_storage (length key + size_of old)
  removed ← remove_datum key
  found_in reg old

unfoldable pub storage_has_key : ℕ → ℕ → Act ℕ
storage_has_key klen kptr = do
  begun ← begin
  key ← bytes_of klen kptr
  small ← short_key key
  found ← has_datum key
  paid ← pay_storage (length key)
  give (if found then 1 else 0)
