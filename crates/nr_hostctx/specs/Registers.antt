-- The bindings of registers, each as its row. After the NEAR Nomicon, "Bindings Specification", Registers API.
use Rattle.std.specs.Prelude.{ℕ, List}
use Rattle.nr_guest.specs.Guest.{register, register_length}
use Rattle.nr_hostctx.specs.Acts.{Act, ◌>>=◌, look, or_fault, begin, bytes_of, to_register, to_guest}
use Rattle.nr_hostctx.specs.Faults.{bad_register}

abbrev pub register_at : ℕ → Act (List ℕ)
register_at id = λ s. or_fault (register s.registers id) bad_register s

unfoldable pub read_register : ℕ → ℕ → Act (Unit {0})
read_register reg ptr = do
  begun ← begin
  bytes ← register_at reg
  to_guest ptr bytes

unfoldable pub register_len : ℕ → Act ℕ
register_len reg = do
  begun ← begin
  look (λ s. register_length s.registers reg)

unfoldable pub write_register : ℕ → ℕ → ℕ → Act (Unit {0})
write_register reg len ptr = do
  begun ← begin
  bytes ← bytes_of len ptr
  to_register reg bytes
