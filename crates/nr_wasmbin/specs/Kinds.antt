-- The number by which the kind of a fault is told, and its place. This project's own.
use Rattle.std.specs.Prelude.{ℕ}
use Rattle.nr_wasmbin.specs.declared.fault.DecodeFault.{DecodeFault}
use Rattle.nr_wasmbin.specs.declared.fault.DecodeFault.TheVariants as fault

abbrev pub decode_kind : DecodeFault → ℕ
decode_kind (fault.Short at) = 1
decode_kind (fault.Leb at) = 2
decode_kind (fault.Section at) = 3
decode_kind (fault.Opcode at) = 4
decode_kind (fault.Float at) = 5
decode_kind (fault.Utf8 at) = 6
decode_kind (fault.TooMany at) = 7
decode_kind fault.Memory = 0

abbrev pub decode_place : DecodeFault → ℕ
decode_place (fault.Short at) = at
decode_place (fault.Leb at) = at
decode_place (fault.Section at) = at
decode_place (fault.Opcode at) = at
decode_place (fault.Float at) = at
decode_place (fault.Utf8 at) = at
decode_place (fault.TooMany at) = at
decode_place fault.Memory = 0
