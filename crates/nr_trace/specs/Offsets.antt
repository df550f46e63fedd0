-- WebAssembly Core 1.0, "Binary Format", "Instructions" and "Modules": where in the bytes of a module the opcode of an
-- instruction stands. The instructions of a body stand in a row, whatever blocks they are in. That they are numbered
-- from 0 without `else` and `end` is this project's own.
use Rattle.std.specs.Prelude.{ℕ, zero, suc, ◌-◌, ◌==◌, if◌then◌else◌, Bool, true, false, cond, List, length, Option}
use Rattle.std.specs.Prelude.{Some, None, Result, Ok, Err}
use Rattle.nr_bytes.specs.Fields.{mapped}
use Rattle.nr_bytes.specs.Reading.{Input, ◌>>=◌}
use Rattle.nr_wasmtypes.specs.Opcodes.{op_of}
use Rattle.nr_wasmtypes.specs.declared.opcode.Op.{Op}
use Rattle.nr_wasmtypes.specs.declared.opcode.Op.TheVariants as op
use Rattle.nr_wasmbin.specs.Expressions.{block_type_at, plain_at}
use Rattle.nr_wasmbin.specs.Fields.{Read, byte_at, count_at, sized_at}
use Rattle.nr_wasmbin.specs.Modules.{entered, front_at, magic, middle_at, version, word_at}
use Rattle.nr_wasmbin.specs.Parts.{locals_at}
use Rattle.nr_wasmbin.specs.declared.fault.DecodeFault.{DecodeFault}
use Rattle.nr_wasmbin.specs.declared.fault.DecodeFault.TheVariants as fault
use Rattle.nr_trace.specs.declared.offset.Sought.{Sought}
use Rattle.nr_trace.specs.declared.offset.Sought.TheVariants as sought

-- `else` and `end` are no instructions
abbrev pub is_instr : Op → Bool
is_instr op.Else = false
is_instr op.End = false
is_instr o = true

abbrev pub opens : Op → Bool
opens op.Block = true
opens op.Loop = true
opens op.If = true
opens o = false

-- past what stands behind an instruction's opcode: the type of a block, or the operands of one that holds no others
abbrev pub operands_at : ℕ → Op → Input → Read (Unit {0})
operands_at at o s = cond (opens o) (mapped (λ t. tt) block_type_at s) (mapped (λ p. tt) (plain_at at o) s)

-- an instruction whose opcode stands at this place: the one that is sought, behind so many others, or past it
abbrev pub passed_by : ℕ → ℕ → Op → Input → Read Sought
passed_by number at o s =
    if number == 0 then Ok (sought.Here at, s) else mapped (λ u. sought.Behind (number - 1)) (operands_at at o) s

-- one opcode, with what belongs to it
unfoldable pub passed_at : ℕ → Input → Read Sought
passed_at number s = do
  b ← byte_at s
  cond (is_instr (op_of b.0)) (passed_by number s.at (op_of b.0) b.1) (Ok (sought.Behind number, b.1))

-- the place of the instruction behind so many others; each opcode has a byte, so as many turns as bytes are enough
abbrev pub onward : (ℕ → Input → Result ℕ DecodeFault) → Sought × Input → Result ℕ DecodeFault
onward next (sought.Here at, s) = Ok at
onward next (sought.Behind number, s) = next number s

unfoldable pub opcode_in : ℕ → ℕ → Input → Result ℕ DecodeFault
opcode_in zero number s = Err (fault.Short s.at)
opcode_in (suc turns) number s = passed_at number s >>= onward (opcode_in turns)

abbrev pub opcode_at : ℕ → Input → Result ℕ DecodeFault
opcode_at number s = opcode_in (length s.left) number s

-- past a body
abbrev pub past_body : Input → Result Input DecodeFault
past_body s = sized_at s >>= λ one. Ok one.1

-- the contents of the body with this number, from 0
unfoldable pub nth_at : ℕ → Input → Read Input
nth_at zero s = sized_at s
nth_at (suc number) s = past_body s >>= nth_at number

unfoldable pub body_in : ℕ → Input → Read Input
body_in number s = do
  n ← count_at s
  nth_at number n.1

-- the contents of the code section, where it stands
unfoldable pub code_section : Input → Read (Option Input)
code_section s = do
  one ← word_at magic s
  two ← word_at version one.1
  front ← front_at two.1
  middle ← middle_at front.1
  entered 10 middle.1

-- in the body with this number the instruction with this number: its opcode behind the locals
unfoldable pub within_body : ℕ → ℕ → Input → Result ℕ DecodeFault
within_body body number s = do
  one ← body_in body s
  locals ← locals_at one.0
  opcode_at number locals.1

abbrev pub within_code : ℕ → ℕ → Option Input × Input → Result ℕ DecodeFault
within_code body number (None, s) = Err (fault.Section s.at)
within_code body number (Some inner, s) = within_body body number inner

-- the same in a module's bytes, or the first fault on the way
unfoldable pub instruction_at : ℕ → ℕ → List ℕ → Result ℕ DecodeFault
instruction_at body number bytes = code_section (record { left = bytes; at = 0 }) >>= within_code body number
