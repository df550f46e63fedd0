-- WebAssembly Core 1.0, "Text Format", "Instructions": the text of a sequence, a line for each instruction, `else` and
-- `end`, with no folding, and without names for labels. Offset and alignment stand where they aren't the usual.
use Rattle.std.specs.Prelude.{ℕ, ◌^◌, ◌==◌, Bool, cond, nat_le, List, [], ◌∷◌, ◌++◌, Option, Some, None, codes, decimal}
use Rattle.nr_wasmtypes.specs.declared.instr.ValType.{ValType}
use Rattle.nr_wasmtypes.specs.declared.instr.Plain.{Plain}
use Rattle.nr_wasmtypes.specs.declared.instr.Plain.TheVariants as plain
use Rattle.nr_wasmtypes.specs.declared.opcode.Op.{Op}
use Rattle.nr_wasmtypes.specs.declared.opcode.Op.TheVariants as op
use Rattle.nr_wasmtypes.specs.Code.{Code, End, Then, Block, Loop, Choice, begins}
use Rattle.nr_wasmtypes.specs.Tables.{align_of_load, align_of_store}
use Rattle.nr_wasmbin.specs.Grammar.{plain_op}
use Rattle.nr_wat.specs.Names.{name_of, type_name}
use Rattle.nr_wat.specs.Pieces.{numbers_text, signed_text, spaced, type_use}

-- ---- operands, each behind a space
-- the text format has no alignment above 2^31
abbrev pub power_text : ℕ → List ℕ
power_text align = cond (nat_le align 31) (decimal (2 ^ align)) (codes "(;above 2147483648;)")

abbrev pub offset_text : ℕ → List ℕ
offset_text offset = cond (offset == 0) [] (codes " offset=" ++ decimal offset)

-- by the natural alignment
abbrev pub align_text : ℕ → ℕ → List ℕ
align_text natural align = cond (align == natural) [] (codes " align=" ++ power_text align)

abbrev pub operands_text : Plain → List ℕ
operands_text plain.Unreachable = []
operands_text plain.Nop = []
operands_text (plain.Br l) = spaced l
operands_text (plain.BrIf l) = spaced l
operands_text (plain.BrTable labels) = numbers_text labels.0 ++ spaced labels.1
operands_text plain.Return = []
operands_text (plain.Call f) = spaced f
operands_text (plain.CallIndirect t) = type_use t
operands_text plain.Drop = []
operands_text plain.Select = []
operands_text (plain.LocalGet x) = spaced x
operands_text (plain.LocalSet x) = spaced x
operands_text (plain.LocalTee x) = spaced x
operands_text (plain.GlobalGet x) = spaced x
operands_text (plain.GlobalSet x) = spaced x
operands_text (plain.Load what align offset) = offset_text offset ++ align_text (align_of_load what) align
operands_text (plain.Store what align offset) = offset_text offset ++ align_text (align_of_store what) align
operands_text plain.MemorySize = []
operands_text plain.MemoryGrow = []
operands_text (plain.Const32 n) = codes " " ++ signed_text 2147483648 n
operands_text (plain.Const64 n) = codes " " ++ signed_text 9223372036854775808 n
operands_text (plain.IsZero t) = []
operands_text (plain.Compare t how) = []
operands_text (plain.Count t how) = []
operands_text (plain.Arith t how) = []
operands_text (plain.Convert how) = []

-- the name by the opcode that the binary format gives
abbrev pub plain_text : Plain → List ℕ
plain_text p = name_of (plain_op p) ++ operands_text p

-- ---- sequences
abbrev pub result_text : Option ValType → List ℕ
result_text None = []
result_text (Some t) = codes " (result " ++ type_name t ++ codes ")"

-- a line behind a margin
abbrev pub line : List ℕ → List ℕ → List ℕ
line margin words = 10 ∷ margin ++ words

-- what an instruction holds stands two spaces further right
abbrev pub deeper : List ℕ → List ℕ
deeper margin = margin ++ codes "  "

-- what an instruction holds stands between the line of its name and the line of its end
abbrev pub holding : List ℕ → Op → Option ValType → List ℕ → List ℕ
holding margin name ty text = line margin (name_of name ++ result_text ty) ++ text ++ line margin (name_of op.End)

-- the second side of a choice, where it isn't empty
abbrev pub side : List ℕ → Bool → List ℕ → List ℕ
side margin stands text = cond stands (line margin (name_of op.Else) ++ text) []

abbrev pub code_text : List ℕ → Code → List ℕ
code_text margin End = []
code_text margin (Then p rest) = line margin (plain_text p) ++ code_text margin rest
code_text margin (Block ty body rest) =
    holding margin op.Block ty (code_text (deeper margin) body) ++ code_text margin rest
code_text margin (Loop ty body rest) =
    holding margin op.Loop ty (code_text (deeper margin) body) ++ code_text margin rest
code_text margin (Choice ty one other rest) =
    holding margin op.If ty
    (code_text (deeper margin) one ++ side margin (begins other) (code_text (deeper margin) other))
    ++ code_text margin rest

unfoldable pub other_text : List ℕ → Code → List ℕ
other_text margin other = side margin (begins other) (code_text (deeper margin) other)
