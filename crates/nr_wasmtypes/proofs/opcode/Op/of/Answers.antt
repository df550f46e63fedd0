-- The goals of `opcode::Op::of` that no tactic closes.
use Rattle.std.proofs.Common.{◌≡◌, List, length, get_or, refl, ap, ◌∙◌, arith}
use Rattle.std.proofs.lemmas.List.{get_or_default}
use Rattle.nr_wasmtypes.specs.declared.opcode.Op.{Op}
use Rattle.nr_wasmtypes.specs.declared.opcode.Op.TheVariants as op
use Rattle.nr_wasmtypes.specs.Opcodes.{opcodes, op_of}
use Rattle.nr_wasmtypes.proofs.opcode.Op.of.Goals as goal

all_bytes : length opcodes ≡ 256
unfolding opcodes
all_bytes = refl

pub returns : goal.returns
unfolding op_of
returns c =
    ap (λ (ops : List Op). get_or ops c.args.byte op.Unreachable) c.opcodes.ensures
    ∙ get_or_default opcodes c.args.byte op.Unreachable op.Unknown (omega (arith, all_bytes))
