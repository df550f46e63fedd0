-- The goals of `offset::find_opcode` that no tactic closes.
use Rattle.std.proofs.Common.{length, refl, arith}
use Rattle.nr_trace.proofs.OnOffsets.{opcodes_end, opcodes_go_on, opcodes_stop}
use Rattle.nr_trace.proofs.offset.find_opcode.Goals as goal

pub opcodes-init : goal.opcodes-init
opcodes-init c = (length c.args.cursor.now.left, omega arith, refl)

pub returns-in-Ok-Here : goal.returns-in-Ok-Here
returns-in-Ok-Here c =
    let so = c.opcodes.invariant in
    opcodes_end so.0 c.opcodes.left c.in-Ok-Here.at c.opcodes.cursor c.pass_opcode.new.cursor _ so.1 (rw c.in-Ok-Here.field-0-is at c.in-Ok-Here.ensures.gives) c.in-Ok-Here.ensures.shorter so.2

pub opcodes-preserved : goal.opcodes-preserved
opcodes-preserved c =
    let so = c.opcodes.invariant in
    opcodes_go_on so.0 c.opcodes.left c.in-Ok-Behind.more c.opcodes.cursor c.pass_opcode.new.cursor _ so.1 (rw c.in-Ok-Behind.field-0-is at c.in-Ok-Behind.ensures.gives) c.in-Ok-Behind.ensures.shorter so.2

pub returns-in-Err : goal.returns-in-Err
returns-in-Err c = λ other.
    let so = c.opcodes.invariant in
    opcodes_stop so.0 c.opcodes.left c.opcodes.cursor _ _ so.1 (c.in-Err.ensures.gives other) so.2
