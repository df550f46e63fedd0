-- What holds at the loops of `offset::find_opcode`.
use Rattle.std.proofs.Common.{◌≡◌, ℕ, ◌≤◌, length}
use Rattle.nr_trace.specs.Offsets.{opcode_at, opcode_in}
use Rattle.nr_trace.proofs.offset.find_opcode.Given as goal

abbrev pub invariant-opcodes : goal.invariant-opcodes
invariant-opcodes l =
    (turns : ℕ) × (length l.cursor.left ≤ turns) × (opcode_in turns l.left l.cursor ≡ opcode_at l.number l.fn.cursor)

abbrev pub decreases-opcodes : goal.decreases-opcodes
decreases-opcodes l = length l.cursor.left
