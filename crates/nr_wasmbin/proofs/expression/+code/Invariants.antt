-- What holds at the loops of `expression::code`.
use Rattle.std.proofs.Common.{◌≡◌, ℕ, ◌+◌, ◌*◌, ◌≤◌, List, ◌++◌, length}
use Rattle.nr_wasmtypes.specs.declared.instr.Instr.{Instr}
use Rattle.nr_wasmbin.specs.Expressions.{code_at, front, onto}
use Rattle.nr_wasmbin.proofs.expression.+code.Given as goal

abbrev pub decreases-read_rows : goal.decreases-read_rows
decreases-read_rows l = 2 * length l.cursor.now.left

abbrev pub decreases-read_code : goal.decreases-read_code
decreases-read_code l = 2 * length l.cursor.now.left + 1

abbrev pub decreases-read_other : goal.decreases-read_other
decreases-read_other l = 2 * length l.cursor.now.left + 2

abbrev pub decreases-read_instr : goal.decreases-read_instr
decreases-read_instr l = 2 * length l.cursor.now.left

abbrev pub invariant-read_rows-rows : goal.invariant-read_rows-rows
invariant-read_rows-rows l = record {
  reads : (turns : ℕ) → length l.fn.cursor.left ≤ turns
      → (is : List Instr) × (l.stack.items ≡ l.fn.stack.items ++ is) × (more : ℕ) × (length l.cursor.left ≤ more)
      × (front (onto is) (code_at more l.depth l.may_else l.cursor) ≡ code_at turns l.depth l.may_else l.fn.cursor);
  shorter : length l.cursor.left ≤ length l.fn.cursor.left;
}

abbrev pub decreases-read_rows-rows : goal.decreases-read_rows-rows
decreases-read_rows-rows l = length l.cursor.left
