-- What holds at the loops of `expression::read_row`.
use Rattle.std.proofs.Common.{◌≡◌, ℕ, ◌≤◌, List, ◌++◌, Bool, length}
use Rattle.nr_wasmtypes.specs.declared.instr.Instr.{Instr}
use Rattle.nr_wasmbin.specs.Expressions.{code_at, front, onto}
use Rattle.nr_wasmbin.proofs.expression.read_row.Given as goal

abbrev pub invariant-opcodes : goal.invariant-opcodes
invariant-opcodes l = record {
  leads : (is : List Instr) × (l.items.items ≡ l.fn.items.items ++ is) × ((turns depth : ℕ) (may_else : Bool) → length l.fn.cursor.left ≤ turns
      → (more : ℕ) × (length l.cursor.left ≤ more) × (front (onto is) (code_at more depth may_else l.cursor) ≡ code_at turns depth may_else l.fn.cursor));
  shorter : length l.cursor.left ≤ length l.fn.cursor.left;
}

abbrev pub decreases-opcodes : goal.decreases-opcodes
decreases-opcodes l = length l.cursor.left
