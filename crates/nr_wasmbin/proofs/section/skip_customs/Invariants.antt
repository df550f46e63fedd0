-- What holds at the loops of `section::skip_customs`.
use Rattle.std.proofs.Common.{◌≡◌, ℕ, ◌≤◌, length}
use Rattle.nr_wasmbin.specs.Modules.{customs_at, skipped}
use Rattle.nr_wasmbin.proofs.section.skip_customs.Given as goal

abbrev pub invariant-loop-cursor : goal.invariant-loop-cursor
invariant-loop-cursor l = (turns : ℕ) × (length l.cursor.left ≤ turns) × (customs_at turns l.cursor ≡ skipped l.initial.cursor)

abbrev pub decreases-loop-cursor : goal.decreases-loop-cursor
decreases-loop-cursor l = length l.cursor.left
