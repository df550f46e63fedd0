-- What holds at the loops of `knowing::know_keys`.
use Rattle.std.proofs.Common.{ℕ, List, take}
use Rattle.std.specs.List.{AllByRecursion}
use Rattle.nr_bytes.specs.Numbers.{IsBytes}
use Rattle.nr_columns.specs.Entries.{pairs_of}
use Rattle.nr_recheck.proofs.knowing.know_keys.Given as goal

abbrev pub invariant-loop-entry : goal.invariant-loop-entry
invariant-loop-entry l = AllByRecursion (λ (e : List ℕ × List ℕ). IsBytes e.0) (pairs_of (take l.entry-index l.entries))
