-- Postponed receipts under their receivers. This project's own.
use Rattle.std.specs.Prelude.{◌≡◌, ℕ, List, Some}
use Rattle.std.specs.FinMap.{get}
use Rattle.nr_records.specs.declared.receipt.Receipt.{Receipt}
use Rattle.nr_state.specs.World.{World}

-- each postponed receipt is kept under its receiver, as in every valid world
abbrev pub IsKeyed : World → Type 0
IsKeyed w = (k : List ℕ × List ℕ) (r : Receipt) → get w.postponed k ≡ Some r → r.receiver ≡ k.0
