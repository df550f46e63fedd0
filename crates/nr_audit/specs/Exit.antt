-- How a program ends with an answer: its exit status, and the numbers that it tells. This project's own.
use Rattle.std.specs.Prelude.{ℕ, List, [], ◌∷◌}
use Rattle.nr_audit.specs.declared.status.Status.{Status}
use Rattle.nr_audit.specs.declared.status.Status.TheVariants.{Done, Usage, Config, Genesis, Blocks}
use Rattle.nr_audit.specs.declared.status.Status.TheVariants.{ReadFault, WriteFault, NoMemory}

abbrev pub told : Status → ℕ × List ℕ
told Done = (0, [])
told Usage = (1, [])
told (Config kind entry) = (2, kind ∷ entry ∷ [])
told (Genesis kind a b c) = (3, kind ∷ a ∷ b ∷ c ∷ [])
told (Blocks kind a) = (4, kind ∷ a ∷ [])
told ReadFault = (5, [])
told WriteFault = (6, [])
told NoMemory = (7, [])
