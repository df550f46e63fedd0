-- Where a shard stands. This project's own.
use Rattle.std.specs.Prelude.{ℕ, ◌+◌, Bool, true, false, List, slice_index_or}
use Rattle.nr_overlap.specs.declared.position.Stage.{Stage}
use Rattle.nr_overlap.specs.declared.position.Stage.TheVariants.{Idle, Opened, Sealed}
use Rattle.nr_overlap.specs.declared.position.Position.{Position}

abbrev pub stage_number : Stage → ℕ
stage_number Idle = 0
stage_number Opened = 1
stage_number Sealed = 2

abbrev pub is_idle : Stage → Bool
is_idle Idle = true
is_idle Opened = false
is_idle Sealed = false

abbrev pub is_opened : Stage → Bool
is_opened Idle = false
is_opened Opened = true
is_opened Sealed = false

abbrev pub is_sealed : Stage → Bool
is_sealed Idle = false
is_sealed Opened = false
is_sealed Sealed = true

abbrev pub start : Position
start = record { number = 0; stage = Idle; taken = 0 }

-- behind the last of so many heights
abbrev pub end_at : ℕ → Position
end_at heights = record { number = heights; stage = Idle; taken = 0 }

abbrev pub at : List Position → ℕ → Position
at ps s = slice_index_or ps s start

-- how many heights are sealed
abbrev pub top_at : Stage → ℕ → ℕ
top_at Idle n = n
top_at Opened n = n
top_at Sealed n = n + 1

abbrev pub top : Position → ℕ
top p = top_at p.stage p.number
