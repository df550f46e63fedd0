-- Of this project's own: the locals of a body as runs of one type.
use Rattle.std.specs.Prelude.{◌≡◌, ℕ, ◌-◌, ◌≤◌, List, [], ◌∷◌, ◌++◌, replicate}
use Rattle.nr_wasmtypes.specs.declared.instr.ValType.{ValType}
use Rattle.nr_wasmtypes.specs.declared.locals.Run.{Run}

-- the type of each, from this number on
abbrev pub spread : ℕ → List Run → List ValType
spread from [] = []
spread from (r ∷ rs) = replicate (r.end - from) r.kind ++ spread r.end rs

-- each run begins where the one before it ends, and the last one ends here
abbrev pub Reaches : ℕ → List Run → ℕ → Type 0
Reaches from [] to = from ≡ to
Reaches from (r ∷ rs) to = (from ≤ r.end) × Reaches r.end rs to
