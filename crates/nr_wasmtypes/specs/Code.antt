-- WebAssembly Core 1.0, "Instructions" and "Expressions": the tree of instructions.
use Rattle.std.specs.Prelude.{ℕ, ◌+◌, List, [], ◌∷◌, map, Option, Bool, true, false}
use Rattle.nr_wasmtypes.specs.declared.instr.ValType.{ValType}
use Rattle.nr_wasmtypes.specs.declared.instr.Plain.{Plain}
use Rattle.nr_wasmtypes.specs.declared.instr.Instr.{Instr, fold-Instr}
use Rattle.nr_wasmtypes.specs.declared.instr.Instr.TheOpen.{Instr-F}

-- an instruction sequence: the first instruction, what it holds, and the rest
pub data Code : Type 0 where
  End : Code
  Then : Plain → Code → Code
  Block : Option ValType → Code → Code → Code
  Loop : Option ValType → Code → Code → Code
  Choice : Option ValType → Code → Code → Code → Code

-- one sequence of what each instruction puts before the rest
abbrev pub joined : List (Code → Code) → Code
joined [] = End
joined (first ∷ others) = first (joined others)

-- one level: what an instruction puts before the rest
abbrev pub instr_step : Instr-F (Code → Code) → Code → Code
instr_step (Instr-F.Plain p) rest = Then p rest
instr_step (Instr-F.Block ty body) rest = Block ty (joined body.value.items) rest
instr_step (Instr-F.Loop ty body) rest = Loop ty (joined body.value.items) rest
instr_step (Instr-F.If ty arms) rest = Choice ty (joined arms.value.0.items) (joined arms.value.1.items) rest

abbrev pub put : Instr → Code → Code
put = fold-Instr (Code → Code) instr_step

-- what a list of instructions is
abbrev pub code_of : List Instr → Code
code_of is = joined (map put is)

-- how many instructions stand in it, at any depth
abbrev pub count_of : Code → ℕ
count_of End = 0
count_of (Then p rest) = 1 + count_of rest
count_of (Block ty body rest) = 1 + count_of body + count_of rest
count_of (Loop ty body rest) = 1 + count_of body + count_of rest
count_of (Choice ty one other rest) = 1 + count_of one + count_of other + count_of rest

-- what follows the first instruction
abbrev pub after : Code → Code
after End = End
after (Then p rest) = rest
after (Block ty body rest) = rest
after (Loop ty body rest) = rest
after (Choice ty one other rest) = rest

-- an instruction stands first
abbrev pub begins : Code → Bool
begins End = false
begins (Then p rest) = true
begins (Block ty body rest) = true
begins (Loop ty body rest) = true
begins (Choice ty one other rest) = true
