-- After WebAssembly Core 1.0, "Execution", "Instructions": where a run stands in the code of its module. The standard's
-- configurations don't name it, so a trail is left beside the reduction: the function that runs, the blocks that are
-- open in it, and the calls that it stands in. How instructions are numbered is this project's own.
use Rattle.std.specs.Prelude.{ℕ, zero, suc, ◌+◌, ◌-◌, ◌==◌, if◌then◌else◌, Bool, false, cond, List, [], ◌∷◌}
use Rattle.std.specs.Prelude.{◌++◌, length, take, drop, replicate, sum_by, Option, Some, None, option_and_then}
use Rattle.std.specs.Prelude.{slice_get}
use Rattle.nr_wasmtypes.specs.Code.{Code, End, Then, Block, Loop, Choice, after, count_of}
use Rattle.nr_wasmtypes.specs.declared.instr.Plain.{Plain as Op}
use Rattle.nr_wasmtypes.specs.declared.instr.Plain.TheVariants as op
use Rattle.nr_wasmmem.specs.declared.guest.Guest.{Guest}
use Rattle.nr_wasmexec.specs.Functions.{Func, Hosted, Coded, func_at}
use Rattle.nr_wasmexec.specs.Reduction.{Seq, Plain, Label, Frame, Step, To, Over, Branching, Returning, Stopping, NoRule}
use Rattle.nr_wasmexec.specs.Reduction.{Runtime, Rules, Config, chosen, stepped, is_too_large}
use Rattle.nr_wasmexec.specs.declared.program.Program.{Program}
use Rattle.nr_trace.specs.declared.trail.Level.{Level}
use Rattle.nr_trace.specs.declared.trail.Level.TheVariants as level
use Rattle.nr_trace.specs.declared.trail.Trail.{Trail as Kept}
use Rattle.nr_trace.specs.declared.trail.Way.{Way}
use Rattle.nr_trace.specs.declared.trail.Way.TheVariants as leads

-- ---- where an instruction leads, by its topmost operand
abbrev pub top : List ℕ → ℕ
top [] = 0
top (v ∷ values) = v

abbrev pub branch_way : ℕ → ℕ → Way
branch_way v depth = if v == 0 then leads.On else leads.Branch depth

-- a function of the host has no code to lead into
abbrev pub call_way : Option Func → ℕ → Way
call_way None f = leads.On
call_way (Some (Hosted sig name)) f = leads.On
call_way (Some (Coded sig body)) f = leads.Call f

abbrev pub table_way : Program → Option (Option ℕ) → Way
table_way p None = leads.On
table_way p (Some None) = leads.On
table_way p (Some (Some f)) = call_way (func_at p f) f

abbrev pub plain_way : Program → Guest → ℕ → Op → Way
plain_way p guest v (op.Br depth) = leads.Branch depth
plain_way p guest v (op.BrIf depth) = branch_way v depth
plain_way p guest v (op.BrTable table) = leads.Branch (chosen (slice_get table.0 v) table.1)
plain_way p guest v op.Return = leads.Return
plain_way p guest v (op.Call f) = call_way (func_at p f) f
plain_way p guest v (op.CallIndirect t) = table_way p (slice_get guest.table v)
plain_way p guest v o = leads.On

abbrev pub way_of : Program → Guest → ℕ → Code → Way
way_of p guest v End = leads.Out
way_of p guest v (Then o rest) = plain_way p guest v o
way_of p guest v (Block ty body rest) = leads.Into false
way_of p guest v (Loop ty body rest) = leads.Into false
way_of p guest v (Choice ty one other rest) = leads.Into (v == 0)

-- ---- the trail
pub record Trail : Type 0 where
  -- the function that runs, and how many levels stand round its frame
  pub func : ℕ
  pub base : ℕ
  -- blocks that are open, and calls, from the outside in
  pub levels : List Level
  -- the instruction that was noted, with those after it, and where it leads
  pub at : Code
  pub way : Way

abbrev pub trail_of : Kept → Trail
trail_of t = record { func = t.func; base = t.base; levels = t.levels.items; at = t.at; way = t.way }

-- before a function's first step
abbrev pub first : ℕ → Code → Trail
first f code = record { func = f; base = 0; levels = []; at = code; way = leads.On }

-- the function that a call came out of, and how many levels stand round its frame
abbrev pub caller_of : Level → Option (ℕ × ℕ)
caller_of (level.Block at second) = None
caller_of (level.Call func base) = Some (func, base)

abbrev pub back_to : Option (ℕ × ℕ) → Trail → Trail
back_to None t = t
back_to (Some call) t = record t { func = call.0; base = call.1 }

abbrev pub cut_off : ℕ → Trail → Trail
cut_off n t = record t { levels = take n t.levels }

-- out of all levels but the first so many; where the first that is gone is a call, back to its function
abbrev pub cut : ℕ → Trail → Trail
cut n t = back_to (option_and_then caller_of (slice_get t.levels n)) (cut_off n t)

abbrev pub opened : Bool → Trail → Trail
opened second t = record t { levels = t.levels ++ level.Block t.at second ∷ [] }

abbrev pub entered : ℕ → List Level → Trail → Trail
entered f levels t = record t { func = f; base = length levels; levels = levels }

abbrev pub called : ℕ → Trail → Trail
called f t = entered f (t.levels ++ level.Call t.func t.base ∷ []) t

-- the step is made that the noted instruction leads to
abbrev pub followed_by : Way → Trail → Trail
followed_by leads.On t = t
followed_by (leads.Into second) t = opened second t
followed_by (leads.Call f) t = called f t
followed_by leads.Out t = cut (length t.levels - 1) t
followed_by (leads.Branch depth) t = cut (length t.levels - depth - 1) t
followed_by leads.Return t = cut (t.base - 1) t

abbrev pub followed : Trail → Trail
followed t = followed_by t.way t

-- and the one that is next is noted, over these operands and this code
abbrev pub noted : Code → Way → Trail → Trail
noted code w t = record t { at = code; way = w }

abbrev pub looked : Program → Guest → List ℕ × Code → Trail → Trail
looked p guest inner t = noted inner.1 (way_of p guest (top inner.0) inner.1) (followed t)

-- ---- the trail of a run
-- the innermost operands and code
abbrev pub inner_of : Seq → List ℕ × Code
inner_of (Plain values code) = (values, code)
inner_of (Label values n again inner code) = inner_of inner
inner_of (Frame values n own inner code) = inner_of inner

abbrev pub looked_in : {S : Type 0} → Rules S → Config S → Trail → Trail
looked_in w c t = looked w.program c.store.guest (inner_of c.seq) t

-- a step that ends the run, or leads to more than there may be, leaves the trail as it was noted before
abbrev pub left_by : {S : Type 0} → Rules S → Step S → Trail → (Config S → Trail) → Trail
left_by w (To s locals seq) t go =
    if is_too_large w locals seq then t else go (record { store = s; locals = locals; seq = seq })
left_by w (Over values) t go = t
left_by w (Branching depth values) t go = t
left_by w (Returning values) t go = t
left_by w (Stopping s stop) t go = t
left_by w NoRule t go = t

-- after at most so many steps
abbrev pub trails : {S : Type 0} → Rules S → ℕ → Config S → Trail → Trail
trails w zero c t = t
trails w (suc n) c t = left_by w (stepped w c) (looked_in w c t) (λ d. trails w n d (looked_in w c t))

-- the trail of a function's run, as `run_of`, `run_in` and `run_by` have its outcome
abbrev pub trail_from : {S : Type 0} → Rules S → Runtime S → ℕ → List ℕ → Code → Trail → ℕ → Trail
trail_from w s arity locals body t n =
    left_by w (To s [] (Frame [] arity locals (Plain [] body) End)) t (λ d. trails w n d t)

abbrev pub trail_in : {S : Type 0} → Rules S → Runtime S → ℕ → Option Func → ℕ → Trail
trail_in w s f None n = first f End
trail_in w s f (Some (Hosted sig name)) n = first f End
trail_in w s f (Some (Coded sig body)) n =
    trail_from w s 0 (replicate (length body.locals) 0) body.code (first f body.code) n

abbrev pub trail_by : {S : Type 0} → Rules S → Runtime S → ℕ → ℕ → Trail
trail_by w s f n = trail_in w s f (func_at w.program f) n

-- ---- the place of the instruction that was noted
-- the second side of the first instruction
abbrev pub second_of : Code → Code
second_of End = End
second_of (Then o rest) = End
second_of (Block ty body rest) = End
second_of (Loop ty body rest) = End
second_of (Choice ty one other rest) = other

-- the instructions of an open block that stand behind the side that runs, and those after the block
abbrev pub behind : Level → ℕ
behind (level.Block at second) = cond second 0 (count_of (second_of at)) + count_of (after at)
behind (level.Call func base) = 0

-- those of the function from the noted one on
abbrev pub left_in : Trail → ℕ
left_in t = count_of t.at + sum_by behind (drop t.base t.levels)

-- its number in the function, in the order of opcodes, `else` and `end` left out
abbrev pub number_in : Option Func → Trail → ℕ
number_in None t = 0
number_in (Some (Hosted sig name)) t = 0
number_in (Some (Coded sig body)) t = count_of body.code - left_in t

-- the function, and that number
abbrev pub place_in : Program → Trail → ℕ × ℕ
place_in p t = (t.func, number_in (func_at p t.func) t)
