-- WebAssembly Core 1.0, "Execution", "Instructions": running code by rewriting sequences of instructions, one row for
-- each instruction. The numbers of traps, gas and limits are this project's own: an instruction is paid for before
-- its effect.
use Rattle.std.specs.Prelude.{ℕ, zero, suc, ◌+◌, ◌-◌, ◌%◌, ◌^◌, ◌==◌, nat_lt, Bool, ◌||◌, if◌then◌else◌, List, [], ◌∷◌}
use Rattle.std.specs.Prelude.{◌++◌, length, take, drop, reverse, replicate, Option, Some, None, Result, Ok, Err}
use Rattle.std.specs.Prelude.{slice_get, slice_set}
use Rattle.nr_wasmtypes.specs.declared.instr.Plain.{Plain as Op}
use Rattle.nr_wasmtypes.specs.declared.instr.Plain.TheVariants as op
use Rattle.nr_wasmtypes.specs.declared.host.HostFn.{HostFn}
use Rattle.nr_wasmtypes.specs.declared.module.FuncType.{FuncType}
use Rattle.nr_wasmtypes.specs.Code.{Code, End, Then, Block, Loop, Choice, after, begins}
use Rattle.nr_wasmtypes.specs.Host.{host_type}
use Rattle.nr_wasmtypes.specs.Tables.{arity_of}
use Rattle.nr_wasmvalid.specs.Parts.{same_sig}
use Rattle.nr_wasmnum.specs.Integers.{arith_of, compare_of, zero_test_of, bit_count_of, convert_of, load_of}
use Rattle.nr_wasmnum.specs.declared.fault.NumFault.{NumFault}
use Rattle.nr_wasmnum.specs.declared.fault.NumFault.TheVariants.{ByZero, Overflow}
use Rattle.nr_wasmmem.specs.declared.guest.Guest.{Guest}
use Rattle.nr_wasmmem.specs.Bytes.{MemoryView, width_of_load, width_of_store, number_in, number_over, grown, pages_of}
use Rattle.nr_wasmmem.specs.Meaning.{Answer, Gives, OutOfGas, Fails, Store, Called, HostMeaning, burnt}
use Rattle.nr_wasmexec.specs.declared.program.Program.{Program}
use Rattle.nr_wasmexec.specs.Functions.{Func, Hosted, Coded, sig_of, func_at}

-- ---- sequences
-- A sequence of instructions, its operands first, the topmost of them first of all. What the standard
-- writes as operands, a label with its instructions, and the instructions after it is one `Label`.
pub data Seq : Type 0 where
  -- operands, and the instructions that run next
  Plain : (values : List ℕ) (code : Code) → Seq
  -- operands, a label that takes so many values, where a branch to it goes on, and the instructions after it
  Label : (values : List ℕ) (arity : ℕ) (target : Code) (inner : Seq) (code : Code) → Seq
  -- operands, a function's frame that leaves so many values, with its locals, and the instructions after it
  Frame : (values : List ℕ) (arity : ℕ) (locals : List ℕ) (inner : Seq) (code : Code) → Seq

-- why a run stops before its end
pub data Stop : Type 0 where
  Trap : (kind : ℕ) → Stop
  GasExceeded : Stop
  HostFault : (kind : ℕ) → Stop

-- ---- one row for each instruction
-- what an instruction does to the operands and locals of its frame, and to memory and globals
pub data Effect : Type 0 where
  -- goes on with these
  Goes : (locals values : List ℕ) → Effect
  -- the same with this memory and these globals
  Writes : (guest : Guest) (values : List ℕ) → Effect
  -- a block: a label where a branch goes on, and these instructions
  Opens : (values : List ℕ) (arity : ℕ) (target body : Code) → Effect
  -- a function's frame
  Invokes : (values : List ℕ) (arity : ℕ) (own : List ℕ) (body : Code) → Effect
  -- a call of the host, with these operands left
  Asks : (name : HostFn) (args values : List ℕ) → Effect
  -- a branch out of so many labels and one more, with the operands there
  Branches : (depth : ℕ) (values : List ℕ) → Effect
  Returns : (values : List ℕ) → Effect
  Traps : (kind : ℕ) → Effect
  -- no rule fits
  Stuck : Effect

abbrev pub on_top : List ℕ → (ℕ → List ℕ → Effect) → Effect
on_top [] go = Stuck
on_top (x ∷ values) go = go x values

-- the second operand is on top
abbrev pub on_two : List ℕ → (ℕ → ℕ → List ℕ → Effect) → Effect
on_two [] go = Stuck
on_two (y ∷ []) go = Stuck
on_two (y ∷ x ∷ values) go = go x y values

-- the third operand is on top
abbrev pub on_three : List ℕ → (ℕ → ℕ → ℕ → List ℕ → Effect) → Effect
on_three [] go = Stuck
on_three (z ∷ []) go = Stuck
on_three (z ∷ y ∷ []) go = Stuck
on_three (z ∷ y ∷ x ∷ values) go = go x y z values

-- what is there, or no rule fits
abbrev pub with_value : Option ℕ → (ℕ → Effect) → Effect
with_value None go = Stuck
with_value (Some v) go = go v

-- an operation on numbers, or its trap
abbrev pub computed : Result ℕ NumFault → (ℕ → Effect) → Effect
computed (Ok v) go = go v
computed (Err ByZero) go = Traps 3
computed (Err Overflow) go = Traps 4

-- ---- memory
-- an address, and the offset that an instruction states
abbrev pub place_at : ℕ → ℕ → ℕ
place_at base offset = base % 2 ^ 32 + offset

abbrev pub with_memory : Guest → List ℕ → Guest
with_memory guest bytes = record guest { memory = record guest.memory { bytes = bytes } }

abbrev pub read : Option ℕ → (ℕ → Effect) → Effect
read (Some v) go = go v
read None go = Traps 2

abbrev pub written : Guest → Option (List ℕ) → List ℕ → Effect
written guest (Some bytes) values = Writes (with_memory guest bytes) values
written guest None values = Traps 2

-- the old size, or all ones where memory can't grow
abbrev pub grows : Guest → Option MemoryView → List ℕ → Effect
grows guest (Some memory) values = Writes (record guest { memory = memory }) (pages_of guest.memory.bytes ∷ values)
grows guest None values = Writes guest ((2 ^ 32 - 1) ∷ values)

-- ---- branches and calls
-- the label with this number, or the one for every other
abbrev pub chosen : Option ℕ → ℕ → ℕ
chosen None other = other
chosen (Some label) other = label

-- a call: the arguments leave the operands
abbrev pub asks : List ℕ → HostFn → ℕ → Effect
asks values name params =
    if nat_lt (length values) params then Stuck else Asks name (reverse (take params values)) (drop params values)

abbrev pub invoked : List ℕ → ℕ → ℕ → ℕ → Code → Effect
invoked values params more arity body =
    if nat_lt (length values) params then Stuck else Invokes (drop params values) arity
    (reverse (take params values) ++ replicate more 0) body

abbrev pub called : List ℕ → Option Func → Effect
called values None = Stuck
called values (Some (Hosted sig name)) = asks values name (length (host_type name).params)
called values (Some (Coded sig body)) =
    invoked values (length sig.params) (length body.locals) (arity_of sig.result) body.code

-- a function of the table, where it has the type that the call states
abbrev pub called_as : List ℕ → Option FuncType → Option Func → Effect
called_as values None func = Stuck
called_as values (Some sig) None = Stuck
called_as values (Some sig) (Some func) = if same_sig sig (sig_of func) then called values (Some func) else Traps 7

abbrev pub called_at : Program → List ℕ → ℕ → Option (Option ℕ) → Effect
called_at p values t None = Traps 5
called_at p values t (Some None) = Traps 6
called_at p values t (Some (Some f)) = called_as values (slice_get p.code.types t) (func_at p f)

-- the effect of a plain instruction on operands, in a frame with these locals
abbrev pub plain_effect : Program → Guest → List ℕ → List ℕ → Op → Effect
plain_effect p guest locals values op.Unreachable = Traps 1
plain_effect p guest locals values op.Nop = Goes locals values
plain_effect p guest locals values (op.Br depth) = Branches depth values
plain_effect p guest locals values (op.BrIf depth) =
    on_top values (λ v rest. if v == 0 then Goes locals rest else Branches depth rest)
plain_effect p guest locals values (op.BrTable table) =
    on_top values (λ v rest. Branches (chosen (slice_get table.0 v) table.1) rest)
plain_effect p guest locals values op.Return = Returns values
plain_effect p guest locals values (op.Call f) = called values (func_at p f)
plain_effect p guest locals values (op.CallIndirect t) =
    on_top values (λ v rest. called_at p rest t (slice_get guest.table v))
plain_effect p guest locals values op.Drop = on_top values (λ v rest. Goes locals rest)
plain_effect p guest locals values op.Select =
    on_three values (λ x y v rest. Goes locals ((if v == 0 then y else x) ∷ rest))
plain_effect p guest locals values (op.LocalGet n) = with_value (slice_get locals n) (λ v. Goes locals (v ∷ values))
plain_effect p guest locals values (op.LocalSet n) =
    on_top values (λ v rest. if nat_lt n (length locals) then Goes (slice_set locals n v) rest else Stuck)
plain_effect p guest locals values (op.LocalTee n) =
    on_top values (λ v rest. if nat_lt n (length locals) then Goes (slice_set locals n v) values else Stuck)
plain_effect p guest locals values (op.GlobalGet n) =
    with_value (slice_get guest.globals n) (λ v. Goes locals (v ∷ values))
plain_effect p guest locals values (op.GlobalSet n) =
    on_top values (λ v rest. if nat_lt n (length guest.globals) then Writes
    (record guest { globals = slice_set guest.globals n v }) rest else Stuck)
plain_effect p guest locals values (op.Load what align offset) =
    on_top values (λ at rest. read (number_in guest.memory.bytes (place_at at offset) (width_of_load what))
    (λ v. Goes locals (load_of what v ∷ rest)))
plain_effect p guest locals values (op.Store what align offset) =
    on_two values (λ at v rest. written guest
    (number_over guest.memory.bytes (place_at at offset) (width_of_store what) v) rest)
plain_effect p guest locals values op.MemorySize = Goes locals (pages_of guest.memory.bytes ∷ values)
plain_effect p guest locals values op.MemoryGrow =
    on_top values (λ v rest. grows guest (grown guest.memory (v % 2 ^ 32)) rest)
plain_effect p guest locals values (op.Const32 n) = Goes locals (n ∷ values)
plain_effect p guest locals values (op.Const64 n) = Goes locals (n ∷ values)
plain_effect p guest locals values (op.IsZero t) = on_top values (λ v rest. Goes locals (zero_test_of t v ∷ rest))
plain_effect p guest locals values (op.Count t how) =
    on_top values (λ v rest. Goes locals (bit_count_of t how v ∷ rest))
plain_effect p guest locals values (op.Compare t how) =
    on_two values (λ x y rest. Goes locals (compare_of t how x y ∷ rest))
plain_effect p guest locals values (op.Arith t how) =
    on_two values (λ x y rest. computed (arith_of t how x y) (λ v. Goes locals (v ∷ rest)))
plain_effect p guest locals values (op.Convert how) = on_top values (λ v rest. Goes locals (convert_of how v ∷ rest))

-- The effect of the first instruction. A `loop` stands again where a branch to its label goes.
abbrev pub effect : Program → Guest → List ℕ → List ℕ → Code → Effect
effect p guest locals values End = Stuck
effect p guest locals values (Then instr rest) = plain_effect p guest locals values instr
effect p guest locals values (Block ty body rest) = Opens values (arity_of ty) rest body
effect p guest locals values (Loop ty body rest) = Opens values 0 (Loop ty body rest) body
effect p guest locals values (Choice ty first other rest) =
    on_top values (λ v below. Opens below (arity_of ty) rest (if v == 0 then other else first))

-- ---- rewriting
-- the host's state, and the memory and the globals
pub record Runtime (S : Type 0) : Type 0 where
  pub host : S
  pub guest : Guest

-- what a sequence is rewritten to, in a frame with these locals
pub data Step (S : Type 0) : Type 0 where
  To : (store : Runtime S) (locals : List ℕ) (seq : Seq) → Step S
  -- nothing is left but operands
  Over : (values : List ℕ) → Step S
  Branching : (depth : ℕ) (values : List ℕ) → Step S
  Returning : (values : List ℕ) → Step S
  Stopping : (store : Runtime S) (stop : Stop) → Step S
  NoRule : Step S

-- what a machine runs under
pub record Rules (S : Type 0) : Type 0 where
  pub host : HostMeaning S
  pub program : Program
  pub cost : ℕ
  pub max_frames : ℕ
  pub max_values : ℕ

abbrev pub on_those : Option ℕ → List ℕ → List ℕ
on_those None values = values
on_those (Some v) values = v ∷ values

-- a call of the host, which sees of the guest the memory alone
abbrev pub call_of : {S : Type 0} → HostMeaning S → Runtime S → HostFn → List ℕ → Called S
call_of m s name args = m.call (record { host = s.host; memory = s.guest.memory.bytes }) name args

abbrev pub behind_call : {S : Type 0} → Runtime S → Store S → Runtime S
behind_call s store = record { host = store.host; guest = with_memory s.guest store.memory }

-- the host's answer
abbrev pub answered : {S : Type 0} → Runtime S → Answer → List ℕ → List ℕ → Code → Step S
answered s (Gives value) locals values code = To s locals (Plain (on_those value values) code)
answered s OutOfGas locals values code = Stopping s GasExceeded
answered s (Fails kind) locals values code = Stopping s (HostFault kind)

abbrev pub rewritten : {S : Type 0} → HostMeaning S → Runtime S → List ℕ → Code → Effect → Step S
rewritten m s locals code (Goes more values) = To s more (Plain values code)
rewritten m s locals code (Writes guest values) = To (record s { guest = guest }) locals (Plain values code)
rewritten m s locals code (Opens values arity again body) = To s locals (Label values arity again (Plain [] body) code)
rewritten m s locals code (Invokes values arity own body) = To s locals (Frame values arity own (Plain [] body) code)
rewritten m s locals code (Asks name args values) =
    answered (behind_call s (call_of m s name args).store) (call_of m s name args).answer locals values code
rewritten m s locals code (Branches depth values) = Branching depth values
rewritten m s locals code (Returns values) = Returning values
rewritten m s locals code (Traps kind) = Stopping s (Trap kind)
rewritten m s locals code Stuck = NoRule

-- so many of these operands, on those
abbrev pub left_over : {S : Type 0} → Runtime S → List ℕ → ℕ → List ℕ → List ℕ → Code → Step S
left_over s locals n inner values code =
    if nat_lt (length inner) n then NoRule else To s locals (Plain (take n inner ++ values) code)

-- what is rewritten inside a label
abbrev pub in_label : {S : Type 0} → Runtime S → List ℕ → List ℕ → ℕ → Code → Code → Step S → Step S
in_label s locals values n again code (To t more inner) = To t more (Label values n again inner code)
in_label s locals values n again code (Over inner) = To s locals (Plain (inner ++ values) code)
in_label s locals values n again code (Branching zero inner) = left_over s locals n inner values again
in_label s locals values n again code (Branching (suc depth) inner) = Branching depth inner
in_label s locals values n again code (Returning inner) = Returning inner
in_label s locals values n again code (Stopping t stop) = Stopping t stop
in_label s locals values n again code NoRule = NoRule

-- what is rewritten inside a frame, which is its body's label too
abbrev pub in_frame : {S : Type 0} → Runtime S → List ℕ → List ℕ → ℕ → Code → Step S → Step S
in_frame s locals values n code (To t own inner) = To t locals (Frame values n own inner code)
in_frame s locals values n code (Over inner) = To s locals (Plain (inner ++ values) code)
in_frame s locals values n code (Branching zero inner) = left_over s locals n inner values code
in_frame s locals values n code (Branching (suc depth) inner) = NoRule
in_frame s locals values n code (Returning inner) = left_over s locals n inner values code
in_frame s locals values n code (Stopping t stop) = Stopping t stop
in_frame s locals values n code NoRule = NoRule

-- one rewriting, innermost
abbrev pub reduce : {S : Type 0} → Rules S → Runtime S → List ℕ → Seq → Step S
reduce w s locals (Plain values code) =
    if begins code then rewritten w.host s locals (after code) (effect w.program s.guest locals values code) else Over
    values
reduce w s locals (Label values n again inner code) = in_label s locals values n again code (reduce w s locals inner)
reduce w s locals (Frame values n own inner code) = in_frame s locals values n code (reduce w s own inner)

-- ---- gas and limits
-- an instruction stands next
abbrev pub has_instr : Seq → Bool
has_instr (Plain values code) = begins code
has_instr (Label values n again inner code) = has_instr inner
has_instr (Frame values n own inner code) = has_instr inner

abbrev pub frames_of : Seq → ℕ
frames_of (Plain values code) = 0
frames_of (Label values n again inner code) = frames_of inner
frames_of (Frame values n own inner code) = frames_of inner + 1

-- operands and locals together
abbrev pub values_of : Seq → ℕ
values_of (Plain values code) = length values
values_of (Label values n again inner code) = values_of inner + length values
values_of (Frame values n own inner code) = values_of inner + length own + length values

-- the store, the locals outside of all frames, and the sequence of a whole run
pub record Config (S : Type 0) : Type 0 where
  pub store : Runtime S
  pub locals : List ℕ
  pub seq : Seq

abbrev pub is_too_large : {S : Type 0} → Rules S → List ℕ → Seq → Bool
is_too_large w locals seq = nat_lt w.max_frames (frames_of seq) || nat_lt w.max_values (values_of seq + length locals)

abbrev pub paid : {S : Type 0} → Rules S → Runtime S → Runtime S
paid w s = record s { host = burnt w.host s.host w.cost }

-- an instruction is paid for before its effect
abbrev pub stepped : {S : Type 0} → Rules S → Config S → Step S
stepped w c =
    if has_instr c.seq
    then (if nat_lt (w.host.gas c.store.host) w.cost then Stopping (paid w c.store) GasExceeded else reduce w
    (paid w c.store) c.locals c.seq)
    else reduce w c.store c.locals c.seq

-- no rule fits, or a branch out of everything
abbrev pub IsDead : {S : Type 0} → Step S → Type 0
IsDead (To s locals seq) = ⊥
IsDead (Over values) = ⊥
IsDead (Branching depth values) = Unit {0}
IsDead (Returning values) = Unit {0}
IsDead (Stopping s stop) = ⊥
IsDead NoRule = Unit {0}

-- how a run ends
pub data Outcome (S : Type 0) : Type 0 where
  Done : (store : Runtime S) → Outcome S
  Halted : (store : Runtime S) (stop : Stop) → Outcome S
  -- no rule fits
  NeverFits : Outcome S
  Unfinished : Outcome S

-- what a step leads to: a configuration that is too large is a trap
abbrev pub turn : {S : Type 0} → Rules S → Runtime S → Step S → (Config S → Outcome S) → Outcome S
turn w s (To t locals seq) go =
    if is_too_large w locals seq then Halted t (Trap 8) else go (record { store = t; locals = locals; seq = seq })
turn w s (Over values) go = Done s
turn w s (Branching depth values) go = NeverFits
turn w s (Returning values) go = NeverFits
turn w s (Stopping t stop) go = Halted t stop
turn w s NoRule go = NeverFits

-- at most so many steps
abbrev pub runs : {S : Type 0} → Rules S → ℕ → Config S → Outcome S
runs w zero c = Unfinished
runs w (suc n) c = turn w c.store (stepped w c) (runs w n)

-- A function's run: its frame is made, and then at most so many steps.
abbrev pub run_of : {S : Type 0} → Rules S → Runtime S → ℕ → List ℕ → Code → ℕ → Outcome S
run_of w s arity locals body n = turn w s (To s [] (Frame [] arity locals (Plain [] body) End)) (runs w n)

-- a function of the host is no method
abbrev pub run_in : {S : Type 0} → Rules S → Runtime S → Option Func → ℕ → Outcome S
run_in w s None n = NeverFits
run_in w s (Some (Hosted sig name)) n = NeverFits
run_in w s (Some (Coded sig body)) n = run_of w s 0 (replicate (length body.locals) 0) body.code n

-- the run of a function that takes and leaves nothing
abbrev pub run_by : {S : Type 0} → Rules S → Runtime S → ℕ → ℕ → Outcome S
run_by w s f n = run_in w s (func_at w.program f) n
