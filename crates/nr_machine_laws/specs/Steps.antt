-- WebAssembly Core 1.0, "Execution": the configurations that a run comes to, step by step, and the numbers that rows
-- look at.
use Rattle.std.specs.Prelude.{◌≡◌, ℕ, zero, suc, Bool, true, false, List, [], ◌∷◌, length, replicate, Option, Some}
use Rattle.std.specs.Prelude.{None}
use Rattle.nr_machine_laws.specs.Typed.{AreOf}
use Rattle.nr_wasmexec.specs.Functions.{Func, Hosted, Coded, func_at}
use Rattle.nr_wasmexec.specs.Reduction.{Asks, Config, Effect, Frame, Label, NoRule, Plain, Rules, Runtime, Seq, Step}
use Rattle.nr_wasmexec.specs.Reduction.{To}
use Rattle.nr_wasmexec.specs.Reduction.{call_of, effect, is_too_large, on_those, paid, stepped}
use Rattle.nr_wasmmem.specs.Meaning.{Answer, Gives, OutOfGas, Fails, HostMeaning}
use Rattle.nr_wasmnum.specs.Integers.{IsOf}
use Rattle.nr_wasmtypes.specs.Code.{Code, End, Then, Choice}
use Rattle.nr_wasmtypes.specs.Host.{host_type}
use Rattle.nr_wasmtypes.specs.declared.instr.Plain.TheVariants as op
use Rattle.nr_wasmtypes.specs.declared.instr.ValType.TheVariants.{I32}
use Rattle.nr_wasmvalid.specs.Rules.{Types?, types}

-- ---- the host's answers
-- an answer gives a number of the type, or none where there is no type
abbrev pub GivesOf : Types? → Answer → Type 0
GivesOf t (Gives value) = AreOf (types t) (on_those value [])
GivesOf t OutOfGas = Unit {0}
GivesOf t (Fails kind) = Unit {0}

-- where an instruction calls the host, the answer is of the function's type
abbrev pub IsAnswered : {S : Type 0} → HostMeaning S → Runtime S → Effect → Type 0
IsAnswered m s (Asks name args values) = GivesOf (host_type name).result (call_of m s name args).answer
IsAnswered m s other = Unit {0}

-- the same of the instruction that stands next
abbrev pub AnswersNext : {S : Type 0} → Rules S → Runtime S → List ℕ → Seq → Type 0
AnswersNext w s locals (Plain values code) = IsAnswered w.host s (effect w.program s.guest locals values code)
AnswersNext w s locals (Label values n target inner code) = AnswersNext w s locals inner
AnswersNext w s locals (Frame values n own inner code) = AnswersNext w s own inner

-- ---- steps
-- a method's frame, with zeros for its locals
abbrev pub first_step : {S : Type 0} → Runtime S → Option Func → Step S
first_step s None = NoRule
first_step s (Some (Hosted sig name)) = NoRule
first_step s (Some (Coded sig body)) = To s [] (Frame [] 0 (replicate (length body.locals) 0) (Plain [] body.code) End)

-- the step leads to this configuration, which isn't too large
abbrev pub LeadsTo : {S : Type 0} → Rules S → Step S → Config S → Type 0
LeadsTo w step c = (step ≡ To c.store c.locals c.seq) × (is_too_large w c.locals c.seq ≡ false)

-- So many steps of the run of the function with the number f lead here, and each answer of the host was of its type.
abbrev pub Reaches : {S : Type 0} → Rules S → Runtime S → ℕ → ℕ → Config S → Type 0
Reaches {S} w s f zero c = LeadsTo w (first_step s (func_at w.program f)) c
Reaches {S} w s f (suc n) c =
    (b : Config S) × Reaches w s f n b × AnswersNext w (paid w b.store) b.locals b.seq × LeadsTo w (stepped w b) c

-- ---- what is next
-- the operands, and the code, of the innermost sequence
abbrev pub values_at : Seq → List ℕ
values_at (Plain values code) = values
values_at (Label values n target inner code) = values_at inner
values_at (Frame values n own inner code) = values_at inner

abbrev pub code_at : Seq → Code
code_at (Plain values code) = code
code_at (Label values n target inner code) = code_at inner
code_at (Frame values n own inner code) = code_at inner

-- these look at the number on top as it is: `br_if`, `br_table`, `call_indirect`, `select` and `if`
abbrev pub takes_raw : Code → Bool
takes_raw (Then (op.BrIf label) rest) = true
takes_raw (Then (op.BrTable labels) rest) = true
takes_raw (Then (op.CallIndirect t) rest) = true
takes_raw (Then op.Select rest) = true
takes_raw (Choice ty one other rest) = true
takes_raw other = false

-- a number of the type i32 is on top
abbrev pub HasI32 : List ℕ → Type 0
HasI32 values = (v : ℕ) × (rest : List ℕ) × (values ≡ v ∷ rest) × IsOf I32 v
