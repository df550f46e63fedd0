-- Of this project's own: where a thread stands in its code: the innermost sequence, and what stands round it.
use Rattle.std.specs.Prelude.{ℕ, zero, suc, nat_lt, if◌then◌else◌, ◌+◌, List, [], ◌∷◌, ◌++◌, length, take, Option, Some}
use Rattle.std.specs.Prelude.{None}
use Rattle.nr_wasmtypes.specs.Code.{Code}
use Rattle.nr_wasmmem.specs.Meaning.{Answer, Gives, OutOfGas, Fails, HostMeaning}
use Rattle.nr_wasmexec.specs.Reduction.{Seq, Plain, Label, Frame, Stop, Trap, GasExceeded, HostFault, Effect, Goes}
use Rattle.nr_wasmexec.specs.Reduction.{Writes, Opens, Invokes, Asks, Branches, Returns, Traps, Stuck, Runtime, call_of}
use Rattle.nr_wasmexec.specs.Reduction.{behind_call, on_those}

-- what stands round a sequence
pub data Context : Type 0 where
  InLabel : (values : List ℕ) (arity : ℕ) (target code : Code) → Context
  -- the locals are those of the calling frame
  InFrame : (values : List ℕ) (arity : ℕ) (locals : List ℕ) (code : Code) → Context

pub record Place : Type 0 where
  pub values : List ℕ
  pub code : Code
  pub locals : List ℕ
  -- from the inside out
  pub contexts : List Context

-- the whole sequence, and the locals outside of it
abbrev pub plugged : List Context → List ℕ → Seq → List ℕ × Seq
plugged [] locals seq = (locals, seq)
plugged (InLabel values n again code ∷ around) locals seq = plugged around locals (Label values n again seq code)
plugged (InFrame values n outer code ∷ around) locals seq = plugged around outer (Frame values n locals seq code)

abbrev pub whole_of : Place → List ℕ × Seq
whole_of p = plugged p.contexts p.locals (Plain p.values p.code)

-- on with so many operands of the inner sequence, or none where it has fewer
abbrev pub onward : ℕ → List ℕ → List ℕ → List ℕ → Code → List Context → Option Place
onward n inner values locals code around =
    if nat_lt (length inner) n then None else Some
    (record { values = take n inner ++ values; code = code; locals = locals; contexts = around })

-- out of so many labels and one more
abbrev pub branched : ℕ → List ℕ → List ℕ → List Context → Option Place
branched depth inner locals [] = None
branched zero inner locals (InLabel values n again code ∷ around) = onward n inner values locals again around
branched zero inner locals (InFrame values n outer code ∷ around) = onward n inner values outer code around
branched (suc depth) inner locals (InLabel values n again code ∷ around) = branched depth inner locals around
branched (suc depth) inner locals (InFrame values n outer code ∷ around) = None

-- out of the frame
abbrev pub returned : List ℕ → List ℕ → List Context → Option Place
returned inner locals [] = None
returned inner locals (InLabel values n again code ∷ around) = returned inner locals around
returned inner locals (InFrame values n outer code ∷ around) = onward n inner values outer code around

-- the last step of both, where so many of the operands are of the innermost sequence
abbrev pub landing : ℕ → ℕ → List ℕ → List ℕ → List ℕ → Code → List Context → Option Place
landing have n inner values locals code around =
    if nat_lt have n then None else Some (record {
      values = take n inner ++ values;
      code = code;
      locals = locals;
      contexts = around;
    })

abbrev pub landed : ℕ → List ℕ → List ℕ → List Context → Option Place
landed have inner locals [] = None
landed have inner locals (InLabel values n again code ∷ around) = landing have n inner values locals again around
landed have inner locals (InFrame values n outer code ∷ around) = landing have n inner values outer code around

-- out of a label, with all operands, and with the code as it was
abbrev pub out_of_label : Place → List Context → Option Place
out_of_label p [] = None
out_of_label p (InLabel values n again code ∷ around) =
    Some (record { values = p.values ++ values; code = p.code; locals = p.locals; contexts = around })
out_of_label p (InFrame values n outer code ∷ around) = None

-- out of a sequence that is over, with all its operands
abbrev pub left : Place → List Context → Option Place
left p [] = None
left p (InLabel values n again code ∷ around) =
    Some (record { values = p.values ++ values; code = code; locals = p.locals; contexts = around })
left p (InFrame values n outer code ∷ around) =
    Some (record { values = p.values ++ values; code = code; locals = outer; contexts = around })

-- where an effect leads that changes neither the guest nor the host
pub data Move : Type 0 where
  At : (place : Place) → Move
  Trapped : (kind : ℕ) → Move
  Lost : Move
  -- it changes one of them
  Elsewhere : Move

abbrev pub arrived : Option Place → Move
arrived None = Lost
arrived (Some p) = At p

-- from a place whose next instruction has this effect; `code` is what follows it
abbrev pub moved : List ℕ → Code → List Context → Effect → Move
moved locals code around (Goes own values) =
    At (record { values = values; code = code; locals = own; contexts = around })
moved locals code around (Writes guest values) = Elsewhere
moved locals code around (Opens values n again body) =
    At (record { values = []; code = body; locals = locals; contexts = InLabel values n again code ∷ around })
moved locals code around (Invokes values n own body) =
    At (record { values = []; code = body; locals = own; contexts = InFrame values n locals code ∷ around })
moved locals code around (Asks name args values) = Elsewhere
moved locals code around (Branches depth values) = arrived (branched depth values locals around)
moved locals code around (Returns values) = arrived (returned values locals around)
moved locals code around (Traps kind) = Trapped kind
moved locals code around Stuck = Lost

-- with the store: where a step leads
pub data Led (S : Type 0) : Type 0 where
  Leads : (store : Runtime S) (place : Place) → Led S
  Halts : (store : Runtime S) (stop : Stop) → Led S
  Nowhere : Led S

abbrev pub with_store : {S : Type 0} → Runtime S → Move → Led S
with_store s (At p) = Leads s p
with_store s (Trapped kind) = Halts s (Trap kind)
with_store s Lost = Nowhere
with_store s Elsewhere = Nowhere

-- with the host's answer on top
abbrev pub given : Option ℕ → Place → Place
given value p = record p { values = on_those value p.values }

abbrev pub asked : {S : Type 0} → Runtime S → Answer → Place → Led S
asked s (Gives value) p = Leads s (given value p)
asked s OutOfGas p = Halts s GasExceeded
asked s (Fails kind) p = Halts s (HostFault kind)

abbrev pub led : {S : Type 0} → HostMeaning S → Runtime S → List ℕ → Code → List Context → Effect → Led S
led m s locals code around (Asks name args values) =
    asked (behind_call s (call_of m s name args).store) (call_of m s name args).answer
    (record { values = values; code = code; locals = locals; contexts = around })
led m s locals code around (Writes guest values) =
    Leads (record s { guest = guest }) (record { values = values; code = code; locals = locals; contexts = around })
led m s locals code around e = with_store s (moved locals code around e)

-- ---- what a place holds
abbrev pub frames_in : List Context → ℕ
frames_in [] = 0
frames_in (InLabel values n again code ∷ around) = frames_in around
frames_in (InFrame values n outer code ∷ around) = frames_in around + 1

-- the operands and the locals of what stands round it
abbrev pub held_in : List Context → ℕ
held_in [] = 0
held_in (InLabel values n again code ∷ around) = held_in around + length values
held_in (InFrame values n outer code ∷ around) = held_in around + length outer + length values
