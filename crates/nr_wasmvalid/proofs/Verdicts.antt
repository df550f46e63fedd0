-- From the judging of a body to its typing.
use Rattle.std.proofs.Common.{◌≡◌, ℕ, Ok, Err, Result, refl, sym, ap, subst, ◌∙◌}
use Rattle.nr_wasmtypes.specs.Code.{Code}
use Rattle.nr_wasmvalid.specs.Faults.{fault_at}
use Rattle.nr_wasmvalid.specs.Rules.{Context}
use Rattle.nr_wasmvalid.specs.Shapes.{Shape, body_judged}
use Rattle.nr_wasmvalid.specs.Frames.{BodyJudges}
use Rattle.nr_wasmvalid.specs.Typing.{IsTyped, IsBreach}
use Rattle.nr_wasmvalid.specs.Verdict.{Verdict}
use Rattle.nr_bytes.specs.Answers.{Gives}
use Rattle.nr_wasmvalid.specs.declared.refusal.Refusal.{Refusal}
use Rattle.nr_wasmvalid.specs.declared.refusal.Refusal.TheVariants as refusal
use Rattle.nr_wasmvalid.specs.declared.refusal.BodyFault.{BodyFault}
use Rattle.nr_wasmvalid.specs.declared.refusal.BodyFault.TheVariants as fault
use Rattle.nr_wasmvalid.proofs.Once.{TellsTyping, judged_tells, breach_judged, typed_judged}

breach_verdict : (c : Context) (code : Code) (place : ℕ) (kind : Refusal) → IsBreach c code place kind → Verdict c code (Err (fault_at place kind))
breach_verdict c code place refusal.Types h = h
breach_verdict c code place refusal.Index h = h
breach_verdict c code place refusal.Label h = h
breach_verdict c code place refusal.Limit h = h
breach_verdict c code place refusal.Memory h = tt

told : (c : Context) (code : Code) (r : Result Shape BodyFault) (e : BodyFault) → r ≡ Err e → TellsTyping c code r → Verdict c code (Err e)
told c code r e is t =
    let b = subst (TellsTyping c code) is t in
    subst (λ (f : BodyFault). Verdict c code (Err f)) (sym b.2) (breach_verdict c code b.0 b.1 b.3)

pub verdict : (c : Context) (code : Code) (r : Result (Unit {0}) BodyFault) → BodyJudges r (body_judged c code) → Verdict c code r
verdict c code (Ok x) h = subst (TellsTyping c code) h (judged_tells c code)
verdict c code (Err (fault.Types n)) h = told c code (body_judged c code) (fault.Types n) (h (λ e. cc)) (judged_tells c code)
verdict c code (Err (fault.Index n)) h = told c code (body_judged c code) (fault.Index n) (h (λ e. cc)) (judged_tells c code)
verdict c code (Err (fault.Label n)) h = told c code (body_judged c code) (fault.Label n) (h (λ e. cc)) (judged_tells c code)
verdict c code (Err (fault.Limit n)) h = told c code (body_judged c code) (fault.Limit n) (h (λ e. cc)) (judged_tells c code)
verdict c code (Err fault.Memory) h = tt

abbrev ok : Shape → Result Shape BodyFault
ok s = Ok s

abbrev answer : BodyFault → Result (Unit {0}) BodyFault
answer e = Err e

pub gives_typed : (c : Context) (code : Code) (r : Result (Unit {0}) BodyFault) → BodyJudges r (body_judged c code) → IsTyped c code → Gives fault.Memory r (Ok tt)
gives_typed c code (Ok x) h typed = refl
gives_typed c code (Err e) h typed = λ other. let t = typed_judged c code typed in absurd (let x : ok t.0 ≡ Err e = sym t.1 ∙ h other in cc)

same_fault : (e f : BodyFault) (r : Result Shape BodyFault) → r ≡ Err e → r ≡ Err f → e ≡ f
same_fault e f r a b = cc

pub gives_breach : (c : Context) (code : Code) (place : ℕ) (kind : Refusal) (r : Result (Unit {0}) BodyFault) → BodyJudges r (body_judged c code) → IsBreach c code place kind → Gives fault.Memory r (Err (fault_at place kind))
gives_breach c code place kind (Ok x) h b = absurd (let y = sym h ∙ breach_judged c code place kind b in cc)
gives_breach c code place kind (Err e) h b = λ other. ap answer (same_fault (fault_at place kind) e (body_judged c code) (breach_judged c code place kind b) (h other))
