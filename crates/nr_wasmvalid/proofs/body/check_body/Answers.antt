-- The goals of `body::check_body` that no tactic closes.
use Rattle.std.proofs.Common.{Err, Result, sym, ap, ◌∙◌, arith}
use Rattle.std.proofs.lemmas.Result.{err_from_is_err_and}
use Rattle.nr_wasmtypes.specs.Code.{code_of}
use Rattle.nr_wasmvalid.specs.Faults.{fault_at}
use Rattle.nr_wasmvalid.specs.declared.refusal.BodyFault.{BodyFault}
use Rattle.nr_wasmvalid.specs.Frames.{Frames, context}
use Rattle.nr_wasmvalid.specs.Shapes.{Shape, judged, body_judged}
use Rattle.nr_wasmvalid.proofs.OnJudged.{not_memory, ended_stops, ended_refused, ended_passes}
use Rattle.nr_wasmvalid.proofs.body.check_body.Goals as goal

abbrev err : BodyFault → Result Shape BodyFault
err e = Err e

pub returns-in_err-next : goal.returns-in_err-next
unfolding body_judged
returns-in_err-next c =
    let p = err_from_is_err_and c.from_residual.result c.from_residual.ensures.1 in
    rw (p.1, p.2) (λ other. ended_stops _ _ _ _ (sym (ap (λ (v : Frames). judged (context c.args.scope.now.module.now c.args.scope.now.funcs.now c.args.scope.now.locals c.args.scope.now.result v.labels) 0 (code_of c.args.code.now.items) v.shape) c.restart.ensures) ∙ c.in_err-next.ensures.gives other))

pub returns-in-Err : goal.returns-in-Err
unfolding body_judged
returns-in-Err c = λ other.
    ended_refused _ _ _ _ _ (sym (ap (λ (v : Frames). judged (context c.args.scope.now.module.now c.args.scope.now.funcs.now c.args.scope.now.locals c.args.scope.now.result v.labels) 0 (code_of c.args.code.now.items) v.shape) c.restart.ensures) ∙ c.in_ok-next.ensures.gives)
    (c.in-Err.ensures.gives (not_memory c.in_ok-next.next c.in-Err.refusal (λ e. other (c.at.ensures ∙ e))))
    ∙ ap err (ap (λ n. fault_at n c.in-Err.refusal) (omega (arith, c.in_ok-next.ensures.next)) ∙ sym c.at.ensures)

pub returns : goal.returns
unfolding body_judged
returns c = ended_passes _ _ _ _ _ (sym (ap (λ (v : Frames). judged (context c.args.scope.now.module.now c.args.scope.now.funcs.now c.args.scope.now.locals c.args.scope.now.result v.labels) 0 (code_of c.args.code.now.items) v.shape) c.restart.ensures) ∙ c.in_ok-next.ensures.gives) c.in_default.ensures.gives
