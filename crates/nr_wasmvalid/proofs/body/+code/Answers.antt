-- The goals of `body::code` that no tactic closes.
use Rattle.std.proofs.Common.{◌≡◌, ◌+◌, List, Err, Result, sym, ap, ◌∙◌, arith, rules}
use Rattle.std.proofs.lemmas.Result.{err_from_is_err_and}
use Rattle.std.proofs.lemmas.List.{drop_all}
use Rattle.nr_wasmtypes.specs.Code.{Code, code_of, count_of}
use Rattle.nr_wasmtypes.proofs.Levels.{put_plain, put_block_at, put_loop_at, put_if_at}
use Rattle.nr_wasmvalid.specs.Faults.{fault_at}
use Rattle.nr_wasmvalid.specs.declared.refusal.BodyFault.{BodyFault}
use Rattle.nr_wasmvalid.specs.Frames.{Frames, context}
use Rattle.nr_wasmvalid.specs.Shapes.{Shape, judged, ended, fresh, give_all}
use Rattle.nr_wasmvalid.specs.Rules.{Types?, types, within}
use Rattle.nr_wasmvalid.proofs.OnJudged.{not_memory, plain_stops, plain_goes_on, ended_stops, ended_refused, ended_passes, block_stops, block_goes_on, loop_stops, loop_goes_on, condition_stops, one_stops, other_stops, choice_goes_on, goes_on, stops, step_counted, at_end}
use Rattle.nr_wasmvalid.proofs.body.+code.Goals as goal

abbrev err : BodyFault → Result Shape BodyFault
err e = Err e

pub check_inside-returns-in_err-next-clause-gives : goal.check_inside-returns-in_err-next-clause-gives
check_inside-returns-in_err-next-clause-gives t c =
    let p = err_from_is_err_and c.from_residual-in_err-next.result c.from_residual-in_err-next.ensures.1 in
    rw (p.1, p.2) (λ other. ended_stops _ _ _ _
    (sym (ap (λ (v : Frames). judged (context c.args.scope.now.module.now c.args.scope.now.funcs.now c.args.scope.now.locals c.args.scope.now.result v.labels) c.args.place (code_of c.args.body.now.items) v.shape) c.in_ok-enter.ensures) ∙ c.in_err-next.ensures.gives other))

pub check_inside-returns-in-Err-clause-gives : goal.check_inside-returns-in-Err-clause-gives
check_inside-returns-in-Err-clause-gives t c = λ other.
    let body = sym (ap (λ (v : Frames). judged (context c.args.scope.now.module.now c.args.scope.now.funcs.now c.args.scope.now.locals c.args.scope.now.result v.labels) c.args.place (code_of c.args.body.now.items) v.shape) c.in_ok-enter.ensures) ∙ c.in_ok-next.ensures.gives in
    let at : c.at.result ≡ fault_at (c.args.place + count_of (code_of c.args.body.now.items)) c.in-Err.refusal = c.at.ensures ∙ ap (λ n. fault_at n c.in-Err.refusal) c.in_ok-next.ensures.next in
    ended_refused _ _ _ _ _ body (c.in-Err.ensures.gives (not_memory c.in_ok-next.next c.in-Err.refusal (λ e. other (c.at.ensures ∙ e)))) ∙ sym (ap err at)

pub check_inside-returns-clause-gives : goal.check_inside-returns-clause-gives
check_inside-returns-clause-gives t c =
    ended_passes _ _ _ _ _
    (sym (ap (λ (v : Frames). judged (context c.args.scope.now.module.now c.args.scope.now.funcs.now c.args.scope.now.locals c.args.scope.now.result v.labels) c.args.place (code_of c.args.body.now.items) v.shape) c.in_ok-enter.ensures) ∙ c.in_ok-next.ensures.gives)
    c.in_default.ensures.gives

pub check_instr-returns-in-Err-clause-gives : goal.check_instr-returns-in-Err-clause-gives
check_instr-returns-in-Err-clause-gives t c = λ other rest.
    ap (λ (k : Code). judged (context c.args.scope.now.module.now c.args.scope.now.funcs.now c.args.scope.now.locals c.args.scope.now.result c.args.stacks.now.labels) c.args.place k c.args.stacks.now.shape) (put_plain c.args.instr.now c.in-Plain.plain rest c.in-Plain.is)
    ∙ plain_stops _ _ _ _ _ _ (c.in-Err.ensures.leaves (not_memory c.args.place c.in-Err.refusal (λ e. other (c.at.ensures ∙ e)))) ∙ sym (ap err c.at.ensures)

pub check_instr-returns-in_default-clause-gives : goal.check_instr-returns-in_default-clause-gives
check_instr-returns-in_default-clause-gives t c = λ rest.
    ap (λ (k : Code). judged (context c.args.scope.now.module.now c.args.scope.now.funcs.now c.args.scope.now.locals c.args.scope.now.result c.args.stacks.now.labels) c.args.place k c.args.stacks.now.shape) (put_plain c.args.instr.now c.in-Plain.plain rest c.in-Plain.is)
    ∙ plain_goes_on _ _ _ _ _ _ _ c.in_ok-inside.ensures.next c.in_default.ensures.leaves

pub check_instr-returns-in_err-next-in-Block-clause-gives : goal.check_instr-returns-in_err-next-in-Block-clause-gives
check_instr-returns-in_err-next-in-Block-clause-gives t c =
    let p = err_from_is_err_and c.from_residual-in_err-next-in-Block.result c.from_residual-in_err-next-in-Block.ensures.1 in
    rw (p.1, p.2) (λ other rest. ap (λ (k : Code). judged (context c.args.scope.now.module.now c.args.scope.now.funcs.now c.args.scope.now.locals c.args.scope.now.result c.args.stacks.now.labels) c.args.place k c.args.stacks.now.shape) (put_block_at c.args.instr.now c.in-Block.result_type c.in-Block.body c.deref.result.now rest c.in-Block.is c.deref.ensures)
    ∙ block_stops _ _ _ _ _ _ _ _ c.in_ok-inside.ensures.next (c.in_err-next-in-Block.ensures.gives other))

pub check_instr-returns-in_ok-give_result-in-Block-clause-gives : goal.check_instr-returns-in_ok-give_result-in-Block-clause-gives
check_instr-returns-in_ok-give_result-in-Block-clause-gives t c = λ rest.
    ap (λ (k : Code). judged (context c.args.scope.now.module.now c.args.scope.now.funcs.now
    c.args.scope.now.locals c.args.scope.now.result c.args.stacks.now.labels) c.args.place k
    c.args.stacks.now.shape) (put_block_at c.args.instr.now c.in-Block.result_type c.in-Block.body
    c.deref.result.now rest c.in-Block.is c.deref.ensures)
    ∙ block_goes_on _ _ _ _ _ _ _ _ _ _ c.in_ok-inside.ensures.next c.in_ok-next-in-Block.ensures.gives c.in_ok-next-in-Block.ensures.next
    (c.in_ok-give_result-in-Block.ensures.shape ∙ ap (λ (v : Frames). give_all (types c.in-Block.result_type) v.shape) c.in_ok-next-in-Block.ensures.same)

pub check_instr-returns-in_err-next-in-Loop-clause-gives : goal.check_instr-returns-in_err-next-in-Loop-clause-gives
check_instr-returns-in_err-next-in-Loop-clause-gives t c =
    let p = err_from_is_err_and c.from_residual-in_err-next-in-Loop.result c.from_residual-in_err-next-in-Loop.ensures.1 in
    rw (p.1, p.2) (λ other rest. ap (λ (k : Code). judged (context c.args.scope.now.module.now c.args.scope.now.funcs.now c.args.scope.now.locals c.args.scope.now.result c.args.stacks.now.labels) c.args.place k c.args.stacks.now.shape) (put_loop_at c.args.instr.now c.in-Loop.result_type c.in-Loop.body c.deref-in-Loop.result.now rest c.in-Loop.is c.deref-in-Loop.ensures)
    ∙ loop_stops _ _ _ _ _ _ _ _ c.in_ok-inside.ensures.next (c.in_err-next-in-Loop.ensures.gives other))

pub check_instr-returns-in_ok-give_result-in-Loop-clause-gives : goal.check_instr-returns-in_ok-give_result-in-Loop-clause-gives
check_instr-returns-in_ok-give_result-in-Loop-clause-gives t c = λ rest.
    ap (λ (k : Code). judged (context c.args.scope.now.module.now c.args.scope.now.funcs.now
    c.args.scope.now.locals c.args.scope.now.result c.args.stacks.now.labels) c.args.place k
    c.args.stacks.now.shape) (put_loop_at c.args.instr.now c.in-Loop.result_type c.in-Loop.body
    c.deref-in-Loop.result.now rest c.in-Loop.is c.deref-in-Loop.ensures)
    ∙ loop_goes_on _ _ _ _ _ _ _ _ _ _ c.in_ok-inside.ensures.next c.in_ok-next-in-Loop.ensures.gives c.in_ok-next-in-Loop.ensures.next
    (c.in_ok-give_result-in-Loop.ensures.shape ∙ ap (λ (v : Frames). give_all (types c.in-Loop.result_type) v.shape) c.in_ok-next-in-Loop.ensures.same)

pub check_instr-returns-in-Err-take-clause-gives : goal.check_instr-returns-in-Err-take-clause-gives
check_instr-returns-in-Err-take-clause-gives t c = λ other rest.
    ap (λ (k : Code). judged (context c.args.scope.now.module.now c.args.scope.now.funcs.now
    c.args.scope.now.locals c.args.scope.now.result c.args.stacks.now.labels) c.args.place k
    c.args.stacks.now.shape) (put_if_at c.args.instr.now c.in-If.result_type c.in-If.arms c.deref-arms.result.now
    rest c.in-If.is c.deref-arms.ensures)
    ∙ condition_stops _ _ _ _ _ _ _ _ (c.in-Err-take.ensures.leaves (not_memory c.args.place c.in-Err-take.refusal (λ e. other (c.at-in-Err-take.ensures ∙ e)))) ∙ sym (ap err c.at-in-Err-take.ensures)

pub check_instr-returns-in_err-next-in-If-clause-gives : goal.check_instr-returns-in_err-next-in-If-clause-gives
check_instr-returns-in_err-next-in-If-clause-gives t c =
    let p = err_from_is_err_and c.from_residual-in_err-next-in-If.result c.from_residual-in_err-next-in-If.ensures.1 in
    let first = λ (labels : List Types?). ended (c.in_ok-inside.inside + count_of (code_of c.deref-arms.result.now.0.items)) c.in-If.result_type (judged (within c.in-If.result_type (context c.args.scope.now.module.now c.args.scope.now.funcs.now c.args.scope.now.locals c.args.scope.now.result labels)) c.in_ok-inside.inside (code_of c.deref-arms.result.now.0.items) fresh) in
    rw (p.1, p.2) (λ other rest. ap (λ (k : Code). judged (context c.args.scope.now.module.now c.args.scope.now.funcs.now c.args.scope.now.locals c.args.scope.now.result c.args.stacks.now.labels) c.args.place k c.args.stacks.now.shape) (put_if_at c.args.instr.now c.in-If.result_type c.in-If.arms c.deref-arms.result.now rest c.in-If.is c.deref-arms.ensures)
    ∙ one_stops _ _ _ _ _ _ _ _ _ _ c.in_ok-inside.ensures.next c.in_default-take.ensures.leaves (sym (ap first c.in_default-take.ensures.around.labels) ∙ c.in_err-next-in-If.ensures.gives other))

pub check_instr-returns-in_err-next-in-If-2-clause-gives : goal.check_instr-returns-in_err-next-in-If-2-clause-gives
check_instr-returns-in_err-next-in-If-2-clause-gives t c =
    let p = err_from_is_err_and c.from_residual-in_err-next-in-If-2.result c.from_residual-in_err-next-in-If-2.ensures.1 in
    let first = λ (labels : List Types?). ended (c.in_ok-inside.inside + count_of (code_of c.deref-arms.result.now.0.items)) c.in-If.result_type (judged (within c.in-If.result_type (context c.args.scope.now.module.now c.args.scope.now.funcs.now c.args.scope.now.locals c.args.scope.now.result labels)) c.in_ok-inside.inside (code_of c.deref-arms.result.now.0.items) fresh) in
    let second = λ (labels : List Types?). ended (c.in_ok-next-in-If.next + count_of (code_of c.deref-arms.result.now.1.items)) c.in-If.result_type (judged (within c.in-If.result_type (context c.args.scope.now.module.now c.args.scope.now.funcs.now c.args.scope.now.locals c.args.scope.now.result labels)) c.in_ok-next-in-If.next (code_of c.deref-arms.result.now.1.items) fresh) in
    let around = ap (λ (v : Frames). v.labels) c.in_ok-next-in-If.ensures.same ∙ c.in_default-take.ensures.around.labels in
    rw (p.1, p.2) (λ other rest. ap (λ (k : Code). judged (context c.args.scope.now.module.now c.args.scope.now.funcs.now c.args.scope.now.locals c.args.scope.now.result c.args.stacks.now.labels) c.args.place k c.args.stacks.now.shape) (put_if_at c.args.instr.now c.in-If.result_type c.in-If.arms c.deref-arms.result.now rest c.in-If.is c.deref-arms.ensures)
    ∙ other_stops _ _ _ _ _ _ _ _ _ _ _ _ c.in_ok-inside.ensures.next c.in_default-take.ensures.leaves (sym (ap first c.in_default-take.ensures.around.labels) ∙ c.in_ok-next-in-If.ensures.gives)
    c.in_ok-next-in-If.ensures.next (sym (ap second around) ∙ c.in_err-next-in-If-2.ensures.gives other))

pub check_instr-returns-in_ok-give_result-in-If-clause-gives : goal.check_instr-returns-in_ok-give_result-in-If-clause-gives
check_instr-returns-in_ok-give_result-in-If-clause-gives t c = λ rest.
    let first = λ (labels : List Types?). ended (c.in_ok-inside.inside + count_of (code_of c.deref-arms.result.now.0.items)) c.in-If.result_type (judged (within c.in-If.result_type (context c.args.scope.now.module.now c.args.scope.now.funcs.now c.args.scope.now.locals c.args.scope.now.result labels)) c.in_ok-inside.inside (code_of c.deref-arms.result.now.0.items) fresh) in
    let second = λ (labels : List Types?). ended (c.in_ok-next-in-If.next + count_of (code_of c.deref-arms.result.now.1.items)) c.in-If.result_type (judged (within c.in-If.result_type (context c.args.scope.now.module.now c.args.scope.now.funcs.now c.args.scope.now.locals c.args.scope.now.result labels)) c.in_ok-next-in-If.next (code_of c.deref-arms.result.now.1.items) fresh) in
    let around = ap (λ (v : Frames). v.labels) c.in_ok-next-in-If.ensures.same ∙ c.in_default-take.ensures.around.labels in
    ap (λ (k : Code). judged (context c.args.scope.now.module.now c.args.scope.now.funcs.now
    c.args.scope.now.locals c.args.scope.now.result c.args.stacks.now.labels) c.args.place k
    c.args.stacks.now.shape) (put_if_at c.args.instr.now c.in-If.result_type c.in-If.arms c.deref-arms.result.now
    rest c.in-If.is c.deref-arms.ensures)
    ∙ choice_goes_on _ _ _ _ _ _ _ _ _ _ _ _ _ _ c.in_ok-inside.ensures.next c.in_default-take.ensures.leaves (sym (ap first c.in_default-take.ensures.around.labels) ∙ c.in_ok-next-in-If.ensures.gives)
    c.in_ok-next-in-If.ensures.next (sym (ap second around) ∙ c.in_ok-next-in-If-2.ensures.gives) c.in_ok-next-in-If-2.ensures.next
    (c.in_ok-give_result-in-If.ensures.shape ∙ ap (λ (v : Frames). give_all (types c.in-If.result_type) v.shape) (c.in_ok-next-in-If-2.ensures.same ∙ c.in_ok-next-in-If.ensures.same))

pub check_code-loop-index-preserved : goal.check_code-loop-index-preserved
check_code-loop-index-preserved t c = record {
  judged =
      goes_on c.args.scope.now.module.now c.args.scope.now.funcs.now c.args.scope.now.locals
      c.args.scope.now.result c.loop-index.stacks.labels c.args.stacks.now.labels c.loop-index.next c.in_ok-next.next
      c.args.code.now.items c.loop-index.index c.index.result.now c.loop-index.stacks.shape
      c.check_instr.new.stacks.shape _
      c.loop-index.invariant.around.labels (omega arith) c.index.ensures c.in_ok-next.ensures.gives c.loop-index.invariant.judged;
  counted = omega (arith, step_counted c.args.code.now.items c.loop-index.index c.index.result.now (omega arith) c.index.ensures, c.loop-index.invariant.counted, c.in_ok-next.ensures.next);
  around = search rules;
}

pub check_code-returns-clause-gives : goal.check_code-returns-clause-gives
check_code-returns-clause-gives t c = sym c.loop-index.invariant.judged ∙ at_end _ _ _ _ (drop_all c.loop-index.index c.args.code.now.items (omega arith))

pub check_code-returns-in_err-next-clause-gives : goal.check_code-returns-in_err-next-clause-gives
check_code-returns-in_err-next-clause-gives t c =
    let p = err_from_is_err_and c.from_residual.result c.from_residual.ensures.1 in
    rw (p.1, p.2) (λ other. stops c.args.scope.now.module.now c.args.scope.now.funcs.now c.args.scope.now.locals c.args.scope.now.result c.loop-index.stacks.labels c.args.stacks.now.labels c.loop-index.next c.args.code.now.items c.loop-index.index c.index.result.now c.loop-index.stacks.shape _ _
    c.loop-index.invariant.around.labels (omega arith) c.index.ensures (c.in_err-next.ensures.gives other) c.loop-index.invariant.judged)
