-- The goals of `placing::count_side` that no tactic closes.
use Rattle.std.proofs.lemmas.Result.{IfOk-weaker}
use Rattle.nr_trace.proofs.OnTrails.{block_side, choice_side, loop_side, plain_side}
use Rattle.nr_trace.proofs.placing.count_side.Goals as goal

pub returns-in-Plain : goal.returns-in-Plain
returns-in-Plain c = λ rest. plain_side c.args.instr.now _ c.args.so_far rest c.in-Plain.is

pub returns-in-Block : goal.returns-in-Block
returns-in-Block c = λ rest. block_side c.args.instr.now _ _ c.args.so_far rest c.in-Block.is

pub returns-in-Loop : goal.returns-in-Loop
returns-in-Loop c = λ rest. loop_side c.args.instr.now _ _ c.args.so_far rest c.in-Loop.is

pub returns-in-If : goal.returns-in-If
returns-in-If c =
    IfOk-weaker c.count_body.result _ _ (λ count is rest. choice_side c.args.instr.now _ c.in-If.arms c.deref-arms.result.now c.args.so_far count rest c.in-If.is c.deref-arms.ensures is) c.count_body.ensures
