-- What holds at the loops of `body::code`.
use Rattle.std.proofs.Common.{◌≡◌, ◌+◌, drop}
use Rattle.nr_wasmtypes.specs.Code.{code_of, count_of}
use Rattle.nr_wasmvalid.specs.Shapes.{judged}
use Rattle.nr_wasmvalid.specs.Frames.{SameAround, context}
use Rattle.nr_wasmvalid.proofs.body.+code.Given as goal

abbrev pub invariant-check_code-loop-index : goal.invariant-check_code-loop-index
invariant-check_code-loop-index l =
    let c = context l.scope.module.now l.scope.funcs.now l.scope.locals l.scope.result l.fn.stacks.labels in
    record {
      judged : judged c l.next (code_of (drop l.index l.code.items)) l.stacks.shape ≡ judged c l.place (code_of l.code.items) l.fn.stacks.shape;
      counted : l.next + count_of (code_of (drop l.index l.code.items)) ≡ l.place + count_of (code_of l.code.items);
      around : SameAround l.fn.stacks l.stacks;
    }
