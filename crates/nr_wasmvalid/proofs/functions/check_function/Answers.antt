-- The goals of `functions::check_function` that no tactic closes.
use Rattle.std.proofs.Common.{◌++◌, List, ap, ◌∙◌}
use Rattle.nr_wasmtypes.specs.declared.instr.ValType.{ValType}
use Rattle.nr_wasmvalid.specs.Modules.{in_func}
use Rattle.nr_wasmvalid.proofs.Whole.{func_breaks}
use Rattle.nr_wasmvalid.proofs.functions.check_function.Goals as goal

pub returns-in-Err : goal.returns-in-Err
returns-in-Err c =
    let whole = c.new-locals.ensures ∙ ap (λ (ps : List ValType). ps ++ c.locals.result.now) c.inner.ensures
    ∙ ap (λ (ls : List ValType). c.args.sig.now.params ++ ls) c.locals.ensures in
    func_breaks c.args.module.now c.args.funcs.now c.new-locals.result c.args.sig.now c.args.body.now _ c.args.func c.in-Err.fault c.of.result
    c.requires whole c.code_vec.ensures (c.of.ensures ∙ ap (λ n. in_func n c.in-Err.fault) c.in_ok-func.ensures.same) c.in-Err.ensures.verdict
