-- The goals of `lookup::may_run` that no tactic closes.
use Rattle.std.proofs.Common.{◌∙◌, ap}
use Rattle.nr_wasmtypes.specs.declared.module.Module.{Module}
use Rattle.nr_module.proofs.Methods.{method_runs}
use Rattle.nr_module.specs.Listing.{is_method}
use Rattle.nr_module.proofs.lookup.may_run.Goals as goal

pub returns : goal.returns
returns c =
    let valid = c.module-module.ensures.valid in
    c.is_method.ensures
    ∙ (ap (λ (m : Module). is_method m c.args.func) c.module-module.ensures.value
    ∙ method_runs valid.0 c.args.valid.now valid.1 c.args.func)
