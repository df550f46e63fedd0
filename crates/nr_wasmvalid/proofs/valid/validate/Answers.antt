-- The goals of `valid::validate` that no tactic closes.
use Rattle.std.proofs.Common.{Ok, Err, Result, refl, subst}
use Rattle.std.proofs.lemmas.Result.{err_from_is_err_and}
use Rattle.nr_config.specs.Config.{max_pages}
use Rattle.nr_wasmtypes.specs.declared.module.Module.{Module}
use Rattle.nr_wasmvalid.specs.declared.fault.ValidFault.{ValidFault}
use Rattle.nr_wasmvalid.specs.Modules.{IsValid, IsFirstBreach}
use Rattle.nr_wasmvalid.proofs.Whole.{gives_valid, gives_breach}
use Rattle.nr_wasmvalid.proofs.valid.validate.Goals as goal

abbrev passed : Module → Result Module ValidFault
passed m = Ok m

pub returns-in_err-check_module-clause-valid : goal.returns-in_err-check_module-clause-valid
returns-in_err-check_module-clause-valid c =
    let p = err_from_is_err_and c.from_residual.result c.from_residual.ensures.1 in
    let e = c.in_err-check_module.field-0.0 in
    rw (p.1, p.2) (gives_valid (max_pages c.args.config.now) c.args.module (Err e)
    (λ other. subst (λ n. IsFirstBreach n c.args.module e) c.entry.ensures.value (c.in_err-check_module.ensures other)))

pub returns-in_err-check_module-clause-breach : goal.returns-in_err-check_module-clause-breach
returns-in_err-check_module-clause-breach c =
    let p = err_from_is_err_and c.from_residual.result c.from_residual.ensures.1 in
    let e = c.in_err-check_module.field-0.0 in
    rw (p.1, p.2) (λ f b. gives_breach (max_pages c.args.config.now) c.args.module (Err e) f
    (λ other. subst (λ n. IsFirstBreach n c.args.module e) c.entry.ensures.value (c.in_err-check_module.ensures other)) b)

pub returns-clause-breach : goal.returns-clause-breach
returns-clause-breach c = λ e b.
    gives_breach (max_pages c.args.config.now) c.args.module (passed c.args.module) e (refl, subst (λ n. IsValid n c.args.module) c.entry.ensures.value c.in_ok-check_module.ensures) b
