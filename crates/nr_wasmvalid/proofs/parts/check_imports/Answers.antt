-- The goals of `parts::check_imports` that no tactic closes.
use Rattle.std.proofs.Common.{List, sym, ap, ◌∙◌, arith}
use Rattle.std.proofs.lemmas.Result.{err_from_is_err_and}
use Rattle.nr_wasmtypes.specs.declared.module.FuncType.{FuncType}
use Rattle.nr_wasmtypes.specs.declared.module.Import.{Import}
use Rattle.nr_wasmvalid.specs.Parts.{outcome, each, import_asks}
use Rattle.nr_wasmvalid.proofs.OnParts.{entry_unmet}
use Rattle.nr_wasmvalid.proofs.parts.check_imports.Goals as goal

pub returns-in_err-check_import : goal.returns-in_err-check_import
returns-in_err-check_import c =
    let p = err_from_is_err_and c.from_residual.result c.from_residual.ensures.1 in
    let types = c.args.module.now.types in
    let xs = c.inner-imports.result.now in
    let x = c.index-imports-index.result in
    rw (p.1, p.2) (λ other.
    sym (ap (λ (is : List Import). outcome (each (import_asks types) 0 is)) c.inner-imports.ensures)
    ∙ entry_unmet (import_asks types) xs c.loop-index.index x _ _ (omega arith) c.index-imports-index.is
    (ap (λ (ts : List FuncType). outcome (import_asks ts c.loop-index.index x)) (sym c.inner.ensures) ∙ c.in_err-check_import.ensures other) c.loop-index.invariant)
