-- The goals of `offer::has_type` that no tactic closes.
use Rattle.std.proofs.Common.{◌∙◌, ap}
use Rattle.nr_wasmexec.proofs.Signatures.{decides_same}
use Rattle.nr_wasmtypes.specs.declared.module.FuncType.{FuncType}
use Rattle.nr_wasmvalid.specs.Parts.{same_sig}
use Rattle.nr_module.proofs.offer.has_type.Goals as goal

pub returns : goal.returns
returns c =
    decides_same c.is.result c.args.sig.now c.in_ok-of_host.of_host c.is.ensures
    ∙ ap (λ (t : FuncType). same_sig c.args.sig.now t) c.in_ok-of_host.ensures
