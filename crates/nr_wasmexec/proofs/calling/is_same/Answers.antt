-- The goals of `calling::is_same` that no tactic closes.
use Rattle.nr_wasmexec.proofs.Signatures.{decides_same}
use Rattle.nr_wasmexec.proofs.calling.is_same.Goals as goal

pub returns : goal.returns
returns c = decides_same c.is.result c.args.sig.now c.args.other.now c.is.ensures
