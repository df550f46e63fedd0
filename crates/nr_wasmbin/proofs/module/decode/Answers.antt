-- The goals of `module::decode` that no tactic closes.
use Rattle.std.proofs.Common.{◌≤◌, length, sym, subst}
use Rattle.nr_wasmbin.proofs.ModuleLaws.{is_spelled, is_found}
use Rattle.nr_wasmbin.proofs.module.decode.Goals as goal

pub returns-clause-spelled : goal.returns-clause-spelled
returns-clause-spelled c = is_spelled _ _ _ c.read_bytes.ensures

pub returns-clause-found : goal.returns-clause-found
returns-clause-found c = λ m is few. is_found _ _ _ m c.read_bytes.ensures is (subst (λ n. length c.args.bytes.now ≤ n) (sym c.entry.ensures.value) few)
