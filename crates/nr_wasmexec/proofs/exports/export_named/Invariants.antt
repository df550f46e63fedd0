-- What holds at the loops of `exports::export_named`.
use Rattle.std.proofs.Common.{◌≡◌, drop}
use Rattle.std.specs.Prelude.{find}
use Rattle.std.specs.Str.{bytes_eq}
use Rattle.nr_wasmtypes.specs.declared.module.Export.{Export}
use Rattle.nr_wasmexec.proofs.exports.export_named.Given as goal

abbrev pub invariant-loop-export : goal.invariant-loop-export
invariant-loop-export l = find (λ (e : Export). bytes_eq e.name l.name) (drop l.export-index l.exports) ≡ find (λ (e : Export). bytes_eq e.name l.name) l.exports
