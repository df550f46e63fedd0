-- What holds at the loops of `functions::imported_types`.
use Rattle.std.proofs.Common.{◌≡◌, ◌++◌, drop}
use Rattle.nr_wasmvalid.specs.Parts.{imported_types}
use Rattle.nr_wasmvalid.proofs.functions.imported_types.Given as goal

abbrev pub invariant-loop-import : goal.invariant-loop-import
invariant-loop-import l = l.types.items ++ imported_types (drop l.import-index l.imports) ≡ imported_types l.imports
