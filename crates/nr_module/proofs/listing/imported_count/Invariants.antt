-- What holds at the loops of `listing::imported_count`.
use Rattle.std.proofs.Common.{◌≡◌, ◌≤◌, take}
use Rattle.std.specs.Prelude.{count_by}
use Rattle.nr_wasmtypes.specs.declared.module.Import.{Import}
use Rattle.nr_module.specs.Listing.{is_function}
use Rattle.nr_module.proofs.listing.imported_count.Given as goal

abbrev pub invariant-loop-import : goal.invariant-loop-import
invariant-loop-import l =
    (l.count ≡ count_by (λ (i : Import). is_function i.kind) (take l.import-index l.module.imports))
    × (l.count ≤ l.import-index)
