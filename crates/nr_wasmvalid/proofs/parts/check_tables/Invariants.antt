-- What holds at the loops of `parts::check_tables`.
use Rattle.std.proofs.Common.{◌≡◌, drop}
use Rattle.nr_wasmvalid.specs.Parts.{outcome, each, table_asks}
use Rattle.nr_wasmvalid.proofs.parts.check_tables.Given as goal

abbrev pub invariant-loop-index : goal.invariant-loop-index
invariant-loop-index l = outcome (each (table_asks) l.index (drop l.index l.tables)) ≡ outcome (each (table_asks) 0 l.tables)
