-- What holds at the loops of `parts::check_exports`.
use Rattle.std.proofs.Common.{◌≡◌, ℕ, List, drop, take}
use Rattle.std.specs.BTreeSet.{contains}
use Rattle.std.specs.List.{list_any}
use Rattle.std.specs.Cmp.Lexicographic.{slice_cmp}
use Rattle.std.specs.Ordering.{nat_cmp}
use Rattle.nr_wasmvalid.specs.Parts.{outcome, each, export_asks, has_name}
use Rattle.nr_wasmvalid.proofs.parts.check_exports.Given as goal

abbrev pub invariant-loop-index : goal.invariant-loop-index
invariant-loop-index l = record {
  left : outcome (each (export_asks l.module l.funcs) l.index (drop l.index l.exports)) ≡ outcome (each (export_asks l.module l.funcs) 0 l.exports);
  seen : (q : List ℕ) → contains (slice_cmp nat_cmp) l.seen q ≡ list_any (has_name q) (take l.index l.exports);
}
