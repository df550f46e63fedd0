-- What holds at the loops of `left::Left::new`.
use Rattle.std.proofs.Common.{◌≡◌, ℕ, None, length}
use Rattle.nr_workers.specs.Left.{list_in}
use Rattle.nr_workers.proofs.left.Left.new.Given as goal

abbrev pub invariant-loop-source : goal.invariant-loop-source
invariant-loop-source g l = record {
  all : length l.rows.items ≡ l._source;
  none : (t h : ℕ) → list_in l.rows.items t h ≡ None;
}
