-- The goals of `order::bytes_law` that no tactic closes.
use Rattle.std.proofs.Common.{◌≡◌, ◌-◌, ◌∷◌, drop, sym, subst, arith}
use Rattle.nr_entries.specs.Told.{AreBytes}
use Rattle.nr_entries.proofs.Counts.{front_of}
use Rattle.nr_entries.proofs.order.bytes_law.Goals as goal

pub loop-left-preserved : goal.loop-left-preserved
loop-left-preserved c =
    let es = c.args.entries.now in
    let n = c.loop-left.left in
    let e = c.index-entries-left.result in
    let front : drop (n - 1) es ≡ e ∷ drop n es = front_of es (n - 1) n e (omega (arith, c.loop-left.invariant.within, c.loop-left-test.true)) (omega (arith, c.loop-left-test.true)) c.index-entries-left.is in
    record {
      within = omega (arith, c.loop-left.invariant.within);
      known = subst AreBytes (sym front) (c.entry_bytes.ensures, c.loop-left.invariant.known);
    }
