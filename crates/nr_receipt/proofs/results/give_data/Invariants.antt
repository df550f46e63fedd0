-- What holds at the loops of `results::give_data`.
use Rattle.std.proofs.Common.{◌≡◌, drop, fold}
use Rattle.nr_receipt.specs.Drawing.{with_datum, with_data}
use Rattle.nr_receipt.proofs.results.give_data.Given as goal

abbrev pub invariant-loop-index : goal.invariant-loop-index
invariant-loop-index l = record {
  left : fold (with_datum l.bytes) l.frame (drop l.index l.initial.frame.act.outputs) ≡ with_data l.bytes l.initial.frame;
  act : l.frame.act ≡ l.initial.frame.act;
}
