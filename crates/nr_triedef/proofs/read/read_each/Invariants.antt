-- What holds at the loops of `read::read_each`.
use Rattle.std.proofs.Common.{◌≡◌, ◌-◌, length, take}
use Rattle.nr_triedef.specs.Reading.{each_at}
use Rattle.nr_bytes.proofs.Items.{with_front}
use Rattle.nr_triedef.proofs.read.read_each.Given as goal

abbrev pub invariant-loop-i : goal.invariant-loop-i
invariant-loop-i l = record {
  so_far : with_front (take l.i l.children) (each_at (16 - l.i) l.bits l.reader) ≡ each_at 16 l.fn.bits l.initial.reader;
  full : length l.children ≡ 16;
}
