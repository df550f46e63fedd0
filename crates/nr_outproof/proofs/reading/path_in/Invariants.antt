-- What holds at the loops of `reading::path_in`.
use Rattle.std.proofs.Common.{◌≡◌, ◌+◌, ◌≤◌, length}
use Rattle.nr_outproof.specs.Texts.{path_from, pieces}
use Rattle.nr_outproof.proofs.TextLines.{behind}
use Rattle.nr_outproof.proofs.reading.path_in.Given as goal

-- the hashes so far, and those of what is left, are those of the whole
abbrev pub invariant-lines : goal.invariant-lines
invariant-lines l = record {
  told : behind l.path.items (path_from l.number (pieces 10 l.rest)) ≡ path_from 3 (pieces 10 l.fn.bytes);
  few : l.number + length l.rest ≤ length l.fn.bytes + 3;
}

abbrev pub decreases-lines : goal.decreases-lines
decreases-lines l = length l.rest
