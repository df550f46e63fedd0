-- What holds at the loops of `leb::read_more`.
use Rattle.std.proofs.Common.{◌≡◌, ◌+◌, ◌*◌, ◌^◌, ◌<◌, ◌≤◌, ◌∷◌, drop}
use Rattle.nr_wasmbin.specs.Leb.{number}
use Rattle.nr_wasmbin.proofs.OnLeb.{behind}
use Rattle.nr_wasmbin.proofs.leb.read_more.Given as goal

abbrev pub invariant-loop-index : goal.invariant-loop-index
invariant-loop-index l = record {
  reads : behind l.width l.low (l.index + 1) (number l.is_signed l.left (drop l.index l.others)) ≡ number l.is_signed l.bits (l.first ∷ l.others);
  spans : l.width * 2 ^ l.left ≡ 2 ^ l.bits;
  fits : l.low < l.width;
  some : 0 < l.left;
  few : l.left ≤ 64;
}
