-- What holds at the loops of `pricing::method_bytes`.
use Rattle.std.proofs.Common.{◌≡◌, ◌≤◌, ◌*◌, ◌^◌, take}
use Rattle.nr_fees.specs.Fees.{method_bytes}
use Rattle.nr_fees.proofs.pricing.method_bytes.Given as goal

abbrev pub invariant-loop-method : goal.invariant-loop-method
invariant-loop-method l = record {
  counted : l.bytes ≡ method_bytes (take l.method-index l.methods);
  small : l.bytes ≤ 2 ^ 64 * l.method-index;
}
