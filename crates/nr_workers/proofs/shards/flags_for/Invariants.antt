-- What holds at the loops of `shards::flags_for`.
use Rattle.std.proofs.Common.{◌≡◌, vec_len}
use Rattle.nr_workers.proofs.shards.flags_for.Given as goal

abbrev pub invariant-loop-number : goal.invariant-loop-number
invariant-loop-number l = vec_len l.flags ≡ l._number
