-- What holds at the loops of `reaching::have_published`.
use Rattle.std.proofs.Common.{ℕ, ◌<◌, ◌≤◌}
use Rattle.nr_overlap.specs.Positions.{at}
use Rattle.nr_extract.proofs.reaching.have_published.Given as goal

abbrev pub invariant-loop-shard : goal.invariant-loop-shard
invariant-loop-shard g l = (s : ℕ) → s < l.shard → l.height.0 ≤ (at l.core.positions s).number
