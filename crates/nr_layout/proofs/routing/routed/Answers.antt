-- The goals of `routing::routed` that no tactic closes.
use Rattle.std.proofs.Common.{◌∙◌, arith}
use Rattle.nr_layout.proofs.Parts.{one_shard}
use Rattle.nr_layout.proofs.routing.routed.Goals as goal

pub returns-then-boundaries-eq0 : goal.returns-then-boundaries-eq0
returns-then-boundaries-eq0 c = c.in_ok-lists.ensures ∙ one_shard c.args.boundaries.now c.args.list.items (omega arith)
