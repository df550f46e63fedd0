-- The goals of `way::top` that no tactic closes.
use Rattle.std.proofs.Common.{◌∙◌, List, ap, ℕ}
use Rattle.nr_trace.specs.Trail.{top}
use Rattle.nr_trace.proofs.OnTrails.{least_top}
use Rattle.nr_trace.proofs.way.top.Goals as goal

pub returns : goal.returns
returns c =
    c.first_of.ensures ∙ (ap (λ (vs : List ℕ). top vs) c.args-topmost.ensures ∙ least_top c.args.thread.now.values c.count.result c.min-some.result c.count.ensures c.min-some.ensures)
