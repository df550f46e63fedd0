-- The goals of `following::look` that no tactic closes.
use Rattle.std.proofs.Common.{◌∙◌, ap}
use Rattle.nr_wasmtypes.specs.Code.{Code}
use Rattle.nr_trace.specs.Trail.{noted, trail_of}
use Rattle.nr_trace.specs.declared.trail.Way.{Way}
use Rattle.nr_trace.proofs.following.look.Goals as goal

pub returns : goal.returns
returns c =
    ap (λ (k : Code). noted k c.way_of-trail.result (trail_of c.follow.new.trail)) (c.of-trail.ensures ∙ c.code.ensures)
    ∙ (ap (λ (w : Way). noted c.args.thread.now.code w (trail_of c.follow.new.trail)) c.way_of-trail.ensures
    ∙ ap (noted c.args.thread.now.code _) c.in_ok-follow.ensures)
