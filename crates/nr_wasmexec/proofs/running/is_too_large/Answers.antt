-- The goals of `running::is_too_large` that no tactic closes.
use Rattle.std.proofs.Common.{◌∙◌, ap, nat_lt}
use Rattle.std.specs.Prelude.{◌||◌}
use Rattle.nr_wasmexec.specs.Place.{whole_of}
use Rattle.nr_wasmexec.specs.Reduction.{frames_of}
use Rattle.nr_wasmexec.proofs.Turning.{frames_at, held_at}
use Rattle.nr_wasmexec.proofs.running.is_too_large.Goals as goal

pub returns : goal.returns
returns c =
    c.either.ensures ∙ (ap (λ n. nat_lt c.args.limits.max_frames n || nat_lt c.args.limits.max_values c.held.result) (c.frames.ensures ∙ frames_at c.args.thread.now)
    ∙ ap (λ n. nat_lt c.args.limits.max_frames (frames_of (whole_of c.args.thread.now).1) || nat_lt c.args.limits.max_values n) (c.held.ensures ∙ held_at c.args.thread.now))
