-- The goals of `crossing::resumed` that no tactic closes.
use Rattle.std.proofs.Common.{ap, ◌∙◌}
use Rattle.nr_cut.specs.Cut.{carried}
use Rattle.nr_course.proofs.Ends.{resumes}
use Rattle.nr_course.proofs.crossing.resumed.Goals as goal

pub returns : goal.returns
returns c =
    λ x is can last left behind.
    resumes x is can c.args.layout c.args.below c.in_ok-worlds.worlds c.in_ok-carried.carried c.args.worlds.now
    c.in_ok-entries.entries c.args.left last c.in_ok-entries.ensures.worlds left c.in_ok-worlds.ensures.whole
    c.in_ok-worlds.ensures.worlds (c.in_ok-carried.ensures ∙ ap (carried c.args.layout) c.in_ok-lists.ensures) behind
