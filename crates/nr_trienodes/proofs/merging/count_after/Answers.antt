-- The goals of `merging::count_after` that no tactic closes.
use Rattle.std.proofs.Common.{ap, sym, ◌∙◌}
use Rattle.std.specs.Option.{option_copied}
use Rattle.nr_trienodes.specs.Merging.{Changing}
use Rattle.nr_trienodes.proofs.Counts.{counts_with, counts_without}
use Rattle.nr_trienodes.proofs.merging.count_after.Goals as goal

pub returns-in-None : goal.returns-in-None
returns-in-None c =
    counts_without c.args.change.now.0 c.args.change.now.1 c.args.found c.args.count c.count_without.result (ap (λ (d : Changing). d.1) (sym c.change.view_is) ∙ ap option_copied c.in-None.is) c.count_without.ensures

pub returns-in_ok-after-in-Some : goal.returns-in_ok-after-in-Some
returns-in_ok-after-in-Some c =
    counts_with c.args.change.now.0 c.args.change.now.1 _ c.args.found c.args.count c.in_ok-after-in-Some.after (ap (λ (d : Changing). d.1) (sym c.change.view_is) ∙ ap option_copied c.in-Some.is) c.in_ok-after-in-Some.ensures
