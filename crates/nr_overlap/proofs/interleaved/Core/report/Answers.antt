-- The goals of `interleaved::Core::report` that no tactic closes.
use Rattle.std.proofs.Common.{◌≡◌, refl, ap, ◌∙◌, subst}
use Rattle.std.specs.Option.{option_copied}
use Rattle.nr_overlap.specs.Moment.{report_at}
use Rattle.nr_overlap.specs.Held.{row_report, entry}
use Rattle.nr_overlap.specs.CoreView.{CoreView}
use Rattle.nr_overlap.proofs.Showing.{report_shown}
use Rattle.nr_overlap.proofs.interleaved.Core.report.Goals as goal

pub returns : goal.returns
returns g c =
    let rules = g.P.Phases.rules in
    subst (λ (v : CoreView g.row.P.Denot). option_copied c.report_in_rows.result ≡ report_at (rules v.phases) v.positions c.args.shard.0 c.args.height.0) c.self.view_is
    (report_shown (rules c.self.inside.phases) c.self.inside.shards c.args.shard.0 c.args.height.0 (option_copied c.report_in_rows.result) c.self.inside.shards.positions.items c.self.invariant.0 (c.report_in_rows.ensures ∙ ap (λ t. row_report (entry t c.args.shard.0 c.args.height.0)) c.deref.ensures.value) refl)
