-- The goals of `tally::flying` that no tactic closes.
use Rattle.std.proofs.Common.{◌≤◌, ◌^◌, sym, ap, subst, ◌∙◌}
use Rattle.std.specs.Option.{option_copied}
use Rattle.nr_chunk.specs.Chain.{AreBounded}
use Rattle.nr_state.specs.Tokens.{list_tokens}
use Rattle.nr_schedule.proofs.Standing.{bounded_list, small_list}
use Rattle.nr_schedule.proofs.tally.flying.Goals as goal

pub tally_list-requires-clause-bounded : goal.tally_list-requires-clause-bounded
tally_list-requires-clause-bounded g c =
    subst (λ p. AreBounded p.config c.in-Some.list.now) (sym c.phases.ensures)
    (bounded_list c.args.core.now c.requires.moment c.args.source.0 c.args.height.0 c.args.dest.0 c.in-Some.list.now c.requires.source (sym c.flight.ensures ∙ ap (λ o. option_copied o) c.in-Some.is))

pub tally_list-requires-clause-room : goal.tally_list-requires-clause-room
tally_list-requires-clause-room g c =
    subst (λ p. list_tokens p.config c.in-Some.list.now ≤ 2 ^ 127) (sym c.phases.ensures)
    (small_list c.args.core.now c.requires.moment c.args.source.0 c.args.height.0 c.args.dest.0 c.in-Some.list.now c.requires.source (sym c.flight.ensures ∙ ap (λ o. option_copied o) c.in-Some.is))
