-- What holds at the loops of `crew::run_in_turns`.
use Rattle.std.proofs.Common.{◌≡◌, vec_len}
use Rattle.nr_workers.specs.Each.{Each}
use Rattle.nr_workers.specs.Crew.{IsStartedAs}
use Rattle.nr_workers.proofs.crew.run_in_turns.Given as goal

abbrev pub invariant-loop : goal.invariant-loop
invariant-loop g l =
    (goal.iterator-loop g).can_next l.iterator' × (goal.iterator-loop g).is_finite l.iterator'
    × Each (IsStartedAs g.P.Phases.rules l.run.exchange.now) l.started.items × (vec_len l.started ≡ vec_len l.fn.started)
