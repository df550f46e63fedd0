-- What holds at the loops of `crew::step_each`.
use Rattle.std.proofs.Common.{◌≡◌, vec_len}
use Rattle.nr_workers.specs.Each.{Each}
use Rattle.nr_workers.specs.Crew.{IsStartedAs}
use Rattle.nr_workers.proofs.crew.step_each.Given as goal

abbrev pub invariant-loop-i : goal.invariant-loop-i
invariant-loop-i g l = record {
  sound : Each (IsStartedAs g.P.Phases.rules l.run.exchange.now) l.started.items;
  long : vec_len l.started ≡ l.i-end;
  same : vec_len l.started ≡ vec_len l.fn.started;
}
