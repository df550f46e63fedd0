-- The goals of `valid::running_laws` that no tactic closes.
use Rattle.nr_wasmvalid.proofs.Safe.{never_stuck}
use Rattle.nr_wasmvalid.proofs.valid.running_laws.Goals as goal

pub returns-clause-goes_on : goal.returns-clause-goes_on
returns-clause-goes_on w = never_stuck
