-- The goals of `laws::call_laws` that no tactic closes.
use Rattle.nr_call_laws.proofs.Keeping.{chunk_keeps, open_keeps, seal_keeps, take_keeps}
use Rattle.nr_call_laws.proofs.laws.call_laws.Goals as goal

pub returns-clause-opens : goal.returns-clause-opens
returns-clause-opens c = open_keeps

pub returns-clause-takes : goal.returns-clause-takes
returns-clause-takes c = take_keeps

pub returns-clause-seals : goal.returns-clause-seals
returns-clause-seals c = seal_keeps

pub returns-clause-chunk : goal.returns-clause-chunk
returns-clause-chunk c = chunk_keeps
