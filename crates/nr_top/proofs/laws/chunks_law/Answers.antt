-- The goals of `laws::chunks_law` that no tactic closes.
use Rattle.nr_top.proofs.Named.{results_name}
use Rattle.nr_top.proofs.Present.{chunks_have_results}
use Rattle.nr_top.proofs.laws.chunks_law.Goals as goal

pub returns-clause-there : goal.returns-clause-there
returns-clause-there c = chunks_have_results

pub returns-clause-named : goal.returns-clause-named
returns-clause-named c = results_name
