-- The goals of `laws::running_law` that no tactic closes.
use Rattle.nr_chunk.specs.Runs.{chain_in}
use Rattle.nr_settle.proofs.Moments.{holds_while_running}
use Rattle.nr_settle.proofs.laws.running_law.Goals as goal

pub returns : goal.returns
returns g c = record { running = holds_while_running c.args.run.now (λ x. chain_in x.chain) }
