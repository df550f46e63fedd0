-- The goals of `proving::prove` that no tactic closes.
use Rattle.nr_outproof.proofs.Accepting.{answer_accepted}
use Rattle.nr_outproof.proofs.proving.prove.Goals as goal

pub returns-clause-accepted : goal.returns-clause-accepted
returns-clause-accepted c = answer_accepted _ c.args.chunk.now c.args.kind c.args.place c.proof_at.ensures
