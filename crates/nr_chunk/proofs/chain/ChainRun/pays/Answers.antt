-- The goals of `chain::ChainRun::pays` that no tactic closes.
use Rattle.nr_chunk.proofs.chain.ChainRun.pays.Goals as goal

pub returns : goal.returns
returns g c = λ w tx place after made valid e. c.conversion_laws.ensures c.args.self.now.config w tx place after made valid e
