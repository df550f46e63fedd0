-- The goals of `laws::conversion_laws` that no tactic closes.
use Rattle.nr_txconvert.proofs.Paying.{conversion_pays}
use Rattle.nr_txconvert.proofs.laws.conversion_laws.Goals as goal

pub returns : goal.returns
returns c = λ config w tx place after made valid is. conversion_pays c.valid_world_laws.ensures.kept c.token_laws.ensures config w tx place after made valid is
