-- The goals of `usage::access_length` that no tactic closes.
use Rattle.nr_state.proofs.KeyCosts.{full_length}
use Rattle.nr_state.proofs.usage.access_length.Goals as goal

pub returns-in-Full : goal.returns-in-Full
returns-in-Full c = full_length c.args.access.now c.in-Full.is
