-- The goals of `gathering::supply_of` that no tactic closes.
use Rattle.std.proofs.Common.{sym, ◌∙◌}
use Rattle.nr_audit.proofs.gathering.supply_of.Goals as goal

pub returns : goal.returns
returns c = c.requires.tokens ∙ sym (c.genesis_laws.ensures.supply c.args.config.now c.args.genesis.now c.requires.entries)
