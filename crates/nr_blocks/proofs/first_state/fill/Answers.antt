-- The goals of `first_state::fill` that no tactic closes.
use Rattle.std.proofs.Common.{sym, subst}
use Rattle.nr_state.specs.Valid.{IsValidWorld}
use Rattle.nr_blocks.specs.Genesis.{entries_of}
use Rattle.nr_blocks.proofs.Filling.{filled_world}
use Rattle.nr_blocks.proofs.ValidFirst.{first_valid}
use Rattle.nr_blocks.proofs.first_state.fill.Goals as goal

pub returns-clause-world : goal.returns-clause-world
returns-clause-world g c =
    let genesis = c.args.genesis.now in
    filled_world (entries_of genesis.layout c.args.shard.0 genesis.entries) _ _ c.new-state.ensures.world c.in_ok-fill_entries.ensures

pub returns-clause-valid : goal.returns-clause-valid
returns-clause-valid g c = subst (IsValidWorld c.args.config.now) (sym (returns-clause-world g c)) (first_valid c.args.config.now c.args.genesis.now.entries c.requires.sound c.args.genesis.now.layout c.args.shard.0)
