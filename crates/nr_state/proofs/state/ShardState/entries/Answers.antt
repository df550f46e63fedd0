-- The goals of `state::ShardState::entries` that no tactic closes.
use Rattle.std.proofs.Common.{◌≡◌, IfOk, sym, subst}
use Rattle.std.specs.FinMap as map
use Rattle.nr_columns.specs.Columns.{laid_columns}
use Rattle.nr_columns.specs.Entries.{pairs_of}
use Rattle.nr_state.specs.FromEntries.{AreWholeEntries, world_from}
use Rattle.nr_state.proofs.EntryWorlds.{if_ok, whole_entries, world_again}
use Rattle.nr_state.proofs.WholeStates.{flat_here}
use Rattle.nr_state.proofs.state.ShardState.entries.Goals as goal

pub returns-clause-entries : goal.returns-clause-entries
returns-clause-entries g c = subst (λ m. IfOk c.entries.result (λ found. pairs_of found ≡ map.entries m)) (sym (flat_here _ _ _ _ c.self.view_is c.requires c.self.invariant)) c.entries.ensures

pub returns-clause-whole : goal.returns-clause-whole
returns-clause-whole g c =
    if_ok c.entries.result (λ found. pairs_of found ≡ map.entries (laid_columns c.self.inside.columns.columns)) AreWholeEntries
    (λ found are. whole_entries _ _ _ _ found c.self.view_is c.self.invariant c.laid_laws.ensures.here c.requires are) c.entries.ensures

pub returns-clause-world : goal.returns-clause-world
returns-clause-world g c =
    if_ok c.entries.result (λ found. pairs_of found ≡ map.entries (laid_columns c.self.inside.columns.columns)) (λ found. world_from found ≡ c.args.self.now.world)
    (λ found are. world_again _ _ _ _ found c.self.view_is c.laid_laws.ensures.here are) c.entries.ensures
