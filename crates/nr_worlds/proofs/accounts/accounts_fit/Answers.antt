-- The goals of `accounts::accounts_fit` that no tactic closes.
use Rattle.std.proofs.Common.{ℕ, List, ap, ◌∙◌}
use Rattle.std.specs.BTreeMap as tree
use Rattle.std.specs.Map.{count_at}
use Rattle.nr_columns.specs.Orders.{bytes_cmp}
use Rattle.nr_entries.specs.Counting.{owned_bytes}
use Rattle.nr_state.proofs.EntryWorlds.{if_ok}
use Rattle.nr_worlds.proofs.AccountsTold.{told_alike}
use Rattle.nr_worlds.proofs.accounts.accounts_fit.Goals as goal

pub returns : goal.returns
returns g c = if_ok c.each_entry_fits.result _ _ (λ fit e.
    e ∙ told_alike c.args.config.now c.args.columns.now.columns c.args.entries.now (λ (q : List ℕ). count_at (tree.get bytes_cmp c.in_ok-counts.counts) q)
    (λ q. c.in_ok-counts.ensures q ∙ ap (λ n. owned_bytes n c.args.entries.now q) c.entry.ensures.value)) c.each_entry_fits.ensures
