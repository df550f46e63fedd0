-- What holds at the loops of `accounts::each_entry_fits`.
use Rattle.std.proofs.Common.{◌≡◌, length, ℕ, List}
use Rattle.std.specs.BTreeMap as tree
use Rattle.std.specs.List.{list_all}
use Rattle.std.specs.Map.{count_at}
use Rattle.nr_columns.specs.Orders.{bytes_cmp}
use Rattle.nr_columns.specs.declared.entry.Entry.{Entry}
use Rattle.nr_worlds.specs.Tests.{entry_fits}
use Rattle.nr_worlds.proofs.accounts.each_entry_fits.Given as goal

abbrev pub invariant-loop-rest : goal.invariant-loop-rest
invariant-loop-rest g l =
    list_all (λ (e : Entry). entry_fits l.config l.columns.columns (λ (q : List ℕ). count_at (tree.get bytes_cmp l.counts) q) e.key e.value) l.rest
    ≡ list_all (λ (e : Entry). entry_fits l.config l.columns.columns (λ (q : List ℕ). count_at (tree.get bytes_cmp l.counts) q) e.key e.value) l.fn.entries

abbrev pub decreases-loop-rest : goal.decreases-loop-rest
decreases-loop-rest g l = length l.rest
