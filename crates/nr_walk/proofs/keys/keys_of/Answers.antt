-- The goals of `keys::keys_of` that no tactic closes.
use Rattle.std.proofs.Common.{List, ap, ◌∙◌, arith}
use Rattle.std.proofs.lemmas.List.{take_all}
use Rattle.nr_triedef.specs.Root.{paths}
use Rattle.nr_columns.specs.declared.entry.Entry.{Entry}
use Rattle.nr_columns.specs.Entries.{pairs_of}
use Rattle.nr_walk.proofs.Orders.{walk_pairs}
use Rattle.nr_walk.proofs.keys.keys_of.Goals as goal

pub returns-clause-order : goal.returns-clause-order
returns-clause-order c =
    walk_pairs c.args.entries.now c.loop-entry.keys.items
    (c.loop-entry.invariant.value ∙ ap (λ (l : List Entry). paths (pairs_of l)) (take_all c.loop-entry.entry-index c.args.entries.now (omega arith))) c.requires c.loop-entry.invariant.small
