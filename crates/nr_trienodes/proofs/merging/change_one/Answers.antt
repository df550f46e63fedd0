-- The goals of `merging::change_one` that no tactic closes.
use Rattle.std.proofs.Common.{◌+◌, ◌*◌, length}
use Rattle.nr_triedef.specs.Node.{nibbles}
use Rattle.nr_trienodes.proofs.Counts.{one_counted}
use Rattle.nr_trienodes.proofs.merging.change_one.Goals as goal

pub returns-clause-counted : goal.returns-clause-counted
returns-clause-counted c =
    one_counted c.args.nodes.now c.change_root.new.nodes c.args.from.root c.in_ok-root.root c.args.change.now.0 c.args.change.now.1 c.has_key-found.result (2 * length (nibbles c.args.change.now.0) + 3) c.args.from.count c.in_ok-count.count
    c.requires.count c.has_key-found.ensures c.in_ok-count.ensures c.in_ok-root.ensures.changed
