-- The goals of `merging::change_several` that no tactic closes.
use Rattle.nr_trienodes.proofs.Merged.{is_merged, is_counted, merges_named, merged_few}
use Rattle.nr_trienodes.proofs.merging.change_several.Goals as goal

pub returns-in-Ok-clause-merged : goal.returns-in-Ok-clause-merged
returns-in-Ok-clause-merged c =
    let merges = merges_named c.args.nodes.now c.merge_from-changed.new.nodes c.number_of.result c.in-Ok.id c.args.from.root c.named.result c.args.changes.now c.args.from.count c.merge_from-changed.new.count c.number_of.ensures c.named.ensures c.in-Ok.ensures.merges in
    is_merged c.args.nodes.now c.merge_from-changed.new.nodes c.args.from.root c.named.result c.args.changes.now c.args.from.count c.merge_from-changed.new.count c.count-held.ensures.sound c.count-count.ensures.sound c.requires.root c.requires.several merges

pub returns-in-Ok-clause-counted : goal.returns-in-Ok-clause-counted
returns-in-Ok-clause-counted c =
    let merges = merges_named c.args.nodes.now c.merge_from-changed.new.nodes c.number_of.result c.in-Ok.id c.args.from.root c.named.result c.args.changes.now c.args.from.count c.merge_from-changed.new.count c.number_of.ensures c.named.ensures c.in-Ok.ensures.merges in
    is_counted c.args.nodes.now c.merge_from-changed.new.nodes c.args.from.root c.named.result c.args.changes.now c.args.from.count c.merge_from-changed.new.count c.count-held.ensures.sound c.count-count.ensures.sound c.requires.root c.requires.several c.requires.count merges

pub returns-in-Ok-clause-few : goal.returns-in-Ok-clause-few
returns-in-Ok-clause-few c =
    merged_few c.args.nodes.now c.merge_from-changed.new.nodes c.number_of.result c.in-Ok.id c.args.changes.now c.args.from.count c.merge_from-changed.new.count c.requires.several c.in-Ok.ensures.merges
