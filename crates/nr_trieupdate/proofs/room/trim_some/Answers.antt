-- The goals of `room::trim_some` that no tactic closes.
use Rattle.nr_trieupdate.proofs.Standing.{both_moved, few_moved}
use Rattle.nr_trieupdate.proofs.room.trim_some.Goals as goal

pub trim_young-requires-clause-root : goal.trim_young-requires-clause-root
trim_young-requires-clause-root c = c.requires.root.root

pub trim_young-requires-clause-draft : goal.trim_young-requires-clause-draft
trim_young-requires-clause-draft c = c.requires.draft.root

pub trim_all-requires-clause-root : goal.trim_all-requires-clause-root
trim_all-requires-clause-root c = few_moved c.args.nodes.now c.trim_young.new.nodes c.args.root.now c.trim_young.new.root c.requires.root c.trim_young.ensures.root

pub trim_all-requires-clause-draft : goal.trim_all-requires-clause-draft
trim_all-requires-clause-draft c = few_moved c.args.nodes.now c.trim_young.new.nodes c.args.draft.now c.trim_young.new.draft c.requires.draft c.trim_young.ensures.draft

pub returns-clause-root : goal.returns-clause-root
returns-clause-root c = both_moved c.args.nodes.now c.trim_young.new.nodes c.trim_all.new.nodes c.args.root.now c.trim_young.new.root c.trim_all.new.root c.trim_young.ensures.root c.trim_all.ensures.root

pub returns-clause-draft : goal.returns-clause-draft
returns-clause-draft c = both_moved c.args.nodes.now c.trim_young.new.nodes c.trim_all.new.nodes c.args.draft.now c.trim_young.new.draft c.trim_all.new.draft c.trim_young.ensures.draft c.trim_all.ensures.draft
