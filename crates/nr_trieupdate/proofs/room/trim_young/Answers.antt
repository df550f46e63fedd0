-- The goals of `room::trim_young` that no tactic closes.
use Rattle.std.proofs.Common.{refl}
use Rattle.nr_trieupdate.proofs.Standing.{moved_first, moved_second, unmoved}
use Rattle.nr_trieupdate.proofs.room.trim_young.Goals as goal

pub trim_young-requires : goal.trim_young-requires
trim_young-requires c = (c.requires.root, (c.requires.draft, tt))

pub returns-in_err-trim_young-clause-root : goal.returns-in_err-trim_young-clause-root
returns-in_err-trim_young-clause-root c = unmoved c.args.nodes.now c.trim_young.new.self c.args.root.now c.requires.root c.in_err-trim_young.ensures.err

pub returns-in_err-trim_young-clause-draft : goal.returns-in_err-trim_young-clause-draft
returns-in_err-trim_young-clause-draft c = unmoved c.args.nodes.now c.trim_young.new.self c.args.draft.now c.requires.draft c.in_err-trim_young.ensures.err

pub returns-clause-root : goal.returns-clause-root
returns-clause-root c = moved_first c.args.nodes.now c.trim_young.new.self c.args.root.now c.args.draft.now _ c.trim_young.new.roots c.in_ok-trim_young.ensures.ok refl

pub returns-clause-draft : goal.returns-clause-draft
returns-clause-draft c = moved_second c.args.nodes.now c.trim_young.new.self c.args.root.now c.args.draft.now _ c.trim_young.new.roots c.in_ok-trim_young.ensures.ok refl
