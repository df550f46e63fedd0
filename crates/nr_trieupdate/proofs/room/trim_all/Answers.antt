-- The goals of `room::trim_all` that no tactic closes.
use Rattle.std.proofs.Common.{◌≤◌, length, refl, arith}
use Rattle.nr_trieupdate.proofs.Standing.{moved_first, moved_second, unmoved, few_nodes}
use Rattle.nr_trieupdate.proofs.room.trim_all.Goals as goal
use Rattle.nr_trieupdate.proofs.room.trim_all.Goals.{After-len-held}

-- each of the two roots has at most two nodes for each entry
few : (c : After-len-held) → length c.trim.new.self ≤ 536870912
few c = omega (arith, c.in_ok-trim.ensures.few, few_nodes c.args.nodes.now c.trim.new.self c.args.root.now c.args.draft.now c.trim.new.roots c.requires.root c.requires.draft c.in_ok-trim.ensures.ok)

pub trim-requires : goal.trim-requires
trim-requires c = (c.requires.root.root, (c.requires.draft.root, tt))

pub returns-in_err-trim-clause-root : goal.returns-in_err-trim-clause-root
returns-in_err-trim-clause-root c = unmoved c.args.nodes.now c.trim.new.self c.args.root.now c.requires.root.root c.in_err-trim.ensures.err

pub returns-in_err-trim-clause-draft : goal.returns-in_err-trim-clause-draft
returns-in_err-trim-clause-draft c = unmoved c.args.nodes.now c.trim.new.self c.args.draft.now c.requires.draft.root c.in_err-trim.ensures.err

pub overflow_add-held : goal.overflow_add-held
overflow_add-held c = omega (arith, few c, c.len-held.ensures)

pub overflow_add-held-2 : goal.overflow_add-held-2
overflow_add-held-2 c = omega (arith, few c, c.len-held.ensures)

pub limits_of-requires-clause-all : goal.limits_of-requires-clause-all
limits_of-requires-clause-all c = omega (arith, few c, c.len-held.ensures)

pub returns-clause-root : goal.returns-clause-root
returns-clause-root c = moved_first c.args.nodes.now c.trim.new.self c.args.root.now c.args.draft.now _ c.trim.new.roots c.in_ok-trim.ensures.ok refl

pub returns-clause-draft : goal.returns-clause-draft
returns-clause-draft c = moved_second c.args.nodes.now c.trim.new.self c.args.root.now c.args.draft.now _ c.trim.new.roots c.in_ok-trim.ensures.ok refl

pub returns-clause-room : goal.returns-clause-room
returns-clause-room c =
    let most = few_nodes c.args.nodes.now c.trim.new.self c.args.root.now c.args.draft.now c.trim.new.roots c.requires.root c.requires.draft c.in_ok-trim.ensures.ok in
    omega (arith, c.in_ok-trim.ensures.few, most)
