-- The goals of `trie::several` that no tactic closes.
use Rattle.std.proofs.Common.{◌<◌, ◌∷◌, length, subst, sym, ap, ◌∙◌, List, rules}
use Rattle.nr_triedef.specs.Root.{Paths}
use Rattle.nr_store.specs.Tries.{Branching}
use Rattle.nr_remake.specs.Marks.{marked_whole}
use Rattle.nr_store.proofs.Waiting.{Wait, not_full, smaller_given, smaller_begun}
use Rattle.nr_remake.proofs.trie.several.Goals as goal

pub made-init : goal.made-init
made-init c = subst (λ (w : List Branching). Wait w c.in_ok-fork.fork.keys c.args.marks.items) (sym c.new-above.ensures) c.in_ok-fork.ensures.keys

pub returns-in-None : goal.returns-in-None
returns-in-None c = c.in_ok-made.ensures ∙ ap marked_whole (subst (λ (w : List Branching). Wait w c.made.fork.keys c.args.marks.items) c.in-None.ensures c.made.invariant)

pub give-requires-clause-room : goal.give-requires-clause-room
give-requires-clause-room c =
    let waits : Wait (c.in-Some.parent ∷ c.pop.new.self) c.made.fork.keys c.args.marks.items = subst (λ (w : List Branching). Wait w c.made.fork.keys c.args.marks.items) c.in-Some.ensures c.made.invariant in
    waits.0

pub give-requires-clause-next : goal.give-requires-clause-next
give-requires-clause-next c =
    let waits : Wait (c.in-Some.parent ∷ c.pop.new.self) c.made.fork.keys c.args.marks.items = subst (λ (w : List Branching). Wait w c.made.fork.keys c.args.marks.items) c.in-Some.ensures c.made.invariant in
    c.in_ok-made.ensures ∙ ap marked_whole waits.1

pub made-preserved-in_ok-give-in-Some : goal.made-preserved-in_ok-give-in-Some
made-preserved-in_ok-give-in-Some c =
    let waits : Wait (c.in-Some.parent ∷ c.pop.new.self) c.made.fork.keys c.args.marks.items = subst (λ (w : List Branching). Wait w c.made.fork.keys c.args.marks.items) c.in-Some.ensures c.made.invariant in
    subst (λ (k : Paths). Wait c.pop.new.self k c.args.marks.items) (sym c.in_ok-give-in-Some.ensures.keys) waits.2

pub made-smaller : goal.made-smaller
made-smaller c =
    let room : length c.made.fork.made < 16 = not_full c.is_full.result (length c.made.fork.made) c.is_full.ensures.full c.if-is_full.false c.is_full.ensures.few in
    smaller_begun c.made.above c.push.new.self c.made.fork c.in_ok-below.below c.in_ok-child.child.items room c.in_ok-child.ensures (search rules) c.in_ok-push.ensures c.in_ok-below.ensures.keys c.in_ok-below.ensures.made

pub made-preserved : goal.made-preserved
made-preserved c =
    let room : length c.made.fork.made < 16 = not_full c.is_full.result (length c.made.fork.made) c.is_full.ensures.full c.if-is_full.false c.is_full.ensures.few in
    subst (λ (w : List Branching). Wait w c.in_ok-below.below.keys c.args.marks.items) (sym c.in_ok-push.ensures) (room, c.in_ok-below.ensures.keys ∙ c.in_ok-child.ensures, c.made.invariant)

pub made-smaller-then-len-lt2 : goal.made-smaller-then-len-lt2
made-smaller-then-len-lt2 c =
    let room : length c.made.fork.made < 16 = not_full c.is_full.result (length c.made.fork.made) c.is_full.ensures.full c.if-is_full.false c.is_full.ensures.few in
    smaller_given c.made.above c.made.fork c.give-then-len-lt2.new.self c.in_ok-few.field-0 room c.in_ok-give.ensures.keys c.in_ok-give.ensures.made
