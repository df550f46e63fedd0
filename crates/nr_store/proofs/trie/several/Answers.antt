-- The goals of `trie::several` that no tactic closes.
use Rattle.std.proofs.Common.{◌<◌, ◌∷◌, length, subst, sym, ap, ◌∙◌, List, arith}
use Rattle.nr_triedef.specs.Root.{Paths}
use Rattle.nr_store.specs.Tries.{Branching, whole}
use Rattle.nr_store.proofs.Waiting.{Wait, not_full, smaller_given, smaller_begun}
use Rattle.nr_store.proofs.trie.several.Goals as goal

pub made-init : goal.made-init
made-init g c = subst (λ (w : List Branching). Wait w c.of-fork.result.keys c.args.keys) (sym c.new-above.ensures) c.of-fork.ensures.keys

pub returns-in-None : goal.returns-in-None
returns-in-None g c = c.in_ok-made.ensures ∙ ap whole (subst (λ (w : List Branching). Wait w c.made.fork.keys c.args.keys) c.in-None.ensures c.made.invariant)

pub give-requires-clause-room : goal.give-requires-clause-room
give-requires-clause-room g c =
    let waits : Wait (c.in-Some.parent ∷ c.pop.new.self) c.made.fork.keys c.args.keys = subst (λ (w : List Branching). Wait w c.made.fork.keys c.args.keys) c.in-Some.ensures c.made.invariant in
    waits.0

pub give-requires-clause-next : goal.give-requires-clause-next
give-requires-clause-next g c =
    let waits : Wait (c.in-Some.parent ∷ c.pop.new.self) c.made.fork.keys c.args.keys = subst (λ (w : List Branching). Wait w c.made.fork.keys c.args.keys) c.in-Some.ensures c.made.invariant in
    c.in_ok-made.ensures ∙ ap whole waits.1

pub made-preserved-in_ok-give-in-Some : goal.made-preserved-in_ok-give-in-Some
made-preserved-in_ok-give-in-Some g c =
    let waits : Wait (c.in-Some.parent ∷ c.pop.new.self) c.made.fork.keys c.args.keys = subst (λ (w : List Branching). Wait w c.made.fork.keys c.args.keys) c.in-Some.ensures c.made.invariant in
    subst (λ (k : Paths). Wait c.pop.new.self k c.args.keys) (sym c.in_ok-give-in-Some.ensures.keys) waits.2

pub made-smaller-in_ok-give : goal.made-smaller-in_ok-give
made-smaller-in_ok-give g c =
    let room : length c.made.fork.made < 16 = not_full c.is_full.result (length c.made.fork.made) c.is_full.ensures.full c.if-is_full.false c.is_full.ensures.few in
    smaller_given c.made.above c.made.fork c.give-then-len-lt2.new.self c.in_ok-few.field-0 room c.in_ok-give.ensures.keys c.in_ok-give.ensures.made

pub made-preserved-in_ok-give : goal.made-preserved-in_ok-give
made-preserved-in_ok-give g c = subst (λ (k : Paths). Wait c.made.above k c.args.keys) (sym c.in_ok-give.ensures.keys) c.made.invariant

pub made-smaller : goal.made-smaller
made-smaller g c =
    let room : length c.made.fork.made < 16 = not_full c.is_full.result (length c.made.fork.made) c.is_full.ensures.full c.if-is_full.false c.is_full.ensures.few in
    smaller_begun c.made.above c.push.new.self c.made.fork c.of-fork-else-len-lt2.result c.next-child.result room c.next-child.ensures (omega arith) c.in_ok-push.ensures c.of-fork-else-len-lt2.ensures.keys c.of-fork-else-len-lt2.ensures.made

pub made-preserved : goal.made-preserved
made-preserved g c =
    let room : length c.made.fork.made < 16 = not_full c.is_full.result (length c.made.fork.made) c.is_full.ensures.full c.if-is_full.false c.is_full.ensures.few in
    subst (λ (w : List Branching). Wait w c.of-fork-else-len-lt2.result.keys c.args.keys) (sym c.in_ok-push.ensures) (room, c.of-fork-else-len-lt2.ensures.keys ∙ c.next-child.ensures, c.made.invariant)
