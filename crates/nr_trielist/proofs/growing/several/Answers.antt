-- The goals of `growing::several` that no tactic closes.
use Rattle.std.proofs.lemmas.Bool.{eqb-true}
use Rattle.std.proofs.Common.{◌≡◌, ◌<◌, ◌∷◌, ◌++◌, length, refl, subst, sym, ap, ◌∙◌, List, append-nil, arith}
use Rattle.nr_triedef.specs.Root.{Paths}
use Rattle.nr_store.specs.Tries.{Branching, whole}
use Rattle.nr_trielist.proofs.Listing.{Wait, not_full, smaller_given, smaller_begun, gained, gained_all, gained_none, listed_given, listed_begun, listed_closed, listed_last, listed_above}
use Rattle.nr_trielist.proofs.growing.several.Goals as goal

pub made-init : goal.made-init
made-init c = record {
  wait = subst (λ (w : List Branching). Wait w c.of-fork.result.keys c.args.keys) (sym c.new-above.ensures) c.of-fork.ensures.keys;
  listed = sym ((λ i. gained_all c.args.nodes.now.items (c.new-above.ensures i) ++ gained_none c.of-fork.result c.of-fork.ensures.made i) ∙ append-nil c.args.nodes.now.items);
}

pub returns-in-None-clause-top : goal.returns-in-None-clause-top
returns-in-None-clause-top c = c.in_ok-made.ensures.top ∙ ap whole (subst (λ (w : List Branching). Wait w c.made.fork.keys c.args.keys) c.in-None.ensures c.made.invariant.wait)

pub returns-in-None-clause-nodes : goal.returns-in-None-clause-nodes
returns-in-None-clause-nodes c =
    let full : length c.made.fork.made ≡ 16 = eqb-true (length c.made.fork.made) 16 (sym c.is_full.ensures.full ∙ c.if-is_full.true) in
    listed_last c.args.nodes.now.items c.close.new.nodes.items c.made.above c.made.fork.keys c.args.keys c.in-None.ensures (subst (λ (w : List Branching). Wait w c.made.fork.keys c.args.keys) c.in-None.ensures c.made.invariant.wait)
    (listed_closed c.args.nodes.now.items c.made.nodes.items c.close.new.nodes.items c.made.above c.made.fork full c.in_ok-made.ensures.list c.in_ok-made.ensures.nodes c.made.invariant.listed)

pub give-requires-clause-room : goal.give-requires-clause-room
give-requires-clause-room c =
    let waits : Wait (c.in-Some.parent ∷ c.pop.new.self) c.made.fork.keys c.args.keys = subst (λ (w : List Branching). Wait w c.made.fork.keys c.args.keys) c.in-Some.ensures c.made.invariant.wait in
    waits.0

pub give-requires-clause-next : goal.give-requires-clause-next
give-requires-clause-next c =
    let waits : Wait (c.in-Some.parent ∷ c.pop.new.self) c.made.fork.keys c.args.keys = subst (λ (w : List Branching). Wait w c.made.fork.keys c.args.keys) c.in-Some.ensures c.made.invariant.wait in
    c.in_ok-made.ensures.top ∙ ap whole waits.1

pub made-preserved-in_ok-give-in-Some : goal.made-preserved-in_ok-give-in-Some
made-preserved-in_ok-give-in-Some c =
    let full : length c.made.fork.made ≡ 16 = eqb-true (length c.made.fork.made) 16 (sym c.is_full.ensures.full ∙ c.if-is_full.true) in
    let waits : Wait (c.in-Some.parent ∷ c.pop.new.self) c.made.fork.keys c.args.keys = subst (λ (w : List Branching). Wait w c.made.fork.keys c.args.keys) c.in-Some.ensures c.made.invariant.wait in
    let closed = listed_closed c.args.nodes.now.items c.made.nodes.items c.close.new.nodes.items c.made.above c.made.fork full c.in_ok-made.ensures.list c.in_ok-made.ensures.nodes c.made.invariant.listed in
    let up = listed_above c.args.nodes.now.items c.close.new.nodes.items c.made.above c.pop.new.self c.in-Some.parent c.made.fork.keys c.in-Some.ensures closed in
    record {
      wait = subst (λ (k : Paths). Wait c.pop.new.self k c.args.keys) (sym c.in_ok-give-in-Some.ensures.keys) waits.2;
      listed = listed_given c.args.nodes.now.items (gained_all c.args.nodes.now.items c.pop.new.self ++ gained c.in-Some.parent) c.close.new.nodes.items c.pop.new.self c.in-Some.parent c.give.new.self _ c.made.fork.keys waits.0 c.in_ok-give-in-Some.ensures.keys c.in_ok-give-in-Some.ensures.made waits.1 up refl;
    }

pub made-smaller-in_ok-give : goal.made-smaller-in_ok-give
made-smaller-in_ok-give c =
    let room : length c.made.fork.made < 16 = not_full c.is_full.result (length c.made.fork.made) c.is_full.ensures.full c.if-is_full.false c.is_full.ensures.few in
    smaller_given c.made.above c.made.fork c.give-then-len-lt2.new.self c.in_ok-few.field-0 room c.in_ok-give.ensures.keys c.in_ok-give.ensures.made

pub made-preserved-in_ok-give : goal.made-preserved-in_ok-give
made-preserved-in_ok-give c =
    let room : length c.made.fork.made < 16 = not_full c.is_full.result (length c.made.fork.made) c.is_full.ensures.full c.if-is_full.false c.is_full.ensures.few in
    record {
      wait = subst (λ (k : Paths). Wait c.made.above k c.args.keys) (sym c.in_ok-give.ensures.keys) c.made.invariant.wait;
      listed = listed_given c.args.nodes.now.items c.made.nodes.items c.few.new.nodes.items c.made.above c.made.fork c.give-then-len-lt2.new.self c.in_ok-few.field-0 c.next-child.result room c.in_ok-give.ensures.keys c.in_ok-give.ensures.made c.next-child.ensures c.in_ok-few.ensures.nodes c.made.invariant.listed;
    }

pub made-smaller : goal.made-smaller
made-smaller c =
    let room : length c.made.fork.made < 16 = not_full c.is_full.result (length c.made.fork.made) c.is_full.ensures.full c.if-is_full.false c.is_full.ensures.few in
    smaller_begun c.made.above c.push.new.self c.made.fork c.of-fork-else-len-lt2.result c.next-child.result room c.next-child.ensures (omega arith) c.in_ok-push.ensures c.of-fork-else-len-lt2.ensures.keys c.of-fork-else-len-lt2.ensures.made

pub made-preserved : goal.made-preserved
made-preserved c =
    let room : length c.made.fork.made < 16 = not_full c.is_full.result (length c.made.fork.made) c.is_full.ensures.full c.if-is_full.false c.is_full.ensures.few in
    record {
      wait = subst (λ (w : List Branching). Wait w c.of-fork-else-len-lt2.result.keys c.args.keys) (sym c.in_ok-push.ensures) (room, c.of-fork-else-len-lt2.ensures.keys ∙ c.next-child.ensures, c.made.invariant.wait);
      listed = listed_begun c.args.nodes.now.items c.made.nodes.items c.made.above c.push.new.self c.made.fork c.of-fork-else-len-lt2.result c.in_ok-push.ensures c.of-fork-else-len-lt2.ensures.made c.made.invariant.listed;
    }
