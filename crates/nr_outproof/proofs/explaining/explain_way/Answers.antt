-- The goals of `explaining::explain_way` that no tactic closes.
use Rattle.std.proofs.Common.{◌≡◌, ◌∙◌, rules}
use Rattle.nr_outproof.specs.Tree.{leaf_top, leaf_text}
use Rattle.nr_outproof.proofs.FalseProofs.{leaf_collides, own_long_at, own_leads_at, explained_at}
use Rattle.nr_outproof.proofs.explaining.explain_way.Goals as goal

pub returns-then-eq : goal.returns-then-eq
returns-then-eq c =
    let q = c.requires in
    let first : c.in_ok-text.text ≡ leaf_text c.args.proof.now.item = search rules in
    let second : c.in_ok-own_text.own_text ≡ leaf_text c.args.item.now = search rules in
    let same : leaf_top c.args.proof.now.item ≡ leaf_top c.args.item.now = search rules in
    rw c.collision.ensures (leaf_collides _ _ _ c.args.item.now _ _ q.wrong q.same q.item first second same)

pub meeting-requires-clause-second_long : goal.meeting-requires-clause-second_long
meeting-requires-clause-second_long c =
    let q = c.requires in
    own_long_at _ _ _ c.args.way.now c.args.tops.now _ q.accepted q.same q.way q.tops (c.deref.ensures.value ∙ c.in_ok-path.ensures)

pub meeting-requires-clause-meet : goal.meeting-requires-clause-meet
meeting-requires-clause-meet c =
    let q = c.requires in
    let leaf : c.leaf_top-leaf.result ≡ leaf_top c.args.proof.now.item = search rules in
    own_leads_at _ _ _ c.args.item.now c.args.way.now c.args.tops.now _ _ _ _ q.same q.item q.way q.tops (c.deref.ensures.value ∙ c.in_ok-path.ensures) c.inner-2.ensures leaf c.leaf_top-own_leaf.ensures

pub returns : goal.returns
returns c =
    let q = c.requires in
    let leaf : c.leaf_top-leaf.result ≡ leaf_top c.args.proof.now.item = search rules in
    explained_at _ _ _ c.args.item.now c.args.way.now c.args.tops.now _ _ _ _ _ q.wrong q.same q.item q.way q.tops (c.deref.ensures.value ∙ c.in_ok-path.ensures) c.inner-2.ensures leaf c.leaf_top-own_leaf.ensures c.meeting.ensures
