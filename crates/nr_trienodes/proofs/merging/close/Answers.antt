-- The goals of `merging::close` that no tactic closes.
use Rattle.std.proofs.Common.{◌≡◌, ap, refl, ◌∙◌, subst, length, set}
use Rattle.nr_trienodes.specs.Turns.{Settles}
use Rattle.nr_trienodes.specs.declared.open_way.OpenNode.{OpenNode}
use Rattle.nr_trienodes.proofs.Moves.{closed, close_at}
use Rattle.nr_trienodes.proofs.merging.close.Goals as goal

pub returns-clause-steady : goal.returns-clause-steady
returns-clause-steady c =
    let after : c.replace-top.new.dest ≡ c.in-Some.level.node = c.replace-top.ensures.after in
    let top : c.replace-top.result ≡ c.args.way.now.top = c.replace-top.ensures.value in
    let part : c.as_slice.result.now ≡ c.replace-top.new.dest.part = c.as_slice.ensures in
    closed c.args.nodes.now c.settle_open.new.nodes c.args.way.now _ c.in-Some.level c.pop.new.self c.in_ok-id.id c.requires.way c.in-Some.ensures c.settle_open.ensures.grows c.settle_open.ensures.few
    (subst (λ (n : OpenNode). Settles c.args.nodes.now c.settle_open.new.nodes n.part n.value n.row c.in_ok-id.id) top c.in_ok-id.ensures.settled)
    refl (ap (λ (n : OpenNode). n.part) after) (ap (λ (n : OpenNode). n.value) after) (ap (λ (n : OpenNode). set n.row c.in-Some.level.nibble c.in_ok-id.id) after)
    (close_at c.args.nodes.now c.args.way.now c.in-Some.level c.pop.new.self (length c.as_slice.result.now) c.requires.way c.in-Some.ensures (ap length part ∙ ap (λ (n : OpenNode). length n.part) after))
