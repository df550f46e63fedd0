-- The goals of `merging::split` that no tactic closes.
use Rattle.std.proofs.Common.{◌≡◌, ℕ, List, Option, ap, refl, subst, ◌∙◌, set}
use Rattle.nr_trienodes.specs.Shape.{no_children}
use Rattle.nr_trienodes.specs.Turns.{Settles}
use Rattle.nr_trienodes.specs.declared.open_way.OpenNode.{OpenNode}
use Rattle.nr_trienodes.proofs.Moves.{split_steady, split_row}
use Rattle.nr_trienodes.proofs.merging.split.Goals as goal

pub returns-clause-steady : goal.returns-clause-steady
returns-clause-steady c =
    let old = c.args.nodes.now in
    let new = c.settle_open.new.nodes in
    let w = c.args.way.now in
    let top : c.replace-value.result ≡ w.top = c.replace-value.ensures.value in
    let after : c.replace-value.new.dest ≡ c.bare.result = c.replace-value.ensures.after in
    let rest = subst (λ (n : OpenNode). Settles old new c.in_ok-back.back n.value n.row c.in_ok-lower.lower) top c.in_ok-lower.ensures.settled in
    let low = subst (λ (p : List ℕ). Settles old new p w.top.value w.top.row c.in_ok-lower.lower) c.in_ok-back.ensures rest in
    let row : c.replace-value.new.dest.row ≡ no_children = ap (λ (n : OpenNode). n.row) after ∙ c.bare.ensures.row in
    split_steady old new w _ c.args.shared c.in_ok-lower.lower c.requires.way c.requires.within c.settle_open.ensures.grows c.settle_open.ensures.few low
    refl refl (ap (λ (n : OpenNode). n.part) after ∙ c.bare.ensures.part ∙ c.in_ok-front.ensures) (ap (λ (n : OpenNode). n.value) after ∙ c.bare.ensures.value)
    (ap (λ (r : List (Option ℕ)). set r c.nibble_in-nibble.result c.in_ok-lower.lower) row ∙ ap (λ x. set no_children x c.in_ok-lower.lower) c.nibble_in-nibble.ensures)

pub returns-clause-row : goal.returns-clause-row
returns-clause-row c = λ y ne.
    split_row c.replace-value.new.dest.row c.nibble_in-nibble.result y c.in_ok-lower.lower (ap (λ (n : OpenNode). n.row) (let after : c.replace-value.new.dest ≡ c.bare.result = c.replace-value.ensures.after in after) ∙ c.bare.ensures.row) (λ e. ne (e ∙ c.nibble_in-nibble.ensures))
