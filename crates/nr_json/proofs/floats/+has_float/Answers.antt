-- The goals of `floats::has_float` that no tactic closes.
use Rattle.std.proofs.Common.{◌≡◌, true, false, ◌||◌, get_or, sym, ap, ◌∙◌, arith}
use Rattle.serde_json.specs.View.{view, items_view, members_view}
use Rattle.serde_json.specs.Written.{has_float, items_have_float, members_have_float}
use Rattle.serde_json.proofs.Views.{view-Array, view-Object}
use Rattle.nr_json.proofs.Whole.{item_has, item_lacks, items_lack}
use Rattle.nr_json.proofs.floats.+has_float.Goals as goal

pub has_float-returns-in-Array : goal.has_float-returns-in-Array
has_float-returns-in-Array t c = c.items_have_float.ensures ∙ sym (ap has_float (ap view c.in-Array.is ∙ view-Array c.in-Array.items))

pub has_float-returns-in-Object : goal.has_float-returns-in-Object
has_float-returns-in-Object t c = c.members_have_float.ensures ∙ sym (ap has_float (ap view c.in-Object.is ∙ view-Object c.in-Object.members))

pub items_have_float-loop-item-preserved : goal.items_have_float-loop-item-preserved
items_have_float-loop-item-preserved t c =
    let l = c.loop-item in
    let xs = c.deref-item-items.result.now in
    let x = c.item-item.result in
    let lacks : false ≡ has_float (view (get_or xs l.item-index x)) = sym c.if-has_float.false ∙ c.has_float.ensures ∙ ap (λ v. has_float (view v)) c.item-item.is in
    item_lacks xs l.item-index x (items_have_float (items_view xs)) (omega arith) lacks l.invariant

pub items_have_float-returns-then-has_float : goal.items_have_float-returns-then-has_float
items_have_float-returns-then-has_float t c =
    let l = c.loop-item in
    let xs = c.deref-item-items.result.now in
    let x = c.item-item.result in
    let has : true ≡ has_float (view (get_or xs l.item-index x)) = sym c.if-has_float.true ∙ c.has_float.ensures ∙ ap (λ v. has_float (view v)) c.item-item.is in
    item_has xs l.item-index x (items_have_float (items_view xs)) (omega arith) has l.invariant ∙ ap (λ ys. items_have_float (items_view ys)) c.deref-item-items.ensures.value

pub items_have_float-returns : goal.items_have_float-returns
items_have_float-returns t c =
    let l = c.loop-item in
    let xs = c.deref-item-items.result.now in
    items_lack xs l.item-index (items_have_float (items_view xs)) (omega arith) l.invariant ∙ ap (λ ys. items_have_float (items_view ys)) c.deref-item-items.ensures.value

pub members_have_float-loop-member-preserved : goal.members_have_float-loop-member-preserved
members_have_float-loop-member-preserved t c =
    let left = members_have_float (members_view c.next.new.self) in
    let lacks : has_float (view c.in-Some.member.now) ≡ false = sym c.has_float.ensures ∙ c.if-has_float.false in
    sym (ap (λ b. b || left) lacks) ∙ sym (ap (λ es. members_have_float (members_view es)) c.in-Some.ensures.steps) ∙ c.loop-member.invariant

pub members_have_float-returns-then-has_float : goal.members_have_float-returns-then-has_float
members_have_float-returns-then-has_float t c =
    let left = members_have_float (members_view c.next.new.self) in
    let has : has_float (view c.in-Some.member.now) ≡ true = sym c.has_float.ensures ∙ c.if-has_float.true in
    sym (ap (λ b. b || left) has) ∙ sym (ap (λ es. members_have_float (members_view es)) c.in-Some.ensures.steps) ∙ c.loop-member.invariant

pub members_have_float-returns : goal.members_have_float-returns
members_have_float-returns t c = sym (ap (λ es. members_have_float (members_view es)) c.in-None.ensures.steps.0) ∙ c.loop-member.invariant
