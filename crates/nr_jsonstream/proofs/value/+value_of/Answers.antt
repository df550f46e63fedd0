-- The goals of `value::value_of` that no tactic closes.
use Rattle.std.proofs.Common.{◌≡◌, ◌+◌, ◌<◌, List, length, drop, Some, Global, sym, ap, subst, ◌∙◌, arith, rules}
use Rattle.json.specs.Tree.{json_tokens, items_tokens, members_tokens}
use Rattle.json.specs.Value as parsed
use Rattle.json.specs.Value.{value_view}
use Rattle.json.specs.declared.value.Value.{Value as Tree}
use Rattle.serde_json.specs.Data.{Data, Members, no_members, null, boolean}
use Rattle.serde_json.specs.Read.{of_items, of_members}
use Rattle.serde_json.specs.View.{view, members_view}
use Rattle.serde_json.specs.declared.value.Value.{Value, Null, Bool, the_lemmas}
use Rattle.nr_jsonstream.proofs.Trees.{Pair, of_null, of_boolean, of_number, of_string, of_array, of_object}
use Rattle.nr_jsonstream.proofs.Trees.{list_below, object_below, item_below, member_below}
use Rattle.nr_jsonstream.proofs.Trees.{ListSoFar, list_begins, list_goes_on, list_done, object_begins, object_goes_on, object_done}
use Rattle.nr_jsonstream.proofs.value.+value_of.Goals as goal

pub value_of-returns-in-Null : goal.value_of-returns-in-Null
value_of-returns-in-Null t c =
    let seen : view (Null) ≡ null = search (rules, the_lemmas) in
    of_null c.args.tree.now c.in-Null.is ∙ ap (λ (d : Data). Some d) (sym seen)

pub value_of-returns-in-Bool : goal.value_of-returns-in-Bool
value_of-returns-in-Bool t c =
    let seen : view (Bool c.in-Bool.flag) ≡ boolean c.in-Bool.flag = search (rules, the_lemmas) in
    of_boolean c.args.tree.now c.in-Bool.flag c.in-Bool.is ∙ ap (λ (d : Data). Some d) (sym seen)

pub value_of-returns-in_ok-number_in-in-Number : goal.value_of-returns-in_ok-number_in-in-Number
value_of-returns-in_ok-number_in-in-Number t c =
    let made = c.in_ok-number_in-in-Number in
    of_number c.args.tree.now c.in-Number.text made.field-0 c.in-Number.is made.ensures

pub value_of-returns-in_ok-try_from_str-in-String : goal.value_of-returns-in_ok-try_from_str-in-String
value_of-returns-in_ok-try_from_str-in-String t c =
    let made = c.in_ok-try_from_str-in-String in
    of_string c.args.tree.now c.in-String.text made.field-0 c.in-String.is made.ensures

pub value_of-returns-in_ok-list_in-in-Array : goal.value_of-returns-in_ok-list_in-in-Array
value_of-returns-in_ok-list_in-in-Array t c =
    let made = c.in_ok-list_in-in-Array in
    of_array c.args.tree.now c.in-Array.items made.field-0 c.in-Array.is made.ensures

pub value_of-returns-in_ok-object_in-in-Object : goal.value_of-returns-in_ok-object_in-in-Object
value_of-returns-in_ok-object_in-in-Object t c =
    let made = c.in_ok-object_in-in-Object in
    of_object c.args.tree.now c.in-Object.members made.field-0 c.in-Object.is made.ensures

pub value_of-list_in-requires : goal.value_of-list_in-requires
value_of-list_in-requires t c =
    let smaller : length (items_tokens (parsed.items_view c.in-Array.items.items)) < length (json_tokens (value_view c.args.tree.now)) = list_below c.args.tree.now c.in-Array.items c.in-Array.is in
    search rules

pub value_of-object_in-requires : goal.value_of-object_in-requires
value_of-object_in-requires t c =
    let smaller : length (members_tokens (parsed.members_view c.in-Object.members.items)) < length (json_tokens (value_view c.args.tree.now)) =
    object_below c.args.tree.now c.in-Object.members c.in-Object.is in
    search rules

pub list_in-value_of-requires : goal.list_in-value_of-requires
list_in-value_of-requires t c =
    let xs = c.deref-item-items.result.now in
    let x = c.item-item.result in
    let smaller : length (json_tokens (value_view x)) < length (items_tokens (parsed.items_view c.args.items.now.items)) =
    item_below xs c.args.items.now.items c.loop-item.item-index x (omega arith) c.item-item.is c.deref-item-items.ensures.value in
    search rules

pub list_in-loop-item-init : goal.list_in-loop-item-init
list_in-loop-item-init t c = list_begins c.deref-item-items.result.now _ c.new-found.ensures.items

pub list_in-loop-item-preserved : goal.list_in-loop-item-preserved
list_in-loop-item-preserved t c =
    let l = c.loop-item in
    let xs = c.deref-item-items.result.now in
    subst (λ (vs : List Value). ListSoFar xs (l.item-index + 1) vs) (sym c.in_ok-push.ensures.items)
    (list_goes_on xs l.item-index c.item-item.result l.found.items c.in_ok-owned.owned (omega arith) c.item-item.is c.in_ok-owned.ensures l.invariant)

pub list_in-returns : goal.list_in-returns
list_in-returns t c =
    let l = c.loop-item in
    sym (ap (λ (xs : List (Tree Global)). of_items (parsed.items_view xs)) c.deref-item-items.ensures.value)
    ∙ list_done c.deref-item-items.result.now l.item-index l.found.items (omega arith) l.invariant

pub object_in-value_of-requires : goal.object_in-value_of-requires
object_in-value_of-requires t c =
    let xs = c.deref-member-items.result.now in
    let x = c.member-item.result in
    let smaller : length (json_tokens (value_view x.1)) < length (members_tokens (parsed.members_view c.args.members.now.items)) =
    member_below xs c.args.members.now.items c.loop-member.member-index x (omega arith) c.member-item.is c.deref-member-items.ensures.value in
    search rules

pub object_in-loop-member-init : goal.object_in-loop-member-init
object_in-loop-member-init t c = object_begins c.deref-member-items.result.now _ c.new-found.ensures.empty

pub object_in-loop-member-preserved : goal.object_in-loop-member-preserved
object_in-loop-member-preserved t c =
    let l = c.loop-member in
    let xs = c.deref-member-items.result.now in
    ap (λ (old : Members). of_members (parsed.members_view (drop (l.member-index + 1) xs)) old) c.in_ok-put.ensures.ok
    ∙ object_goes_on xs l.member-index c.member-item.result (members_view l.found.entries) c.in_ok-owned.owned (omega arith) c.member-item.is c.in_ok-owned.ensures l.invariant

pub object_in-returns : goal.object_in-returns
object_in-returns t c =
    let l = c.loop-member in
    sym (ap (λ (xs : List Pair). of_members (parsed.members_view xs) no_members) c.deref-member-items.ensures.value)
    ∙ object_done c.deref-member-items.result.now l.member-index (members_view l.found.entries) (omega arith) l.invariant
