-- What holds at the loops of `value::value_of`, and what falls.
use Rattle.std.proofs.Common.{length}
use Rattle.json.specs.Tree.{json_tokens, items_tokens, members_tokens}
use Rattle.json.specs.Value as parsed
use Rattle.json.specs.Value.{value_view}
use Rattle.serde_json.specs.View.{members_view}
use Rattle.nr_jsonstream.proofs.Trees.{ListSoFar, ObjectSoFar}
use Rattle.nr_jsonstream.proofs.value.+value_of.Given as goal

abbrev pub decreases-value_of : goal.decreases-value_of
decreases-value_of l = length (json_tokens (value_view l.tree.now))

abbrev pub decreases-list_in : goal.decreases-list_in
decreases-list_in l = length (items_tokens (parsed.items_view l.items.now.items))

abbrev pub decreases-object_in : goal.decreases-object_in
decreases-object_in l = length (members_tokens (parsed.members_view l.members.now.items))

abbrev pub invariant-list_in-loop-item : goal.invariant-list_in-loop-item
invariant-list_in-loop-item l = ListSoFar l.item-items l.item-index l.found.items

abbrev pub invariant-object_in-loop-member : goal.invariant-object_in-loop-member
invariant-object_in-loop-member l = ObjectSoFar l.member-items l.member-index (members_view l.found.entries)
