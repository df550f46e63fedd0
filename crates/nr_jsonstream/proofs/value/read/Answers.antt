-- The goals of `value::read` that no tactic closes.
use Rattle.json.specs.Value.{value_view}
use Rattle.nr_jsonstream.proofs.value.read.Goals as goal

pub returns-clause-ok : goal.returns-clause-ok
returns-clause-ok c = (value_view c.in_ok-tree.tree, c.in_ok-tree.ensures.ok, c.in_ok-owned.ensures)
