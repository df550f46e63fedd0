-- What holds at the loops of `lists::items_of`.
use Rattle.nr_json.proofs.Loops.{HasRead}
use Rattle.nr_json.proofs.lists.items_of.Given as goal

abbrev pub invariant-loop-number : goal.invariant-loop-number
invariant-loop-number g l = HasRead g.T.Form.reading l.number l.items.items l.values
