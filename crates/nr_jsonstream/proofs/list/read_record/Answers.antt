-- The goals of `list::read_record` that no tactic closes.
use Rattle.serde_json.specs.View.{view}
use Rattle.nr_jsonstream.proofs.list.read_record.Goals as goal

pub returns-in-Ok-clause-ok : goal.returns-in-Ok-clause-ok
returns-in-Ok-clause-ok g c =
    let read = c.in_ok-value in
    let is = read.ensures.ok in
    (is.0, view read.value, is.1, is.2, c.in-Ok.ensures)
