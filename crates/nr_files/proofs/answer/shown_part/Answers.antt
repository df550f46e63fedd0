-- The goals of `answer::shown_part` that no tactic closes.
use Rattle.serde_json.specs.View.{view}
use Rattle.nr_files.proofs.Steps.{part_shown}
use Rattle.nr_files.proofs.answer.shown_part.Goals as goal

pub returns : goal.returns
returns c = part_shown c.args.bytes.now c.in_ok-part.part (view c.in-Ok.json) c.in_ok-part.ensures c.in-Ok.ensures
