-- The goals of `answer::shown_gathered` that no tactic closes.
use Rattle.serde_json.specs.View.{view}
use Rattle.nr_files.proofs.Steps.{gathered_shown}
use Rattle.nr_files.proofs.answer.shown_gathered.Goals as goal

pub returns : goal.returns
returns c = gathered_shown c.args.bytes.now c.in_ok-gathered.gathered (view c.in-Ok.json) c.in_ok-gathered.ensures c.in-Ok.ensures
