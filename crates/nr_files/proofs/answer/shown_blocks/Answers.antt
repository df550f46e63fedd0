-- The goals of `answer::shown_blocks` that no tactic closes.
use Rattle.serde_json.specs.View.{view}
use Rattle.nr_files.proofs.Steps.{shown}
use Rattle.nr_files.proofs.answer.shown_blocks.Goals as goal

pub returns : goal.returns
returns c = shown c.args.bytes.now c.in_ok-file.file (view c.in_ok-json.json) c.in_ok-file.ensures c.in_ok-json.ensures.ok
