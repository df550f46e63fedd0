-- The goals of `answer::made_blocks` that no tactic closes.
use Rattle.serde_json.specs.View.{view}
use Rattle.nr_files.proofs.Steps.{made}
use Rattle.nr_files.proofs.answer.made_blocks.Goals as goal

pub returns : goal.returns
returns c = made c.args.text.now (view c.in_ok-value.value) c.in_ok-file.file c.in_ok-bytes.bytes c.in_ok-value.ensures c.in_ok-file.ensures c.in_ok-bytes.ensures.ok
