-- The goals of `answer::shown_genesis` that no tactic closes.
use Rattle.serde_json.specs.View.{view}
use Rattle.nr_files.proofs.Steps.{genesis_shown}
use Rattle.nr_files.proofs.answer.shown_genesis.Goals as goal

pub returns : goal.returns
returns c = genesis_shown c.args.config.now c.args.bytes.now c.in_ok-genesis.genesis c.in-Ok.stated (view c.in_ok-json.json) c.in_ok-genesis.ensures c.in-Ok.ensures c.in_ok-json.ensures.ok
