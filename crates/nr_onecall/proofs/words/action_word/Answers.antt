-- The goals of `words::action_word` that no tactic closes.
use Rattle.std.proofs.Common.{string_bytes}
use Rattle.serde_json.specs.View.{view}
use Rattle.nr_onecall.proofs.Floats.{action_text}
use Rattle.nr_onecall.proofs.words.action_word.Goals as goal

pub returns : goal.returns
returns c =
    action_text c.args.action.now (view c.in_ok-value.value) (string_bytes c.in_ok-text.text) c.in_ok-value.ensures c.in_ok-text.ensures.text
