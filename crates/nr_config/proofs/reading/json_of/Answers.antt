-- The goals of `reading::json_of` that no tactic closes.
use Rattle.std.proofs.Common.{◌≡◌, true, sym, ◌∙◌}
use Rattle.serde_json.specs.View.{view}
use Rattle.nr_config.proofs.Objects.{object_found, no_text}
use Rattle.nr_config.proofs.reading.json_of.Goals as goal

pub returns-in-Ok : goal.returns-in-Ok
returns-in-Ok c = object_found c.args.bytes.now (view c.in-Ok.value) c.in-Ok.ensures.ok.0 c.in-Ok.ensures.ok.1 (sym c.is_object.ensures ∙ c.if-is_object.true)

-- an error that is not of memory
pub returns-in-Err-2 : goal.returns-in-Err-2
returns-in-Err-2 c = λ _. no_text c.args.bytes.now (c.in-Err.ensures.err (λ m. let t : c.is_memory.result ≡ true = c.is_memory.ensures.1 m in cc))
