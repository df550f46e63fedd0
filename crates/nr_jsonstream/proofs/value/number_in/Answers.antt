-- The goals of `value::number_in` that no tactic closes.
use Rattle.std.proofs.Common.{Some, option_map, sym, ap, ◌∙◌}
use Rattle.serde_json.specs.Data.{Data, number}
use Rattle.nr_jsonstream.proofs.value.number_in.Goals as goal

pub returns-in-Some : goal.returns-in-Some
returns-in-Some c = ap (option_map number) c.in-Some.ensures ∙ ap (λ (d : Data). Some d) (sym c.from.ensures)
