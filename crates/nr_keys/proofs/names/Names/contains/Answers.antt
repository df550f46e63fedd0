-- The goals of `names::Names::contains` that no tactic closes.
use Rattle.std.proofs.Common.{ap, ◌∙◌}
use Rattle.std.proofs.lemmas.List.{take_rest}
use Rattle.std.specs.List.{list_any}
use Rattle.std.specs.Str.{bytes_eq}
use Rattle.nr_keys.proofs.SpelledNames.{spelled_fits, names_from_4}
use Rattle.nr_keys.proofs.names.Names.contains.Goals as goal

pub returns : goal.returns
returns c =
    c.stands_in.ensures _ (spelled_fits _ c.self.invariant).1 (take_rest _ 4 ∙ names_from_4 _ c.self.invariant)
    ∙ ap (λ names. list_any (bytes_eq c.args.name.now) names) c.self.view_is
