-- What a name that was found shows. This project's own.
use Rattle.std.specs.Prelude.{option_map}
use Rattle.serde_json.specs.View.{view}
use Rattle.nr_json.specs.Variants.{Named}
use Rattle.nr_json.specs.declared.variants.Found.{Found}

abbrev pub named_in : Found → Named
named_in n = (n.name.now, option_map (λ v. view v.now) n.content)
