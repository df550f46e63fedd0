-- The goals of `packed::Packed::with` that no tactic closes.
use Rattle.std.proofs.Common.{◌∙◌, set}
use Rattle.std.proofs.lemmas.List.{map-set}
use Rattle.nr_trienodes.specs.Packing.{child_of}
use Rattle.nr_trienodes.proofs.Rows.{child_some}
use Rattle.nr_trienodes.proofs.packed.Packed.with.Goals as goal

pub returns : goal.returns
returns c =
    map-set child_of c.self.inside.numbers c.args.nibble c.args.child
    ∙ (λ i. set (c.self.view_is i) c.args.nibble (child_some c.args.child c.requires.child i))
