-- The goals of `packed::Packed::at` that no tactic closes.
use Rattle.std.proofs.Common.{◌∙◌, ap, sym, length, arith}
use Rattle.std.proofs.lemmas.List.{length-map}
use Rattle.std.specs.Prelude.{List, Option, ℕ}
use Rattle.nr_trienodes.specs.Shape.{child}
use Rattle.nr_trienodes.specs.Packing.{child_of}
use Rattle.nr_trienodes.proofs.Rows.{child_map}
use Rattle.nr_trienodes.proofs.packed.Packed.at.Goals as goal

pub returns-clause-sixteen : goal.returns-clause-sixteen
returns-clause-sixteen c = ap length (sym c.self.view_is) ∙ length-map c.self.inside.numbers child_of ∙ c.self.told

pub returns-clause-child : goal.returns-clause-child
returns-clause-child c =
    c.child_of.ensures ∙ child_map child_of c.self.inside.numbers c.args.nibble _ (omega (arith, c.self.told, c.requires))
    ∙ ap (λ (row : List (Option ℕ)). child row c.args.nibble) c.self.view_is
