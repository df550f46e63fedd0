-- The goals of `cutting::cut` that no tactic closes.
use Rattle.std.proofs.Common.{◌+◌, ◌∷◌, take, sym, ap, ◌∙◌}
use Rattle.std.proofs.lemmas.List.{take_rest}
use Rattle.nr_words.specs.Pieces.{pieces}
use Rattle.nr_words.proofs.Pieces.{first_piece, one_piece}
use Rattle.nr_words.proofs.cutting.cut.Goals as goal

pub returns-in-Some-clause-pieces : goal.returns-in-Some-clause-pieces
returns-in-Some-clause-pieces c =
    first_piece c.args.separator c.args.bytes.now c.in-Some.at (sym c.place_of.ensures ∙ c.in-Some.is)
    ∙ ap (λ t. take c.in-Some.at c.args.bytes.now ∷ pieces c.args.separator t) (sym (take_rest c.args.bytes.now (c.in-Some.at + 1)))

pub returns-in-None-clause-pieces : goal.returns-in-None-clause-pieces
returns-in-None-clause-pieces c = one_piece c.args.separator c.args.bytes.now (sym c.place_of.ensures ∙ c.in-None.is)
