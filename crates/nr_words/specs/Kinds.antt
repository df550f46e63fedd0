-- The kinds of a chunk's items by their words. This project's own.
use Rattle.std.specs.Prelude.{ℕ, List, codes}
use Rattle.nr_words.specs.declared.kind.ProofKind.{ProofKind}
use Rattle.nr_words.specs.declared.kind.ProofKind.TheVariants.{Outcome, Receipt}

abbrev pub kind_word : ProofKind → List ℕ
kind_word Outcome = codes "outcome"
kind_word Receipt = codes "receipt"
