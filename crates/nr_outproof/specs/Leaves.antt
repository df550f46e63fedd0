-- The tops of the items in a line. This project's own.
use Rattle.std.specs.Prelude.{List}
use Rattle.nr_ids.specs.declared.key.Hash32.{Hash32}
use Rattle.nr_records.specs.declared.chunk_result.ChunkLine.{ChunkLine}
use Rattle.nr_words.specs.declared.kind.ProofKind.{ProofKind}
use Rattle.nr_outproof.specs.Items.{item_in}
use Rattle.nr_outproof.specs.Tree.{leaf_tops}

abbrev pub leaves_in : ProofKind → ChunkLine → List Hash32
leaves_in kind line = leaf_tops (item_in kind line)
