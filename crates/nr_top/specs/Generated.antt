-- The run of a generated chain, in short: how many chunks were sealed, the digest of the report, and the totals. This
-- project's own.
use Rattle.std.specs.Prelude.{ℕ, List, [], ◌∷◌, ◌++◌, codes, decimal}
use Rattle.nr_chunk.specs.Chain.{Chain, rules_of}
use Rattle.nr_config.specs.Config.{generated}
use Rattle.nr_course.specs.Texts.{course_text}
use Rattle.nr_gen.specs.Chain.{generated_blocks}
use Rattle.nr_gen.specs.Founding.{generated_genesis}
use Rattle.nr_ids.specs.declared.key.Hash32.{Hash32}
use Rattle.nr_overlap.specs.Moment.{report_at}
use Rattle.nr_overlap.specs.Run.{ending}
use Rattle.nr_outcome.specs.Texts.{count_to}
use Rattle.nr_outcome.specs.Totals.{totals_at}
use Rattle.nr_report.specs.Lines.{hash_word, line, totals_text}
use Rattle.nr_triedef.specs.Node.{digest}
use Rattle.nr_top.specs.Run.{chain, one_leg}

-- under the configuration for generated chains
abbrev pub generated_chain : ℕ → ℕ → ℕ → Chain
generated_chain start shards blocks = chain generated (generated_genesis shards) (generated_blocks start shards blocks)

-- ---- what is written of it: the numbers that generate it, how many chunks were sealed, and the digest of the report
-- that its run has; then the totals
abbrev pub first_lines : ℕ → ℕ → ℕ → ℕ → Hash32 → List ℕ
first_lines start shards blocks chunks hash =
    line (codes "gen" ∷ decimal start ∷ decimal shards ∷ decimal blocks ∷ [])
    ++ line (codes "chunks" ∷ decimal chunks ∷ [])
    ++ line (codes "digest" ∷ hash_word hash ∷ [])

unfoldable pub generated_text : ℕ → ℕ → ℕ → List ℕ
generated_text start shards blocks =
    let x = generated_chain start shards blocks in
    let r = rules_of x in
    first_lines start shards blocks (count_to r.shards (report_at r (ending r)) r.heights)
    (digest (course_text (one_leg x))) ++ totals_text (totals_at x (ending r))
