-- What holds at the loops of `generated::hash_chunks`.
use Rattle.sha2.specs.Hashers.{Holds256}
use Rattle.nr_chunk.specs.Chain.{rules_of}
use Rattle.nr_chunk.specs.Runs.{chain_in}
use Rattle.nr_outcome.specs.Texts.{heights_text}
use Rattle.nr_overlap.specs.Moment.{report_at}
use Rattle.nr_overlap.specs.Run.{ending}
use Rattle.nr_top.proofs.generated.hash_chunks.Given as goal

abbrev pub invariant-loop-below : goal.invariant-loop-below
invariant-loop-below l =
    let r = rules_of (chain_in l.outcome.chain) in
    Holds256 l.hasher (heights_text r.shards (report_at r (ending r)) 0 l.below)
