-- What holds at the loops of `opening::convert_all`.
use Rattle.std.proofs.Common.{◌≡◌, drop, length}
use Rattle.std.specs.Prelude.{fold}
use Rattle.nr_chunk.specs.Chunk.{Opening, convert_next, convert_all}
use Rattle.nr_chunk.specs.Works.{working_of, IsReady}
use Rattle.nr_chunk.proofs.Converted.{CanGo}
use Rattle.nr_chunk.proofs.opening.convert_all.Given as goal

-- what is left makes the whole
abbrev pub invariant-loop-tx : goal.invariant-loop-tx
invariant-loop-tx g l =
    let o : Opening = record { working = working_of l.work; local = l.local.items } in
    record {
      ready : IsReady l.work;
      can : CanGo l.chain.config o;
      converted : fold (convert_next l.chain.config) o (drop l.tx-index l.txs) ≡ convert_all l.chain.config (working_of l.initial.work) l.txs;
      count : l.work.local ≡ length l.local.items;
    }
