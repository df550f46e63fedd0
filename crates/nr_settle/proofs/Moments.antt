-- While threads run, what words, places and views show is a moment of the replay theorem.
use Rattle.nr_chunk.specs.Chain.{Chain, rules_of}
use Rattle.nr_places.proofs.Replay.{holds_reached}
use Rattle.nr_settle.specs.Running.{ChainSerial, HoldsWhileRunning}
use Rattle.nr_workers.proofs.Counted.{shown_are_reached}

pub holds_while_running : {P : Type 0} (run : ChainSerial P) (chain_of : P → Chain) → HoldsWhileRunning run chain_of
holds_while_running run chain_of s ps is rule shown = holds_reached (chain_of run.0) is ps (shown_are_reached (λ p. rules_of (chain_of p)) run s ps rule shown)
