-- The goals of `laws::places_laws` that no tactic closes.
use Rattle.nr_chunk.specs.Promised.{promise_of}
use Rattle.nr_places.proofs.Founded.{genesis_receipts}
use Rattle.nr_places.proofs.Kept.{places_kept}
use Rattle.nr_places.proofs.Waiting.{freed}
use Rattle.nr_places.proofs.laws.places_laws.Goals as goal

pub returns : goal.returns
returns c = record {
  genesis = genesis_receipts;
  places = places_kept;
  freed = λ x is k datum q inputs after can gas is_datum e. freed x (promise_of x.config x.call is.config is.caller) k datum q inputs after can gas is_datum e;
}
