-- The goals of `laws::replay_law` that no tactic closes.
use Rattle.nr_places.proofs.Replay.{holds_in, holds_over, holds_reached}
use Rattle.nr_places.proofs.laws.replay_law.Goals as goal

pub returns : goal.returns
returns c = record { always = holds_in; reached = holds_reached; over = holds_over }
