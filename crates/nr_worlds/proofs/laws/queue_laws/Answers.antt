-- The goals of `laws::queue_laws` that no tactic closes.
use Rattle.nr_worlds.proofs.Passing.{passing_queue, queue_again}
use Rattle.nr_worlds.proofs.Sound.{sound_queue}
use Rattle.nr_worlds.proofs.laws.queue_laws.Goals as goal

pub returns : goal.returns
returns c = record { sound = sound_queue; passes = passing_queue; told = queue_again }
