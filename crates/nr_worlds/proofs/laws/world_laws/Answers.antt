-- The goals of `laws::world_laws` that no tactic closes.
use Rattle.nr_worlds.proofs.Passing.{passing, told_again}
use Rattle.nr_worlds.proofs.Sound.{sound}
use Rattle.nr_worlds.proofs.laws.world_laws.Goals as goal

pub returns : goal.returns
returns c = record { sound = sound; passes = passing; told = told_again }
