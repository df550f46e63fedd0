-- The goals of `room::limits_with` that no tactic closes.
use Rattle.nr_trieupdate.proofs.room.limits_with.Goals as goal

pub returns : goal.returns
returns c = record { oldest = c.requires.oldest; young = c.requires.young; all = c.requires.all }
