-- The goals of `crew::fn::start::spawn_with` that no tactic closes.
use Rattle.nr_workers.proofs.crew.fn.start.spawn_with.Goals as goal

pub returns-else-load : goal.returns-else-load
returns-else-load g c = c.work.ensures c.captures.shard c.requires.sound
