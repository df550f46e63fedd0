-- The goals of `splitting::cut_world` that no tactic closes.
use Rattle.nr_cut.specs.Cut.{lives_in}
use Rattle.nr_split.proofs.Steps.{cut_answer}
use Rattle.nr_split.proofs.splitting.cut_world.Goals as goal

pub returns : goal.returns
returns c =
    cut_answer c.entries.result c.put_queue.new.columns.columns c.in_ok-columns.columns.columns c.in_ok-owned.owned
    (lives_in c.args.layout.now c.args.shard) c.args.worlds.now c.args.delayed.now c.entries.ensures
    c.in_ok-put_queue.ensures.queue c.in_ok-columns.ensures.columns c.in_ok-owned.ensures
