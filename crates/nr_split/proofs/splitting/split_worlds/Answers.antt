-- The goals of `splitting::split_worlds` that no tactic closes.
use Rattle.nr_split.proofs.Split.{answer_whole, answer_worlds}
use Rattle.nr_split.proofs.splitting.split_worlds.Goals as goal

pub returns-clause-whole : goal.returns-clause-whole
returns-clause-whole c =
    answer_whole c.args.layout.now c.args.worlds.now c.requires c.split.result c.split.ensures.entries
    c.split.ensures.few

pub returns-clause-worlds : goal.returns-clause-worlds
returns-clause-worlds c =
    answer_worlds c.args.layout.now c.args.worlds.now c.requires c.split.result c.split.ensures.entries
    c.split.ensures.few
