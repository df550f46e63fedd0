-- The goals of `levels::only_top` that no tactic closes.
use Rattle.nr_outproof.proofs.Tops.{top_empty, top_front}
use Rattle.nr_outproof.proofs.levels.only_top.Goals as goal

pub returns-in-empty : goal.returns-in-empty
returns-in-empty c = top_empty c.args.tops.now c.in-empty.len_below

pub returns-in-len1-up : goal.returns-in-len1-up
returns-in-len1-up c = top_front c.args.tops.now _ c.requires c.in-len1-up.len_at_least
