-- The goals of `gathering::texts_in` that no tactic closes.
use Rattle.nr_triedef.specs.Root.{paths}
use Rattle.nr_columns.specs.Entries.{pairs_of}
use Rattle.nr_gather.proofs.Results.{form_nodes, gathered_whole}
use Rattle.nr_gather.proofs.gathering.texts_in.Goals as goal

pub looked_texts-requires : goal.looked_texts-requires
looked_texts-requires c = form_nodes (paths (pairs_of c.args.entries.now)) c.args.nodes.now c.requires.order c.requires.nodes

pub returns : goal.returns
returns c =
    gathered_whole c.args.searched.now (paths (pairs_of c.args.entries.now)) c.args.top c.args.nodes.now c.top_spot-spot.result c.in_ok-looked.looked c.in_ok-texts.texts c.requires.order c.requires.top c.requires.nodes c.top_spot-spot.ensures c.in_ok-looked.ensures
    c.in_ok-texts.ensures
