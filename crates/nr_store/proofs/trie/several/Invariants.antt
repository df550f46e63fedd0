-- What holds at the loops of `trie::several`.
use Rattle.std.proofs.Common.{◌+◌, length}
use Rattle.nr_store.proofs.Waiting.{Wait, work, works}
use Rattle.nr_store.proofs.trie.several.Given as goal

abbrev pub invariant-made : goal.invariant-made
invariant-made g l = Wait l.above l.fork.keys l.fn.keys

abbrev pub decreases-made : goal.decreases-made
decreases-made g l = works l.above + work (length l.fork.made) (length l.fork.made) l.fork.keys
