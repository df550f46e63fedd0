-- The goals of `trie::few` that no tactic closes.
use Rattle.std.proofs.Common.{sym, arith}
use Rattle.nr_remake.proofs.MarkedLevels.{marked_none, one_found}
use Rattle.nr_remake.proofs.trie.few.Goals as goal

pub returns-in-empty : goal.returns-in-empty
returns-in-empty c = sym (marked_none c.args.marks.now (omega arith))

pub returns-in_ok-found-in-len1-up : goal.returns-in_ok-found-in-len1-up
returns-in_ok-found-in-len1-up c =
    one_found c.args.marks.now c.one-item.result c.path.result.now c.known.result.now c.in_ok-found-in-len1-up.found c.requires (omega arith) c.one-item.is c.path.ensures c.known.ensures c.in_ok-found-in-len1-up.ensures
