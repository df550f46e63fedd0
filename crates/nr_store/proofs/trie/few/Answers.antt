-- The goals of `trie::few` that no tactic closes.
use Rattle.std.proofs.Common.{Some, sym, ap, ◌∙◌, arith}
use Rattle.nr_triedef.specs.declared.hash.Summary.{Summary}
use Rattle.nr_store.proofs.Levels.{whole_none, whole_one}
use Rattle.nr_store.proofs.trie.few.Goals as goal

pub returns-then-len-eq0 : goal.returns-then-len-eq0
returns-then-len-eq0 g c = sym (whole_none c.args.keys.now (omega arith))

pub returns : goal.returns
returns g c = ap (λ (s : Summary). Some s) c.in_ok-found.ensures ∙ sym (whole_one c.args.keys.now (omega arith))
