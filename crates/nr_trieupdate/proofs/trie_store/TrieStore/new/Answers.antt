-- The goals of `trie_store::TrieStore::new` that no tactic closes.
use Rattle.std.proofs.Common.{[], refl, ap, sym, ◌∙◌, arith, length}
use Rattle.std.specs.Prelude.{map}
use Rattle.std.specs.FinMap.{entries}
use Rattle.nr_triedef.specs.Root.{Contents}
use Rattle.nr_trienodes.proofs.Counts.{length_none}
use Rattle.nr_trieupdate.specs.Overlays.{over}
use Rattle.nr_trieupdate.proofs.Stored.{settled_layers, settled_debt}
use Rattle.nr_trieupdate.proofs.Overlays.{over_empty}
use Rattle.nr_trieupdate.proofs.trie_store.TrieStore.new.Goals as goal

pub invariant_of-result : goal.invariant_of-result
invariant_of-result c =
    record {
      standing = sym (ap length c.new-2.ensures.marks);
      few = omega (arith, c.new-2.ensures.spare);
      most = omega arith;
      layers = settled_layers c.new.result.contents c.new.result.contents c.new-2.result.contents [] c.new-2.result.marks 0 refl c.new-2.ensures.contents refl c.new-2.ensures.marks (sym (ap (λ (m : Contents). length (entries m)) c.new.ensures.contents ∙ length_none));
    }

pub returns-clause-contents : goal.returns-clause-contents
returns-clause-contents c = over_empty c.new-2.result.contents c.new.result.contents c.new-2.ensures.contents ∙ c.new.ensures.contents

pub returns-clause-marks : goal.returns-clause-marks
returns-clause-marks c = ap (map (λ m. over m c.new.result.contents)) c.new-2.ensures.marks

pub returns-clause-unhashed : goal.returns-clause-unhashed
returns-clause-unhashed c = omega (arith, c.new.ensures.unhashed, settled_debt c.new-2.result.contents [] c.new-2.result.marks c.new-2.ensures.contents refl c.new-2.ensures.marks)
