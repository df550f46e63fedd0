-- The goals of `trie_store::TrieStoreStore::mark` that no tactic closes.
use Rattle.std.proofs.Common.{◌∷◌, ap, ◌∙◌, arith, length}
use Rattle.std.specs.Prelude.{map}
use Rattle.nr_trieupdate.specs.Overlays.{over, most_debt, IsLayer}
use Rattle.nr_trieupdate.proofs.Overlays.{most_mark}
use Rattle.nr_trieupdate.proofs.Layers.{layers_as, listed}
use Rattle.nr_trieupdate.proofs.trie_store.TrieStoreStore.mark.Goals as goal

pub invariant_of-self : goal.invariant_of-self
invariant_of-self c =
    let old = c.self.inside.changes in
    let new = c.mark.new.self in
    let base = c.self.inside.base.contents in
    record {
      standing = omega (arith, c.self.invariant.standing, ap length c.mark.ensures.marks);
      few = omega (arith, c.self.invariant.few, c.self.invariant.standing, c.mark.ensures.spare);
      most = c.self.invariant.most;
      layers = layers_as (IsLayer base c.self.inside.count) (old.contents ∷ old.contents ∷ old.marks) (new.contents ∷ new.marks) (listed old.contents new.contents (old.contents ∷ old.marks) new.marks c.mark.ensures.contents c.mark.ensures.marks)
          (c.self.invariant.layers.0, c.self.invariant.layers);
    }

pub returns-clause-contents : goal.returns-clause-contents
returns-clause-contents c = ap (λ m. over m c.self.inside.base.contents) c.mark.ensures.contents ∙ ap (λ v. v.contents) c.self.view_is

pub returns-clause-marks : goal.returns-clause-marks
returns-clause-marks c = ap (map (λ m. over m c.self.inside.base.contents)) c.mark.ensures.marks ∙ ap (λ v. v.contents ∷ v.marks) c.self.view_is

pub returns-clause-unhashed : goal.returns-clause-unhashed
returns-clause-unhashed c =
    let old = c.self.inside.changes in
    let new = c.mark.new.self in
    omega (arith, ap most_debt (listed old.contents new.contents (old.contents ∷ old.marks) new.marks c.mark.ensures.contents c.mark.ensures.marks), most_mark old.contents old.marks, ap (λ v. v.unhashed) c.self.view_is)

pub mark-requires : goal.mark-requires
mark-requires c = omega (arith, c.requires, ap (λ v. v.spare) c.self.view_is)
