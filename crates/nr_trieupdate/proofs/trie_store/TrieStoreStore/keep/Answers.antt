-- The goals of `trie_store::TrieStoreStore::keep` that no tactic closes.
use Rattle.std.proofs.Common.{◌∷◌, ap, ◌∙◌, arith, length, drop, length-drop, ◌<◌}
use Rattle.std.specs.Prelude.{map}
use Rattle.nr_trieupdate.specs.Overlays.{over, most_debt, IsLayer}
use Rattle.nr_trieupdate.proofs.Overlays.{most_keep}
use Rattle.nr_trieupdate.proofs.Layers.{length_map, layers_as, layers_drop, listed, map_drop}
use Rattle.nr_trieupdate.proofs.trie_store.TrieStoreStore.keep.Goals as goal

pub invariant_of-self : goal.invariant_of-self
invariant_of-self c =
    let old = c.self.inside.changes in
    let new = c.keep.new.self in
    let base = c.self.inside.base.contents in
    let some : 0 < length old.marks = omega (arith, c.requires, ap (λ v. length v.marks) c.self.view_is, length_map base old.marks) in
    record {
      standing = omega (arith, some, c.self.invariant.standing, ap length c.keep.ensures.marks, length-drop 1 old.marks);
      few = omega (arith, some, c.self.invariant.few, c.self.invariant.standing, c.keep.ensures.spare);
      most = c.self.invariant.most;
      layers = layers_as (IsLayer base c.self.inside.count) (old.contents ∷ drop 1 old.marks) (new.contents ∷ new.marks) (listed old.contents new.contents (drop 1 old.marks) new.marks c.keep.ensures.contents c.keep.ensures.marks)
          (c.self.invariant.layers.0, layers_drop (IsLayer base c.self.inside.count) old.marks c.self.invariant.layers.1);
    }

pub returns-clause-contents : goal.returns-clause-contents
returns-clause-contents c = ap (λ m. over m c.self.inside.base.contents) c.keep.ensures.contents ∙ ap (λ v. v.contents) c.self.view_is

pub returns-clause-marks : goal.returns-clause-marks
returns-clause-marks c = ap (map (λ m. over m c.self.inside.base.contents)) c.keep.ensures.marks ∙ map_drop c.self.inside.base.contents c.self.inside.changes.marks ∙ ap (λ v. drop 1 v.marks) c.self.view_is

pub returns-clause-unhashed : goal.returns-clause-unhashed
returns-clause-unhashed c =
    let old = c.self.inside.changes in
    let new = c.keep.new.self in
    omega (arith, ap most_debt (listed old.contents new.contents (drop 1 old.marks) new.marks c.keep.ensures.contents c.keep.ensures.marks), most_keep old.contents old.marks, ap (λ v. v.unhashed) c.self.view_is)

pub keep-requires : goal.keep-requires
keep-requires c = omega (arith, c.requires, ap (λ v. length v.marks) c.self.view_is, length_map c.self.inside.base.contents c.self.inside.changes.marks)
