-- The goals of `trie_store::TrieStoreStore::back` that no tactic closes.
use Rattle.std.proofs.Common.{◌∷◌, ap, sym, ◌∙◌, arith, length}
use Rattle.std.specs.Prelude.{map}
use Rattle.nr_trieupdate.specs.Overlays.{over, most_debt, IsLayer}
use Rattle.nr_trieupdate.proofs.Overlays.{most_back}
use Rattle.nr_trieupdate.proofs.Layers.{length_map, layers_as}
use Rattle.nr_trieupdate.proofs.trie_store.TrieStoreStore.back.Goals as goal

pub invariant_of-self : goal.invariant_of-self
invariant_of-self c =
    let old = c.self.inside.changes in
    let new = c.back.new.self in
    record {
      standing = omega (arith, c.self.invariant.standing, ap length c.back.ensures.marks);
      few = omega (arith, c.self.invariant.few, c.self.invariant.standing, ap length c.back.ensures.marks, c.back.ensures.spare);
      most = c.self.invariant.most;
      layers = layers_as (IsLayer c.self.inside.base.contents c.self.inside.count) old.marks (new.contents ∷ new.marks) (sym c.back.ensures.marks) c.self.invariant.layers.1;
    }

pub returns-clause-marks : goal.returns-clause-marks
returns-clause-marks c = sym (ap (λ v. v.marks) c.self.view_is) ∙ ap (map (λ m. over m c.self.inside.base.contents)) c.back.ensures.marks

pub returns-clause-unhashed : goal.returns-clause-unhashed
returns-clause-unhashed c =
    let old = c.self.inside.changes in
    omega (arith, ap most_debt c.back.ensures.marks, most_back old.contents old.marks, ap (λ v. v.unhashed) c.self.view_is)

pub back-requires : goal.back-requires
back-requires c = omega (arith, c.requires, ap (λ v. length v.marks) c.self.view_is, length_map c.self.inside.base.contents c.self.inside.changes.marks)
