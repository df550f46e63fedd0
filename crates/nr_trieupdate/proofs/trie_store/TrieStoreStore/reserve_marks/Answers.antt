-- The goals of `trie_store::TrieStoreStore::reserve_marks` that no tactic closes.
use Rattle.std.proofs.Common.{refl, ap, sym, ◌∙◌, arith, length}
use Rattle.nr_trieupdate.proofs.Layers.{length_map}
use Rattle.nr_trieupdate.proofs.Stored.{same_layers}
use Rattle.nr_trieupdate.proofs.trie_store.TrieStoreStore.reserve_marks.Goals as goal

pub reserve_marks-requires : goal.reserve_marks-requires
reserve_marks-requires c = omega (arith, c.requires, ap (λ v. length v.marks) c.self.view_is, length_map c.self.inside.base.contents c.self.inside.changes.marks)

pub invariant_of-self : goal.invariant_of-self
invariant_of-self c =
    let old = c.self.inside.changes in
    let new = c.reserve_marks.new.self in
    let base = c.self.inside.base.contents in
    record {
      standing = c.self.invariant.standing ∙ ap length (sym c.reserve_marks.ensures.marks);
      few = omega (arith, c.self.invariant.few, c.in_err-reserve_marks.ensures.err);
      most = c.self.invariant.most;
      layers = same_layers old.contents new.contents base base old.marks new.marks c.self.inside.count c.reserve_marks.ensures.contents c.reserve_marks.ensures.marks refl c.self.invariant.layers;
    }

pub invariant_of-self-2 : goal.invariant_of-self-2
invariant_of-self-2 c =
    let old = c.self.inside.changes in
    let new = c.reserve_marks.new.self in
    let base = c.self.inside.base.contents in
    record {
      standing = c.self.invariant.standing ∙ ap length (sym c.reserve_marks.ensures.marks);
      few = omega (arith, c.requires, ap (λ v. length v.marks) c.self.view_is, length_map base old.marks, c.self.invariant.standing, c.self.invariant.few, c.in_ok-reserve_marks.ensures.spare);
      most = c.self.invariant.most;
      layers = same_layers old.contents new.contents base base old.marks new.marks c.self.inside.count c.reserve_marks.ensures.contents c.reserve_marks.ensures.marks refl c.self.invariant.layers;
    }
