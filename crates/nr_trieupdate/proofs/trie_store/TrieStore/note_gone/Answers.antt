-- The goals of `trie_store::TrieStore::note_gone` that no tactic closes.
use Rattle.std.proofs.Common.{◌≡◌, ◌∷◌, [], refl, ap, sym, ◌∙◌, arith, length, true}
use Rattle.std.specs.Option.{is_some}
use Rattle.std.specs.FinMap as map
use Rattle.nr_trienodes.proofs.Counts.{copied_some}
use Rattle.nr_trieupdate.specs.Overlays.{over}
use Rattle.nr_trieupdate.proofs.Counting.{remove_absent}
use Rattle.nr_trieupdate.proofs.Layers.{layers_more}
use Rattle.nr_trieupdate.proofs.Overlays.{joined_over}
use Rattle.nr_trieupdate.proofs.Stored.{noted_contents, noted_debt, set_layers}
use Rattle.nr_trieupdate.proofs.trie_store.TrieStore.note_gone.Goals as goal

pub returns-then-is_none-clause-ok : goal.returns-then-is_none-clause-ok
returns-then-is_none-clause-ok c = remove_absent c.args.self.now.contents c.args.key.now (ap is_some (sym c.get.ensures) ∙ copied_some c.get.result ∙ c.if-is_none.ensures)

pub invariant_of-self-2 : goal.invariant_of-self-2
invariant_of-self-2 c =
    let old = c.self.inside.changes in
    let new = c.set.new.self in
    let base = c.self.inside.base.contents in
    let key = c.args.key.now in
    let there : is_some (map.get (over old.contents base) key) ≡ true =
    ap (λ v. is_some (map.get v.contents key)) c.self.view_is ∙ ap is_some (sym c.get.ensures) ∙ copied_some c.get.result ∙ c.if-is_none.ensures in
    record {
      standing = c.self.invariant.standing ∙ sym (ap length c.in_ok-set.ensures.marks);
      few = omega (arith, c.self.invariant.few, c.in_ok-set.ensures.spare);
      most = omega arith;
      layers = layers_more base c.self.inside.count _ (new.contents ∷ new.marks) (omega arith)
          (set_layers base old.contents new.contents old.marks new.marks key (0 ∷ []) true c.self.inside.count c.self.inside.count c.in_ok-set.ensures.ok c.in_ok-set.ensures.marks
          (λ _. joined_over old.contents base key there) refl c.self.invariant.layers);
    }

pub returns-clause-ok : goal.returns-clause-ok
returns-clause-ok c =
    noted_contents c.self.inside.base.contents c.self.inside.changes.contents c.set.new.self.contents c.args.key.now (0 ∷ []) c.in_ok-set.ensures.ok
    ∙ ap (λ v. map.remove v.contents c.args.key.now) c.self.view_is

pub returns-clause-unhashed : goal.returns-clause-unhashed
returns-clause-unhashed c =
    let old = c.self.inside.changes in
    let new = c.set.new.self in
    omega (arith, noted_debt old.contents new.contents old.marks new.marks c.args.key.now (0 ∷ []) c.in_ok-set.ensures.ok c.in_ok-set.ensures.marks, ap (λ v. v.unhashed) c.self.view_is)
