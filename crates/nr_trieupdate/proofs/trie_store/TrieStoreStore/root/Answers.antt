-- The goals of `trie_store::TrieStoreStore::root` that no tactic closes.
use Rattle.std.proofs.Common.{◌≡◌, [], refl, ap, sym, ◌∙◌, subst, arith, length}
use Rattle.nr_triedef.specs.Root.{root_of}
use Rattle.nr_triedef.specs.Stores.{IsSized}
use Rattle.nr_trieupdate.proofs.Stored.{same_layers, settled_contents, settled_count, settled_layers, settled_debt, nothing_stands}
use Rattle.nr_trieupdate.proofs.trie_store.TrieStoreStore.root.Goals as goal

-- where checkpoints stand: the trie stands for the same afterwards
pub invariant_of-self : goal.invariant_of-self
invariant_of-self g c =
    let changes = c.self.inside.changes in
    record {
      standing = c.self.invariant.standing;
      few = c.self.invariant.few;
      most = c.self.invariant.most;
      layers = same_layers changes.contents changes.contents c.self.inside.base.contents c.root_over.new.base.contents changes.marks changes.marks c.self.inside.count refl refl c.root_over.ensures.contents c.self.invariant.layers;
    }

pub settle-requires-clause-marks : goal.settle-requires-clause-marks
settle-requires-clause-marks g c = nothing_stands c.self.inside.standing c.self.inside.changes.marks c.self.invariant.standing (omega arith)

pub settle-requires-clause-sized : goal.settle-requires-clause-sized
settle-requires-clause-sized g c = subst (λ v. IsSized v.contents) (sym c.self.view_is) c.sizes.ensures

-- where none stands
pub invariant_of-self-in_err-root-2 : goal.invariant_of-self-in_err-root-2
invariant_of-self-in_err-root-2 g c =
    let base = c.self.inside.base in
    let changes = c.self.inside.changes in
    let made = c.settle.new.base in
    let left = c.settle.new.waiting in
    let moves = c.settle.ensures.moves in
    let gone = c.in_ok-settle.ensures.none in
    let none : changes.marks ≡ [] = nothing_stands c.self.inside.standing changes.marks c.self.invariant.standing (omega arith) in
    record {
      standing = c.self.invariant.standing ∙ sym (ap length moves.marks);
      few = omega (arith, c.self.invariant.few, moves.spare);
      most = omega (arith, c.self.invariant.most, settled_count base.contents made.contents changes.contents left.contents changes.marks c.self.inside.count c.count-self-inside.result moves.few gone c.count-self-inside.ensures c.self.invariant.layers);
      layers = settled_layers made.contents c.root.new.self.contents left.contents changes.marks left.marks c.count-self-inside.result c.root.ensures.contents gone none moves.marks c.count-self-inside.ensures;
    }

pub invariant_of-self-2 : goal.invariant_of-self-2
invariant_of-self-2 g c =
    let base = c.self.inside.base in
    let changes = c.self.inside.changes in
    let made = c.settle.new.base in
    let left = c.settle.new.waiting in
    let moves = c.settle.ensures.moves in
    let gone = c.in_ok-settle.ensures.none in
    let none : changes.marks ≡ [] = nothing_stands c.self.inside.standing changes.marks c.self.invariant.standing (omega arith) in
    record {
      standing = c.self.invariant.standing ∙ sym (ap length moves.marks);
      few = omega (arith, c.self.invariant.few, moves.spare);
      most = omega (arith, c.self.invariant.most, settled_count base.contents made.contents changes.contents left.contents changes.marks c.self.inside.count c.count-self-inside.result moves.few gone c.count-self-inside.ensures c.self.invariant.layers);
      layers = settled_layers made.contents c.root.new.self.contents left.contents changes.marks left.marks c.count-self-inside.result c.root.ensures.contents gone none moves.marks c.count-self-inside.ensures;
    }

pub returns-clause-root : goal.returns-clause-root
returns-clause-root g c =
    let moves = c.settle.ensures.moves in
    c.in_ok-root-2.ensures.root
    ∙ ap (λ m. (root_of m).hash) (settled_contents c.self.inside.base.contents c.settle.new.base.contents c.self.inside.changes.contents c.settle.new.waiting.contents moves.held c.in_ok-settle.ensures.none)
    ∙ ap (λ v. (root_of v.contents).hash) c.self.view_is

pub returns-clause-hashed : goal.returns-clause-hashed
returns-clause-hashed g c = λ _.
    let changes = c.self.inside.changes in
    let left = c.settle.new.waiting in
    let moves = c.settle.ensures.moves in
    let none : changes.marks ≡ [] = nothing_stands c.self.inside.standing changes.marks c.self.invariant.standing (omega arith) in
    omega (arith, c.in_ok-root-2.ensures.hashed, settled_debt left.contents changes.marks left.marks c.in_ok-settle.ensures.none none moves.marks)
