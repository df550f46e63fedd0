-- The goals of `trie_store::TrieStore::move_many` that no tactic closes.
use Rattle.std.proofs.Common.{◌≡◌, ◌≤◌, [], refl, ap, sym, ◌∙◌, subst, arith, length}
use Rattle.nr_triedef.specs.Stores.{IsSized}
use Rattle.nr_trieupdate.proofs.Stored.{settled_count, settled_layers, nothing_stands}
use Rattle.nr_trieupdate.proofs.trie_store.TrieStore.move_many.Goals as goal

pub settle-requires-clause-marks : goal.settle-requires-clause-marks
settle-requires-clause-marks c = nothing_stands c.self.inside.standing c.self.inside.changes.marks c.self.invariant.standing (omega arith)

pub settle-requires-clause-sized : goal.settle-requires-clause-sized
settle-requires-clause-sized c = subst (λ v. IsSized v.contents) (sym c.self.view_is) c.sizes.ensures

pub invariant_of-self-2 : goal.invariant_of-self-2
invariant_of-self-2 c =
    let base = c.self.inside.base.contents in
    let changes = c.self.inside.changes in
    let made = c.settle.new.base.contents in
    let left = c.settle.new.waiting in
    let moves = c.settle.ensures.moves in
    let gone = c.in_ok-settle.ensures.none in
    let stands = c.self.invariant.standing in
    let none : changes.marks ≡ [] = nothing_stands c.self.inside.standing changes.marks stands (omega arith) in
    let count = c.count-self-inside.result in
    let counted = c.count-self-inside.ensures in
    let fewer : count ≤ c.self.inside.count =
    settled_count base made changes.contents left.contents changes.marks c.self.inside.count count
    moves.few gone counted c.self.invariant.layers in
    record {
      standing = stands ∙ sym (ap length moves.marks);
      few = omega (arith, c.self.invariant.few, moves.spare);
      most = omega (arith, c.self.invariant.most, fewer);
      layers = settled_layers made made left.contents changes.marks left.marks count refl gone none moves.marks counted;
    }
