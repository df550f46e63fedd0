-- The goals of `trie_store::TrieStoreStore::sizes` that no tactic closes.
use Rattle.std.proofs.Common.{subst, arith}
use Rattle.nr_triedef.specs.Stores.{IsSized}
use Rattle.nr_trieupdate.proofs.Overlays.{sized_over, few_over}
use Rattle.nr_trieupdate.proofs.trie_store.TrieStoreStore.sizes.Goals as goal

pub returns : goal.returns
returns c =
    let base = c.self.inside.base.contents in
    let changes = c.self.inside.changes.contents in
    subst (λ v. IsSized v.contents) c.self.view_is
    (sized_over changes base c.sizes-2.ensures c.sizes.ensures (omega (arith, few_over changes base, c.self.invariant.layers.0, c.self.invariant.most)))
