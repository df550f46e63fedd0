-- Waiting changes that are moved into a trie. This project's own.
use Rattle.std.specs.Prelude.{◌≡◌, ◌+◌, ◌≤◌, length}
use Rattle.std.specs.FinMap.{entries}
use Rattle.nr_store.specs.Contents.{StoreView}
use Rattle.nr_trieupdate.specs.BaseView.{BaseView}
use Rattle.nr_trieupdate.specs.Overlays.{over, joined, debt}

-- what is held stays, all checkpoints too, and there are no more keys and no more nodes to be hashed
pub record Moves (b c : BaseView) (p q : StoreView) : Type 0 where
  pub held : over q.contents c.contents ≡ over p.contents b.contents
  pub few : length (entries (joined q.contents c.contents)) ≤ length (entries (joined p.contents b.contents))
  pub cost : c.unhashed + debt q.contents ≤ b.unhashed + debt p.contents
  pub marks : q.marks ≡ p.marks
  pub spare : q.spare ≡ p.spare
