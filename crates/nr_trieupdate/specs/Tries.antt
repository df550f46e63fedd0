-- What a store over nodes stands for. This project's own.
use Rattle.std.specs.Prelude.{◌≡◌, ◌+◌, ◌≤◌, ◌∷◌, length, map}
use Rattle.std.specs.List.{AllByRecursion}
use Rattle.nr_triedef.specs.Stores.{most_entries}
use Rattle.nr_trieupdate.specs.View.{TrieView}
use Rattle.nr_trieupdate.specs.Overlays.{over, most_debt, IsLayer}
use Rattle.nr_trieupdate.specs.declared.trie_store.TrieStore.TheInside.{Inside}

abbrev pub trie_view : Inside → TrieView
trie_view s =
    record {
      contents = over s.changes.contents s.base.contents;
      marks = map (λ m. over m s.base.contents) s.changes.marks;
      spare = s.changes.spare;
      unhashed = s.base.unhashed + most_debt (s.changes.contents ∷ s.changes.marks);
    }

-- all checkpoints are those of the waiting changes, at most eight with those that are spare, and no more entries come
-- to be at any than the count
pub record IsTrie (s : Inside) : Type 0 where
  pub standing : s.standing ≡ length s.changes.marks
  pub few : s.standing + s.changes.spare ≤ 8
  pub most : s.count ≤ most_entries
  pub layers : AllByRecursion (IsLayer s.base.contents s.count) (s.changes.contents ∷ s.changes.marks)
