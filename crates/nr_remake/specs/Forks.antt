-- What a branch that is being made keeps. This project's own.
use Rattle.std.specs.Prelude.{◌≡◌, ◌≤◌, length, map}
use Rattle.std.specs.List.{range_with_len}
use Rattle.nr_triedef.specs.Root.{front, under}
use Rattle.nr_store.specs.Tries.{cut}
use Rattle.nr_remake.specs.Marks.{marked_whole}
use Rattle.nr_remake.specs.declared.trie.Fork.TheInside.{Inside}

pub record IsFork (f : Inside) : Type 0 where
  pub many : 2 ≤ length f.keys.items
  pub shared : f.shared.now ≡ front f.keys.items
  pub rest : f.rest.items ≡ cut f.keys.items
  pub made : f.made.items ≡ map (λ n. marked_whole (under n f.rest.items)) (range_with_len 0 (length f.made.items))
  pub few : length f.made.items ≤ 16
