-- What holds at the loops of `entry_checks::check_trie_keys`.
use Rattle.std.proofs.Common.{◌≡◌, ℕ, List, map, take}
use Rattle.std.specs.BTreeSet.{contains}
use Rattle.std.specs.List.{list_any}
use Rattle.std.specs.Str.{bytes_eq}
use Rattle.nr_state.specs.World.{bytes_cmp}
use Rattle.nr_blocks.specs.Genesis.{trie_key}
use Rattle.nr_blocks.specs.Judging.{is_first}
use Rattle.nr_blocks.proofs.Turns.{IsLeft}
use Rattle.nr_blocks.proofs.entry_checks.check_trie_keys.Given as goal

abbrev pub invariant-loop-index : goal.invariant-loop-index
invariant-loop-index l = record {
  left : IsLeft (is_first l.entries) l.entries l.index;
  seen : (q : List ℕ) → contains bytes_cmp l.seen q ≡ list_any (bytes_eq q) (map trie_key (take l.index l.entries));
}
