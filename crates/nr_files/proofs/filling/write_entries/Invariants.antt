-- What holds at the loops of `filling::write_entries`.
use Rattle.std.proofs.Common.{◌≡◌, ◌++◌, map, take}
use Rattle.std.specs.Prelude.{unwrap_or}
use Rattle.std.specs.BTreeMap as tree
use Rattle.std.specs.List.{flat_map}
use Rattle.std.specs.Map.{count_at}
use Rattle.nr_state.specs.Usage.{zero_hash}
use Rattle.nr_state.specs.World.{bytes_cmp}
use Rattle.nr_blocks.specs.GenesisFiles.{entry_bytes}
use Rattle.nr_files.specs.Filling.{filled_entry}
use Rattle.nr_files.proofs.filling.write_entries.Given as goal

abbrev pub invariant-loop-index : goal.invariant-loop-index
invariant-loop-index l =
    l.writer ≡ l.initial.writer ++ flat_map entry_bytes (map (filled_entry (λ q. count_at (tree.get bytes_cmp l.usages) q) (λ q. unwrap_or (tree.get bytes_cmp l.hashes q) zero_hash)) (take l.index l.entries))
