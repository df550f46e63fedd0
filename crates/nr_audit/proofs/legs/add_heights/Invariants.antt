-- What holds at the loops of `legs::add_heights`.
use Rattle.std.proofs.Common.{◌≡◌, ◌++◌, false, replicate}
use Rattle.std.specs.List.{flat_map, range_with_len}
use Rattle.nr_chunk.specs.Chain.{rules_of}
use Rattle.nr_chunk.specs.Runs.{chain_in}
use Rattle.nr_overlap.specs.Positions.{end_at}
use Rattle.nr_tar.specs.Archive.{file_bytes}
use Rattle.nr_audit.specs.Archive.{height_files}
use Rattle.nr_audit.proofs.legs.add_heights.Given as goal

abbrev pub invariant-loop-below : goal.invariant-loop-below
invariant-loop-below g l = record {
  phases : l.core.phases ≡ l.fn.core.phases;
  whole : l.core.lost ≡ false;
  places : l.core.positions ≡ replicate (rules_of (chain_in l.fn.core.phases)).shards (end_at l.below);
  archive : l.archive ≡ l.fn.archive
      ++ flat_map file_bytes (flat_map (height_files (chain_in l.fn.core.phases)) (range_with_len 0 l.below));
}
