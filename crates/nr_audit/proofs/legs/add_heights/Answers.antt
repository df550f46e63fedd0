-- The goals of `legs::add_heights` that no tactic closes.
use Rattle.std.proofs.Common.{◌∙◌}
use Rattle.nr_chunk.specs.Runs.{chain_in}
use Rattle.nr_audit.specs.Archive.{height_files}
use Rattle.nr_audit.proofs.Files.{files_longer}
use Rattle.nr_audit.proofs.Alike.{height_same, places_same}
use Rattle.nr_audit.proofs.legs.add_heights.Goals as goal

pub loop-below-preserved : goal.loop-below-preserved
loop-below-preserved g c = record {
  phases = c.in_ok-add_next.ensures.phases ∙ c.loop-below.invariant.phases;
  whole = c.in_ok-add_next.ensures.whole;
  places = places_same c.args.core.now.phases c.loop-below.core.phases c.loop-below.invariant.phases _ _ c.in_ok-add_next.ensures.places;
  archive = files_longer (height_files (chain_in c.args.core.now.phases)) c.loop-below.below c.args.archive.now c.loop-below.archive
      c.add_next.new.archive c.loop-below.invariant.archive
      (height_same c.args.core.now.phases c.loop-below.core.phases c.loop-below.invariant.phases c.loop-below.below _ _ c.in_ok-add_next.ensures.archive);
}
