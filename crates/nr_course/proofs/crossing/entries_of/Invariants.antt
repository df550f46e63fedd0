-- What holds at the loops of `crossing::entries_of`.
use Rattle.std.proofs.Common.{◌≡◌, map, take}
use Rattle.std.specs.List.{AllByRecursion}
use Rattle.nr_chunk.specs.Views.{Kept}
use Rattle.nr_state.specs.FromEntries.{AreWholeEntries, world_from}
use Rattle.nr_course.proofs.crossing.entries_of.Given as goal

abbrev pub invariant-loop-world : goal.invariant-loop-world
invariant-loop-world l = record {
  whole : AllByRecursion AreWholeEntries l.found.items;
  worlds : map world_from l.found.items ≡ map (λ (w : Kept). w.world) (take l.world-index l.worlds);
}
