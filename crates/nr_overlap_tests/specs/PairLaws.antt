-- A chunk of the pair sends a list to each shard, and each call of the serial run may be made. These tests' own.
use Rattle.std.specs.Prelude.{refl}
use Rattle.nr_overlap.specs.Lawful.{AreLawful}
use Rattle.nr_overlap_tests.specs.Pair.{rules}

pub laws : AreLawful rules (λ s h w. Unit {0}) (λ k l. Unit {0}) (λ k. Unit {0})
laws = record {
  one_each = λ k. refl;
  opens = λ s h a b c. tt;
  takes = λ s h n pair list a b c d e. tt;
  seals = λ s h a b c. tt;
}
