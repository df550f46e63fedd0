-- A chunk of a roll sends a name to each shard, and each call of the serial run may be made. These tests' own.
use Rattle.std.proofs.lemmas.List.{length-replicate}
use Rattle.nr_overlap.specs.Lawful.{AreLawful}
use Rattle.nr_overlap_tests.specs.Roll.{name_of, rules_of}
use Rattle.nr_overlap_tests.specs.declared.roll.Roll.{Roll}

pub laws_of : (t : Roll) → Unit {0} → AreLawful (rules_of t) (λ s h w. Unit {0}) (λ k l. Unit {0}) (λ k. Unit {0})
laws_of t is = record {
  one_each = λ k. length-replicate t.shards (name_of k);
  opens = λ s h a b c. tt;
  takes = λ s h n pair list a b c d e. tt;
  seals = λ s h a b c. tt;
}
