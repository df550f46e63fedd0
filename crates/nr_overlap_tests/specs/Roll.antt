-- What a chunk of a roll does: it sends its name to each shard, and tells the names that it took, in order. These
-- tests' own.
use Rattle.std.specs.Prelude.{ℕ, zero, suc, Bool, false, List, [], ◌∷◌, ◌++◌, slice_get, length, unwrap_or, replicate}
use Rattle.std.specs.Option.{option_map}
use Rattle.nr_overlap.specs.Rules.{Rules}
use Rattle.nr_overlap_tests.specs.declared.roll.Roll.{Roll}
use Rattle.nr_overlap_tests.specs.declared.roll_call.Name.{Name}
use Rattle.nr_overlap_tests.specs.declared.roll_call.Last.{Last}
use Rattle.nr_overlap_tests.specs.declared.roll_call.Calling.{Calling}

abbrev pub is_in : List Bool → ℕ → Bool
is_in chunks s = unwrap_or (slice_get chunks s) false

-- whether a block has a chunk of a shard
abbrev pub is_there : Roll → ℕ → ℕ → Bool
is_there t s zero = false
is_there t s (suc h) = unwrap_or (option_map (λ chunks. is_in chunks.items s) (slice_get t.blocks.items h)) false

abbrev pub name_of : Calling → Name
name_of k = record { height = k.height; source = k.shard }

abbrev pub rules_of : Roll → Rules Last Calling Name (List Name)
rules_of t = record {
  shards = t.shards;
  heights = length t.blocks.items;
  present = is_there t;
  begins = λ s. record { height = 0 };
  opens = λ s h w. record { shard = s; height = h; took = [] };
  takes = λ k name. record { shard = k.shard; height = k.height; took = k.took ++ name ∷ [] };
  seals = λ k. record { world = record { height = k.height }; report = k.took; lists = replicate t.shards (name_of k) };
}
