-- Which shard an account lives in, by boundaries in rising order. After the Nomicon, Chain Specification (Sharding);
-- the boundaries are this project's.
use Rattle.std.specs.Prelude.{ℕ, ◌≤◌, ◌==◌, Bool, true, not, IsTrue, List, [], ◌∷◌, length, Option, None, Some}
use Rattle.std.specs.Prelude.{count_by, filter, map}
use Rattle.std.specs.List.{range_with_len}
use Rattle.std.specs.Ordering.{nat_cmp, is_lt}
use Rattle.std.specs.Cmp.Lexicographic.{slice_cmp}
use Rattle.nr_records.specs.declared.receipt.Receipt.{Receipt}

-- an id is below a boundary in byte order
abbrev pub is_below : List ℕ → List ℕ → Bool
is_below id boundary = is_lt (slice_cmp nat_cmp id boundary)

-- as many boundaries as aren't greater than the id
abbrev pub shard_of : List (List ℕ) → List ℕ → ℕ
shard_of boundaries id = count_by (λ boundary. not (is_below id boundary)) boundaries

-- the receipts of a list for a shard, in order
abbrev pub out_to : List (List ℕ) → ℕ → List Receipt → List Receipt
out_to boundaries shard list = filter (λ r. shard_of boundaries r.receiver == shard) list

-- what each of n shards gets of a list
abbrev pub parts : List (List ℕ) → ℕ → List Receipt → List (List Receipt)
parts boundaries n list = map (λ shard. out_to boundaries shard list) (range_with_len 0 n)

-- an id is above the one before it, if there is one
abbrev pub is_above : Option (List ℕ) → List ℕ → Bool
is_above None id = true
is_above (Some last) id = is_below last id

-- each is above the one before it, and the first above last
abbrev pub IsRising : Option (List ℕ) → List (List ℕ) → Type 0
IsRising last [] = Unit {0}
IsRising last (b ∷ bs) = IsTrue (is_above last b) × IsRising (Some b) bs

-- at most 15 boundaries, so 16 shards, in rising order
abbrev pub IsLayout : List (List ℕ) → Type 0
IsLayout boundaries = (length boundaries ≤ 15) × IsRising None boundaries
