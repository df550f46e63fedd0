-- The boundaries of a generated chain are a layout.
use Rattle.std.proofs.Common.{◌≡◌, ℕ, ◌+◌, ◌-◌, ◌<◌, ◌≤◌, Bool, true, false, List, [], ◌∷◌, length, map, Option, None, Some, Result, Ok, refl, arith}
use Rattle.std.specs.Prelude.{◌&&◌}
use Rattle.std.specs.List.{AllByRecursion, list_all, range_with_len}
use Rattle.std.proofs.lemmas.List.FromFn.{length-map-range_with_len}
use Rattle.std.proofs.lemmas.Bool.{and_parts}
use Rattle.nr_ids.specs.Grammar.{id_fault, first_below}
use Rattle.nr_ids.specs.declared.fault.IdFault.{IdFault}
use Rattle.nr_layout.specs.Layout.{IsRising, is_above}
use Rattle.nr_layout.specs.Reading.{FitsLayout}
use Rattle.nr_records.specs.Ids.{IsId}
use Rattle.nr_records.specs.declared.fault.RecordFault.{RecordFault}
use Rattle.nr_gen.proofs.Below.{passes_at, passes_below}
use Rattle.nr_gen.specs.Names.{boundaries, shard_name}

rises : Option (List ℕ) → List (List ℕ) → Bool
rises last [] = true
rises last (b ∷ bs) = is_above last b && rises (Some b) bs

rises_so : (last : Option (List ℕ)) (bs : List (List ℕ)) → rises last bs ≡ true → IsRising last bs
unfolding rises
rises_so last [] h = tt
rises_so last (b ∷ bs) h = let two = and_parts (is_above last b) (rises (Some b) bs) h in (two.0, rises_so (Some b) bs two.1)

abbrev pub no_fault : Option IdFault → Bool
no_fault None = true
no_fault (Some fault) = false

pub is_none : (o : Option IdFault) → no_fault o ≡ true → o ≡ None
is_none None h = refl
is_none (Some fault) h = absurd cc

ids_so : (bs : List (List ℕ)) → list_all (λ b. no_fault (id_fault b)) bs ≡ true → AllByRecursion IsId bs
ids_so [] h = tt
ids_so (b ∷ bs) h = let two = and_parts (no_fault (id_fault b)) (list_all (λ b. no_fault (id_fault b)) bs) h in (is_none (id_fault b) two.0, ids_so bs two.1)

abbrev names : ℕ → List (List ℕ)
names n = map (λ below. shard_name (below + 1)) (range_with_len 0 n)

names_rise : passes_below (λ n. rises None (names n)) 16 ≡ true
unfolding rises
names_rise = refl

names_are_ids : passes_below (λ n. list_all (λ b. no_fault (id_fault b)) (names n)) 16 ≡ true
unfolding id_fault first_below
names_are_ids = refl

pub fits_layout : (shards : ℕ) → shards ≤ 16 → FitsLayout (boundaries shards)
unfolding boundaries
fits_layout shards few =
    let low : shards - 1 < 16 = omega arith in
    let long : length (names (shards - 1)) ≡ shards - 1 = length-map-range_with_len (λ below. shard_name (below + 1)) 0 (shards - 1) in
    ((omega arith, rises_so None (names (shards - 1)) (passes_at (λ n. rises None (names n)) 16 (shards - 1) names_rise low)), ids_so (names (shards - 1)) (passes_at (λ n. list_all (λ b. no_fault (id_fault b)) (names n)) 16 (shards - 1) names_are_ids low))

-- the layout that was read is the one that was spelled
abbrev read : List (List ℕ) → Result (List (List ℕ)) RecordFault
read boundaries = Ok boundaries

pub given : (want got : List (List ℕ)) → read want ≡ read got → got ≡ want
given want got same = cc
