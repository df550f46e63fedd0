-- Bounds of the entries of a valid configuration, for callers.
use Rattle.std.proofs.Common.{◌≡◌, ℕ, zero, suc, ◌-◌, ◌+◌, ◌^◌, ◌≤◌, ◌<◌, List, [], ◌∷◌, drop, true, nat_le, slice_index, refl, arith}
use Rattle.std.specs.List.{list_all}
use Rattle.std.proofs.lemmas.Bool.{leb-true, and_parts}
use Rattle.std.proofs.lemmas.List.{get_or-drop}
use Rattle.nr_config.specs.Table.{table}
use Rattle.nr_config.specs.Config.{Config, entry, greatest, gas_price, IsValidConfig}

-- no number of a list is above m
at-most : (m : ℕ) (xs : List ℕ) (k : ℕ) → list_all (λ x. nat_le x m) xs ≡ true → slice_index xs k ≤ m
at-most m [] k e = omega arith
at-most m (x ∷ xs) zero e = leb-true x m (and_parts (nat_le x m) (list_all (λ y. nat_le y m) xs) e).0
at-most m (x ∷ xs) (suc k) e = at-most m xs k (and_parts (nat_le x m) (list_all (λ y. nat_le y m) xs) e).1

greatest-fits : (n : ℕ) → entry greatest n ≤ 2 ^ 64 - 1
unfolding greatest table
greatest-fits n = at-most (2 ^ 64 - 1) greatest (n - 1) refl

greatest-fee : (k : ℕ) → slice_index (drop 33 greatest) k ≤ 10 ^ 15
unfolding greatest table
greatest-fee k = at-most (10 ^ 15) (drop 33 greatest) k refl

-- an entry fits a u64
pub entry-fits : (c : Config) (n : ℕ) → IsValidConfig c → 1 ≤ n → n ≤ 75 → entry c n < 2 ^ 64
entry-fits c n v low high = omega (arith, (v.within n low high).1, greatest-fits n)

-- the entries from 34 on are the fees
pub fee-bound : (c : Config) (n : ℕ) → IsValidConfig c → 34 ≤ n → n ≤ 75 → entry c n ≤ 10 ^ 15
fee-bound c n v low high =
    let k : n - 1 ≡ 33 + (n - 34) = omega arith in
    let most : entry greatest n ≤ 10 ^ 15 = rw (k, ← get_or-drop 33 greatest (n - 34) 0) (greatest-fee (n - 34)) in
    omega (arith, (v.within n (omega arith) high).1, most)

pub gas_price-fits : (c : Config) → IsValidConfig c → gas_price c < 2 ^ 64
gas_price-fits c v = entry-fits c 1 v (omega arith) (omega arith)
