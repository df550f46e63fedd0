-- A configuration that was read, or whose numbers pass a test, is valid.
use Rattle.std.proofs.Common.{◌≡◌, ℕ, zero, suc, ◌-◌, ◌+◌, ◌≤◌, ◌<◌, List, [], ◌∷◌, Bool, true, false, ◌&&◌, nat_le, Option, Some, None, Result, Ok, Err, length, map, slice_index, refl, ap, ◌∙◌, arith}
use Rattle.std.proofs.lemmas.Bool.{leb-true, and_parts}
use Rattle.std.proofs.lemmas.Bool.Decides.{nat_tests}
use Rattle.std.specs.Prelude.{option_and_then}
use Rattle.serde_json.specs.Data.{Data}
use Rattle.serde_json.specs.Find.{get, as_number, as_u64}
use Rattle.nr_config.specs.Table.{Row, table}
use Rattle.nr_config.specs.Config.{Config, reward_numerator, reward_denominator, least, greatest, IsValidConfig}
use Rattle.nr_bytes.specs.Reading.{◌>>=◌}
use Rattle.nr_config.specs.Reading.{bounded, named, numbers}
use Rattle.nr_config.specs.declared.fault.ConfigFault.{ConfigFault}

-- each number is within the bounds of its row
abbrev pub AreWithin : List Row → List ℕ → Type 0
AreWithin [] [] = Unit {0}
AreWithin [] (x ∷ xs) = ⊥
AreWithin (r ∷ rs) [] = ⊥
AreWithin (r ∷ rs) (x ∷ xs) = (r.least ≤ x) × (x ≤ r.greatest) × AreWithin rs xs

abbrev pub are_within : List Row → List ℕ → Bool
are_within [] [] = true
are_within [] (x ∷ xs) = false
are_within (r ∷ rs) [] = false
are_within (r ∷ rs) (x ∷ xs) = (nat_le r.least x && nat_le x r.greatest) && are_within rs xs

pub tested : (rs : List Row) (xs : List ℕ) → are_within rs xs ≡ true → AreWithin rs xs
tested [] [] e = tt
tested [] (x ∷ xs) e = cc
tested (r ∷ rs) [] e = cc
tested (r ∷ rs) (x ∷ xs) e =
    let p = and_parts (nat_le r.least x && nat_le x r.greatest) (are_within rs xs) e in
    let q = and_parts (nat_le r.least x) (nat_le x r.greatest) p.0 in
    (leb-true r.least x q.0, leb-true x r.greatest q.1, tested rs xs p.1)

pub within-length : (rs : List Row) (xs : List ℕ) → AreWithin rs xs → length xs ≡ length rs
within-length [] [] h = refl
within-length [] (x ∷ xs) h = absurd h
within-length (r ∷ rs) [] h = absurd h
within-length (r ∷ rs) (x ∷ xs) h = ap suc (within-length rs xs h.2)

pub within-at : (rs : List Row) (xs : List ℕ) (k : ℕ) → k < length rs → AreWithin rs xs
    → (slice_index (map (λ (r : Row). r.least) rs) k ≤ slice_index xs k) × (slice_index xs k ≤ slice_index (map (λ (r : Row). r.greatest) rs) k)
within-at [] xs k l h = absurd (omega arith)
within-at (r ∷ rs) [] k l h = absurd h
within-at (r ∷ rs) (x ∷ xs) zero l h = (h.0, h.1)
within-at (r ∷ rs) (x ∷ xs) (suc k) l h = within-at rs xs k (omega arith) h.2

length-table : length table ≡ 75
unfolding table
length-table = refl

pub valid : (c : Config) → AreWithin table c → reward_numerator c ≤ reward_denominator c → IsValidConfig c
unfolding least greatest
valid c h reward = record {
  whole = within-length table c h ∙ length-table;
  within = λ n low high. within-at table c (n - 1) (omega (arith, length-table)) h;
  reward = reward;
}

pub bounded-within : (n : ℕ) (r : Row) (o : Option ℕ) (x : ℕ) → bounded n r o ≡ Ok x → (r.least ≤ x) × (x ≤ r.greatest)
bounded-within n r None x e = cc
bounded-within n r (Some y) x e = grind (arith, nat_tests, e)

pub named-within : (n : ℕ) (r : Row) (o : Option Data) (x : ℕ) → named n r o ≡ Ok x → (r.least ≤ x) × (x ≤ r.greatest)
named-within n r None x e = cc
named-within n r (Some d) x e = bounded-within n r (option_and_then as_u64 (as_number d)) x e

more-within : (r : Row) (rs : List Row) (first : Result ℕ ConfigFault) (rest : Result (List ℕ) ConfigFault) (c : List ℕ)
    → ((x : ℕ) → first ≡ Ok x → (r.least ≤ x) × (x ≤ r.greatest)) → ((xs : List ℕ) → rest ≡ Ok xs → AreWithin rs xs)
    → (first >>= λ x. rest >>= λ xs. Ok (x ∷ xs)) ≡ Ok c → AreWithin (r ∷ rs) c
more-within r rs (Err e) rest c one others is = cc
more-within r rs (Ok x) (Err e) c one others is = cc
more-within r rs (Ok x) (Ok xs) [] one others is = cc
more-within r rs (Ok x) (Ok xs) (y ∷ ys) one others is =
    let p : x ≡ y = cc in
    let q : xs ≡ ys = cc in
    let b = one y (ap (λ (z : ℕ). Ok z) p) in
    (b.0, b.1, others ys (ap (λ (zs : List ℕ). Ok zs) q))

-- what was read is within the bounds
pub numbers-within : (n : ℕ) (rs : List Row) (d : Data) (c : List ℕ) → numbers n rs d ≡ Ok c → AreWithin rs c
numbers-within n [] d [] e = tt
numbers-within n [] d (x ∷ xs) e = cc
numbers-within n (r ∷ rs) d c e =
    more-within r rs (named n r (get r.name d)) (numbers (n + 1) rs d) c (λ x. named-within n r (get r.name d) x) (λ xs. numbers-within (n + 1) rs d xs) e

pub valid_from_read : (c : Config) (d : Data) → numbers 1 table d ≡ Ok c → reward_numerator c ≤ reward_denominator c → IsValidConfig c
valid_from_read c d e reward = valid c (numbers-within 1 table d c e) reward
