-- Parts of nodes, read back as nibbles.
use Rattle.std.proofs.Common.{◌≡◌, ◌<◌, ◌+◌, ◌*◌, ◌/◌, ◌%◌, ℕ, suc, Bool, true, false, cond, eqb, List, [], ◌∷◌, length, drop, slice_index, refl, ap, ◌∙◌, arith, inl, inr, eq-eqb}
use Rattle.std.proofs.lemmas.Bool.{cases_lt}
use Rattle.nr_triedef.specs.Node.{nibbles, IsNibbles, paired, key_part}
use Rattle.nr_triedef.proofs.Parts.{part_odd, part_even}
use Rattle.nr_walk.specs.Told.{part_nibbles}

nibbles_paired : (key : List ℕ) → IsNibbles key → length key % 2 ≡ 0 → nibbles (paired key) ≡ key
nibbles_paired [] small even = refl
nibbles_paired (x ∷ []) small even = absurd (omega arith)
nibbles_paired (x ∷ y ∷ key) small even =
    let high : (16 * x + y) / 16 ≡ x = omega (arith, small 1) in
    let low : (16 * x + y) % 16 ≡ y = omega (arith, small 1) in
    let rest : nibbles (paired key) ≡ key = nibbles_paired key (λ i. small (suc (suc i))) (omega arith) in
    λ i. high i ∷ low i ∷ rest i

flag_small : (leaf : Bool) → (cond leaf 32 0 / 16 % 2 ≡ 0) × (cond leaf 32 0 % 16 ≡ 0)
flag_small true = (refl, refl)
flag_small false = (refl, refl)

flag_odd : (leaf : Bool) (x : ℕ) → x < 16 → ((cond leaf 32 0 + 16 + x) / 16 % 2 ≡ 1) × ((cond leaf 32 0 + 16 + x) % 16 ≡ x)
flag_odd true x small = (omega arith, omega arith)
flag_odd false x small = (omega arith, omega arith)

first_of_odd : (key : List ℕ) → IsNibbles key → length key % 2 ≡ 1 → (slice_index key 0 ∷ nibbles (paired (drop 1 key)) ≡ key)
first_of_odd [] small odd = absurd (omega arith)
first_of_odd (x ∷ key) small odd = ap (λ (ys : List ℕ). x ∷ ys) (nibbles_paired key (λ i. small (suc i)) (omega arith))

-- a part stands for the nibbles of which it was made
pub part_back : (leaf : Bool) (key : List ℕ) → IsNibbles key → part_nibbles (key_part key leaf) ≡ key
part_back leaf key small =
    elim (cases_lt (length key % 2) 1) [
      | inl lt ↦
          let even : length key % 2 ≡ 0 = omega arith in
          let f = flag_small leaf in
          let test : eqb (cond leaf 32 0 / 16 % 2) 0 ≡ true = eq-eqb _ _ f.0 in
          ap part_nibbles (part_even leaf (cond leaf 32 0) key refl even)
          ∙ ap (λ b. cond b (nibbles (paired key)) (cond leaf 32 0 % 16 ∷ nibbles (paired key))) test ∙ nibbles_paired key small even
      | inr le ↦
          let odd : length key % 2 ≡ 1 = omega arith in
          let f = flag_odd leaf (slice_index key 0) (small 0) in
          let test : eqb ((cond leaf 32 0 + 16 + slice_index key 0) / 16 % 2) 0 ≡ false = ap (λ (n : ℕ). eqb n 0) f.0 in
          ap part_nibbles (part_odd leaf (cond leaf 32 0) key refl odd)
          ∙ ap (λ b. cond b (nibbles (paired (drop 1 key))) ((cond leaf 32 0 + 16 + slice_index key 0) % 16 ∷ nibbles (paired (drop 1 key)))) test
          ∙ ap (λ (n : ℕ). n ∷ nibbles (paired (drop 1 key))) f.1 ∙ first_of_odd key small odd
    ]
