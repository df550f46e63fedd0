-- Parts of keys, nibble by nibble.
use Rattle.std.proofs.Common.{◌≡◌, ◌<◌, ◌≤◌, ◌+◌, ◌*◌, ◌/◌, ◌%◌, ◌^◌, ℕ, zero, suc, Bool, true, false, cond, List, [], ◌∷◌, ◌++◌, length, take, drop, get_or, slice_index, Option, Some, None, refl, ap, arith, inl, inr, eq-eqb, add-one, length-drop}
use Rattle.std.proofs.Math.Nat.{pow-suc, pow-le-pow_right}
use Rattle.nr_bytes.specs.Numbers.{IsBytes}
use Rattle.nr_ids.specs.declared.key.Hash32.{Hash32}
use Rattle.nr_triedef.specs.Node.{nibbles, IsNibbles, paired, key_part, is_flag, is_part, nibble_count, IsNode, bitmap}
use Rattle.nr_triedef.specs.declared.node.Node.TheVariants.{Leaf, Extension}
use Rattle.std.proofs.lemmas.Bool.{cases_lt, or_right}

nibbles_suc : (key : List ℕ) (i : ℕ) → i < length key → nibbles (take (suc i) key) ≡ nibbles (take i key) ++ get_or key i 0 / 16 ∷ get_or key i 0 % 16 ∷ []
nibbles_suc [] i lt = absurd (omega arith)
nibbles_suc (b ∷ key) zero lt = refl
nibbles_suc (b ∷ key) (suc i) lt = ap (λ (t : List ℕ). b / 16 ∷ b % 16 ∷ t) (nibbles_suc key i (omega arith))

pub nibbles_more : (key : List ℕ) (i : ℕ) → i < length key → nibbles (take (i + 1) key) ≡ nibbles (take i key) ++ get_or key i 0 / 16 ∷ get_or key i 0 % 16 ∷ []
nibbles_more key i lt = rw (add-one i) (nibbles_suc key i lt)

pub nibbles_small : (key : List ℕ) → IsBytes key → IsNibbles (nibbles key)
nibbles_small [] fits i = omega arith
nibbles_small (b ∷ key) fits zero = omega (arith, fits 0)
nibbles_small (b ∷ key) fits (suc zero) = omega arith
nibbles_small (b ∷ key) fits (suc (suc i)) = nibbles_small key (λ j. fits (suc j)) i

pub part_odd : (leaf : Bool) (flag : ℕ) (key : List ℕ) → flag ≡ cond leaf 32 0 → length key % 2 ≡ 1 → key_part key leaf ≡ (flag + 16 + slice_index key 0) ∷ paired (drop 1 key)
unfolding key_part
part_odd leaf flag [] is odd = absurd (omega arith)
part_odd true flag (x ∷ key) is odd = rw (odd, is) (ap (λ n. n ∷ paired key) (omega arith))
part_odd false flag (x ∷ key) is odd = rw (odd, is) (ap (λ n. n ∷ paired key) (omega arith))

pub part_even : (leaf : Bool) (flag : ℕ) (key : List ℕ) → flag ≡ cond leaf 32 0 → length key % 2 ≡ 0 → key_part key leaf ≡ flag ∷ paired key
unfolding key_part
part_even true flag key is even = rw (even, is) refl
part_even false flag key is even = rw (even, is) refl

pub bitmap_bound : (children : List (Option Hash32)) → bitmap children < 2 ^ length children
bitmap_bound [] = omega arith
bitmap_bound (None ∷ children) = omega (arith, bitmap_bound children, pow-suc 2 (length children))
bitmap_bound (Some hash ∷ children) = omega (arith, bitmap_bound children, pow-suc 2 (length children))

pub bitmap_fits : (children : List (Option Hash32)) (i : ℕ) → length children ≡ 16 → 0 < i → bitmap (drop i children) < 32768
bitmap_fits children i full above =
    let short : length (drop i children) ≤ 15 = omega (arith, length-drop i children) in
    let power : 2 ^ length (drop i children) ≤ 32768 = pow-le-pow_right {n = 2} (omega arith) short in
    omega (arith, power, bitmap_bound (drop i children))

paired-length : (key : List ℕ) → length key % 2 ≡ 0 → 2 * length (paired key) ≡ length key
paired-length [] even = refl
paired-length (x ∷ []) even = absurd (omega arith)
paired-length (x ∷ y ∷ key) even =
    let less : length key % 2 ≡ 0 = omega arith in
    omega (arith, paired-length key less)

flag_alone : (leaf : Bool) → is_flag leaf (cond leaf 32 0) ≡ true
flag_alone true = refl
flag_alone false = refl

flag_with : (leaf : Bool) (x : ℕ) → x < 16 → is_flag leaf (cond leaf 32 0 + 16 + x) ≡ true
flag_with true x small = or_right _ _ (eq-eqb ((32 + 16 + x) / 16) 3 (omega arith))
flag_with false x small = or_right _ _ (eq-eqb ((0 + 16 + x) / 16) 1 (omega arith))

count_alone : (leaf : Bool) → cond leaf 32 0 / 16 % 2 ≡ 0
count_alone true = refl
count_alone false = refl

count_with : (leaf : Bool) (x : ℕ) → x < 16 → (cond leaf 32 0 + 16 + x) / 16 % 2 ≡ 1
count_with true x small = omega arith
count_with false x small = omega arith

-- the part of nibbles has the form of a leaf's or an extension's part
pub part_of_nibbles : (leaf : Bool) (key : List ℕ) → IsNibbles key → is_part leaf (key_part key leaf) ≡ true
part_of_nibbles leaf key small =
    elim (cases_lt (length key % 2) 1) [
      | inl lt ↦ rw (part_even leaf (cond leaf 32 0) key refl (omega arith)) (flag_alone leaf)
      | inr le ↦ rw (part_odd leaf (cond leaf 32 0) key refl (omega arith)) (flag_with leaf (slice_index key 0) (small 0))
    ]

-- and stands for them all
pub part-nibble_count : (leaf : Bool) (key : List ℕ) → IsNibbles key → nibble_count (key_part key leaf) ≡ length key
part-nibble_count leaf key small =
    elim (cases_lt (length key % 2) 1) [
      | inl lt ↦ rw (part_even leaf (cond leaf 32 0) key refl (omega arith)) (omega (arith, count_alone leaf, paired-length key (omega arith)))
      | inr le ↦ rw (part_odd leaf (cond leaf 32 0) key refl (omega arith)) (omega (arith, count_with leaf (slice_index key 0) (small 0), paired-length (drop 1 key) (omega (arith, length-drop 1 key)), length-drop 1 key))
    ]

-- so the part of a leaf, and that of an extension with a nibble, is a node's
pub leaf_is_node : (key : List ℕ) (length : ℕ) (hash : Hash32) (usage : ℕ) → IsNibbles key → IsNode (Leaf (key_part key true) length hash usage)
leaf_is_node key length hash usage small = part_of_nibbles true key small

pub extension_is_node : (key : List ℕ) (child : Hash32) (usage : ℕ) → IsNibbles key → 0 < length key → IsNode (Extension (key_part key false) child usage)
extension_is_node key child usage small some = (part_of_nibbles false key small, rw (part-nibble_count false key small) some)
