-- Numbers in a memory's bytes, as the code reads and writes them.
use Rattle.std.proofs.Common.{◌≡◌, ℕ, zero, suc, ◌+◌, ◌*◌, ◌/◌, ◌%◌, ◌^◌, ◌<◌, List, [], ◌∷◌, length, refl, ap, ◌∙◌, arith}
use Rattle.std.specs.Prelude.{slice_index}
use Rattle.std.specs.Int.{w16, w32, w64, from_le_bytes, to_le_bytes}
use Rattle.std.proofs.Math.Nat.{pow-suc}
use Rattle.std.proofs.Math.Arith.{mod-mul}
use Rattle.nr_bytes.specs.Numbers.{little, number}
use Rattle.nr_bytes.proofs.Numbers.{number_2, number_4, number_8, bytes_written}

some_bytes : (k : ℕ) → 0 < 256 ^ k
some_bytes zero = omega arith
some_bytes (suc k) = omega (arith, some_bytes k, pow-suc 256 k)

-- what is above the lowest k bytes isn't written
little-mod : (k n : ℕ) → little k (n % 256 ^ k) ≡ little k n
unfolding little
little-mod zero n = refl
little-mod (suc k) n =
    let power : 256 ^ suc k ≡ 256 ^ k * 256 = pow-suc 256 k in
    let digits : n % 256 ^ suc k ≡ (n / 256 % 256 ^ k) * 256 + n % 256 = ap (λ m. n % m) power ∙ mod-mul n (some_bytes k) (omega arith) in
    let first : n % 256 ^ suc k % 256 ≡ n % 256 = ap (λ m. m % 256) digits ∙ omega arith in
    let others : n % 256 ^ suc k / 256 ≡ n / 256 % 256 ^ k = ap (λ m. m / 256) digits ∙ omega arith in
    rw (first, others, little-mod k (n / 256)) refl

pub low_1 : (n : ℕ) → n % 2 ^ 8 ∷ [] ≡ little 1 n
unfolding little
low_1 n = refl

pub low_2 : (n : ℕ) → to_le_bytes w16 (n % 2 ^ 16) ≡ little 2 n
low_2 n = bytes_written 2 (n % 2 ^ 16) ∙ little-mod 2 n

pub low_4 : (n : ℕ) → to_le_bytes w32 (n % 2 ^ 32) ≡ little 4 n
low_4 n = bytes_written 4 (n % 2 ^ 32) ∙ little-mod 4 n

pub low_8 : (n : ℕ) → to_le_bytes w64 n ≡ little 8 n
low_8 n = bytes_written 8 n

pub read_2 : (bytes : List ℕ) → length bytes ≡ 2
    → from_le_bytes w16 (slice_index bytes 0 ∷ slice_index bytes 1 ∷ []) ≡ number bytes
read_2 bytes len = omega (arith, number_2 bytes len)

pub read_4 : (bytes : List ℕ) → length bytes ≡ 4
    → from_le_bytes w32 (slice_index bytes 0 ∷ slice_index bytes 1 ∷ slice_index bytes 2 ∷ slice_index bytes 3 ∷ []) ≡ number bytes
read_4 bytes len = omega (arith, number_4 bytes len)

pub read_8 : (bytes : List ℕ) → length bytes ≡ 8
    → from_le_bytes w64 (slice_index bytes 0 ∷ slice_index bytes 1 ∷ slice_index bytes 2 ∷ slice_index bytes 3 ∷ slice_index bytes 4 ∷ slice_index bytes 5 ∷ slice_index bytes 6 ∷ slice_index bytes 7 ∷ []) ≡ number bytes
read_8 bytes len = omega (arith, number_8 bytes len)
