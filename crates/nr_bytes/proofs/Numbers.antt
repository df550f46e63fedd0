-- What byteorder says of a number's bytes, in the words of this crate; and the laws of the two functions.
use Rattle.std.proofs.Common.{◌≡◌, ℕ, zero, suc, ◌+◌, ◌*◌, ◌/◌, ◌%◌, ◌^◌, ◌<◌, List, [], ◌∷◌, length, drop, get_or, refl, sym, ap, ◌∙◌, arith}
use Rattle.std.proofs.Math.Nat.{div-div-eq-div-mul, pow-suc}
use Rattle.std.specs.Int.{byte_at, bytes_low_first}
use Rattle.std.proofs.lemmas.List.{get_or-drop}
use Rattle.byteorder.specs.Endian.{little_from, little_number, little_bytes}
use Rattle.byteorder.specs.Numbers.{little_from-cons}
use Rattle.nr_bytes.specs.Numbers.{little, number, IsBytes}

byte_at-is : (i n : ℕ) → byte_at i n ≡ n / 256 ^ i % 256
byte_at-is zero n = omega arith
byte_at-is (suc i) n = refl

low_first : (i k n : ℕ) → bytes_low_first i k n ≡ little k (n / 256 ^ i)
unfolding little
low_first i zero n = refl
low_first i (suc k) n =
    let shifted : n / 256 ^ suc i ≡ n / 256 ^ i / 256 = ap (λ p. n / p) (pow-suc 256 i) ∙ sym (div-div-eq-div-mul n (256 ^ i) 256) in
    rw (byte_at-is i n, low_first (suc i) k n, shifted) refl

-- what byteorder writes of a number
pub bytes_written : (k n : ℕ) → little_bytes k n ≡ little k n
bytes_written k n = low_first 0 k n ∙ ap (little k) (omega arith)

from_front : (bytes : List ℕ) → little_from 0 (length bytes) bytes ≡ number bytes
unfolding number
from_front [] = refl
from_front (b ∷ bytes) = rw (little_from-cons 0 (length bytes) b bytes, from_front bytes) refl

-- what byteorder reads from bytes
pub number_read : (k : ℕ) (bytes : List ℕ) → length bytes ≡ k → little_number k bytes ≡ number bytes
number_read k bytes len = ap (λ n. little_from 0 n bytes) (sym len) ∙ from_front bytes

pub number_2 : (bytes : List ℕ) → length bytes ≡ 2 → little_number 2 bytes ≡ number bytes
number_2 bytes len = number_read 2 bytes len

pub written_2 : (n : ℕ) → little_bytes 2 n ≡ little 2 n
written_2 n = bytes_written 2 n

pub number_4 : (bytes : List ℕ) → length bytes ≡ 4 → little_number 4 bytes ≡ number bytes
number_4 bytes len = number_read 4 bytes len

pub written_4 : (n : ℕ) → little_bytes 4 n ≡ little 4 n
written_4 n = bytes_written 4 n

pub number_8 : (bytes : List ℕ) → length bytes ≡ 8 → little_number 8 bytes ≡ number bytes
number_8 bytes len = number_read 8 bytes len

pub written_8 : (n : ℕ) → little_bytes 8 n ≡ little 8 n
written_8 n = bytes_written 8 n

pub number_16 : (bytes : List ℕ) → length bytes ≡ 16 → little_number 16 bytes ≡ number bytes
number_16 bytes len = number_read 16 bytes len

pub written_16 : (n : ℕ) → little_bytes 16 n ≡ little 16 n
written_16 n = bytes_written 16 n

pub length-little : (k n : ℕ) → length (little k n) ≡ k
unfolding little
length-little zero n = refl
length-little (suc k) n = ap suc (length-little k (n / 256))

pub number-little : (k n : ℕ) → n < 256 ^ k → number (little k n) ≡ n
unfolding little number
number-little zero n lt = omega arith
number-little (suc k) n lt =
    let high : n / 256 < 256 ^ k = omega (arith, pow-suc 256 k) in
    rw (number-little k (n / 256) high) (omega arith)

pub little-number : (bytes : List ℕ) → IsBytes bytes → little (length bytes) (number bytes) ≡ bytes
unfolding little number
little-number [] fits = refl
little-number (b ∷ bytes) fits =
    let low : b < 256 = fits 0 in
    let first : (b + 256 * number bytes) % 256 ≡ b = omega arith in
    let others : (b + 256 * number bytes) / 256 ≡ number bytes = omega arith in
    rw (first, others) (ap (λ (t : List ℕ). b ∷ t) (little-number bytes (λ i. fits (suc i))))

pub number-lt : (bytes : List ℕ) → IsBytes bytes → number bytes < 256 ^ length bytes
unfolding number
number-lt [] fits = omega arith
number-lt (b ∷ bytes) fits =
    omega (arith, number-lt bytes (λ i. fits (suc i)), fits 0, pow-suc 256 (length bytes))

pub number_1 : (bytes : List ℕ) → length bytes ≡ 1 → number bytes ≡ get_or bytes 0 0
unfolding number
number_1 [] len = absurd (omega arith)
number_1 (b ∷ []) len = omega arith
number_1 (b ∷ c ∷ bytes) len = absurd (omega arith)

pub bytes_behind : (n : ℕ) (bytes : List ℕ) (i : ℕ) → IsBytes bytes → get_or (drop n bytes) i 0 < 256
bytes_behind n bytes i h = rw get_or-drop (h (n + i))
