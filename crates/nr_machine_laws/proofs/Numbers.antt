-- What the operations give is a number of the type.
use Rattle.std.proofs.Common.{ℕ, zero, suc, ◌+◌, ◌-◌, ◌*◌, ◌/◌, ◌%◌, ◌^◌, ◌<◌, ◌≤◌, Bool, true, false, ◌==◌, ◌&&◌}
use Rattle.std.proofs.Common.{arith}
use Rattle.std.proofs.Common.{Result, Ok, Err, ℤ, pos, negsuc, neg_ℤ, mod-lt, div-le_self, pow_pos}
use Rattle.std.specs.Prelude.{if◌then◌else◌, bit_and, int_div, int_rem}
use Rattle.std.specs.Int.{Width, w8, w16, w32, w64, cast_signed, cast_unsigned, int_shr, rotate_left, rotate_right}
use Rattle.std.specs.Int.{from_bool}
use Rattle.std.proofs.lemmas.Nat.{and_le_l, or_lt, xor_lt, leading_le, trailing_le, ones-le}
use native.Mathlib.Nat.{mod-le}
use lib.Signed.{mag, mag_rem, mag_shr}
use mir.Val.{bits, hbits}
use mir.ValLaws.{to_z-Fits, pow-bits}
use Rattle.nr_wasmtypes.specs.Tables.{given_by_convert, given_by_load}
use Rattle.nr_wasmtypes.specs.declared.instr.Arith.{Arith}
use Rattle.nr_wasmtypes.specs.declared.instr.Arith.TheVariants as act
use Rattle.nr_wasmtypes.specs.declared.instr.Compare.{Compare}
use Rattle.nr_wasmtypes.specs.declared.instr.Convert.{Convert}
use Rattle.nr_wasmtypes.specs.declared.instr.Convert.TheVariants as convert
use Rattle.nr_wasmtypes.specs.declared.instr.Count.{Count}
use Rattle.nr_wasmtypes.specs.declared.instr.Count.TheVariants as count
use Rattle.nr_wasmtypes.specs.declared.instr.Load.{Load}
use Rattle.nr_wasmtypes.specs.declared.instr.Load.TheVariants as load
use Rattle.nr_wasmtypes.specs.declared.instr.ValType.{ValType}
use Rattle.nr_wasmtypes.specs.declared.instr.ValType.TheVariants.{I32, I64}
use Rattle.nr_wasmnum.specs.Integers.{IsOf, arith_of, arith_on, bit_count_of, bits_of, compare_of, convert_of}
use Rattle.nr_wasmnum.specs.Integers.{count_on}
use Rattle.nr_wasmnum.specs.Integers.{holds, load_of, low, sign_extended, signed, signed_quotient, signed_remainder}
use Rattle.nr_wasmnum.specs.Integers.{unsigned, width_of, zero_test_of}
use Rattle.nr_wasmnum.specs.declared.fault.NumFault.{NumFault}
use Rattle.nr_wasmnum.specs.declared.fault.NumFault.TheVariants.{ByZero, Overflow}

-- ---- signed numbers
unsigned_fits : (w : Width) (z : ℤ) → mag z < 2 ^ bits w → cast_unsigned w z < 2 ^ bits w
unsigned_fits w (pos n) h = h
unsigned_fits w (negsuc n) h = omega (arith, pow_pos (bits w))

signed_size : (w : Width) (n : ℕ) → n < 2 ^ bits w → mag (cast_signed w n) < 2 ^ hbits w
signed_size w n h = (to_z-Fits w n (record { fits = h })).sfits

neg_size : (r : ℕ) → mag (neg_ℤ (pos r)) ≤ r
neg_size zero = omega arith
neg_size (suc r) = omega arith

quotient_size : (x y : ℤ) → mag (int_div x y) ≤ suc (mag x)
quotient_size (pos a) (pos b) = omega (arith, div-le_self a b)
quotient_size (pos a) (negsuc b) = omega (arith, neg_size (a / suc b), div-le_self a (suc b))
quotient_size (negsuc a) (pos b) = omega (arith, neg_size (suc a / b), div-le_self (suc a) b)
quotient_size (negsuc a) (negsuc b) = omega (arith, div-le_self (suc a) (suc b))

-- a number that is no larger than one more than a signed one
signed_fits : (w : Width) (a : ℕ) (z : ℤ) → a < 2 ^ bits w → mag z ≤ suc (mag (cast_signed w a))
    → cast_unsigned w z < 2 ^ bits w
signed_fits w a z h le = unsigned_fits w z (omega (arith, le, signed_size w a h, pow-bits w, pow_pos (hbits w)))

extended_fits : (narrow wide : Width) (n : ℕ) → n < 2 ^ bits narrow → 2 ^ hbits narrow ≤ 2 ^ bits wide
    → sign_extended narrow wide n < 2 ^ bits wide
extended_fits narrow wide n h le =
    unsigned_fits wide (cast_signed narrow n) (omega (arith, signed_size narrow n h, le))

rotated_left_fits : (w : Width) (a k : ℕ) → a < 2 ^ bits w → rotate_left w a k < 2 ^ bits w
rotated_left_fits w a k h =
    let high : ℕ = (a * 2 ^ (k % bits w)) % 2 ^ bits w in
    let below : ℕ = a / 2 ^ ((bits w - k % bits w) % bits w) in
    let small : below < 2 ^ bits w = omega (arith, h, div-le_self a (2 ^ ((bits w - k % bits w) % bits w))) in
    or_lt (bits w) high below (mod-lt (a * 2 ^ (k % bits w)) (pow_pos (bits w))) small

rotated_right_fits : (w : Width) (a k : ℕ) → a < 2 ^ bits w → rotate_right w a k < 2 ^ bits w
rotated_right_fits w a k h =
    let below : ℕ = a / 2 ^ (k % bits w) in
    let high : ℕ = (a * 2 ^ ((bits w - k % bits w) % bits w)) % 2 ^ bits w in
    let small : below < 2 ^ bits w = omega (arith, h, div-le_self a (2 ^ (k % bits w))) in
    or_lt (bits w) below high small (mod-lt (a * 2 ^ ((bits w - k % bits w) % bits w)) (pow_pos (bits w)))

-- ---- types
to_width : (t : ValType) (n : ℕ) → IsOf t n → n < 2 ^ bits (width_of t)
to_width I32 n h = h
to_width I64 n h = h

of_width : (t : ValType) (n : ℕ) → n < 2 ^ bits (width_of t) → IsOf t n
of_width I32 n h = h
of_width I64 n h = h

low_is : (t : ValType) (n : ℕ) → IsOf t (low t n)
low_is t n = mod-lt n (pow_pos (bits_of t))

-- ---- arithmetic
-- what an operation gives, where it gives a number
abbrev pub OkIs : ValType → Result ℕ NumFault → Type 0
OkIs t (Ok v) = IsOf t v
OkIs t (Err e) = Unit {0}

either : (t : ValType) (b : Bool) (r s : Result ℕ NumFault) → OkIs t r → OkIs t s → OkIs t (if b then r else s)
either t true r s h k = h
either t false r s h k = k

-- a result with the sign of what was divided or shifted
signed_is : (t : ValType) (a : ℕ) (z : ℤ) → IsOf t a → mag z ≤ suc (mag (signed t a)) → IsOf t (unsigned t z)
signed_is t a z h le = of_width t (unsigned t z) (signed_fits (width_of t) a z (to_width t a h) le)

quotient_fits : (t : ValType) (a b : ℕ) → IsOf t a → OkIs t (signed_quotient t a b)
quotient_fits t a b h =
    let z : ℤ = int_div (signed t a) (signed t b) in
    let too_large : Bool = a == 2 ^ (bits_of t - 1) && b == 2 ^ bits_of t - 1 in
    either t (b == 0) (Err ByZero) (if too_large then Err Overflow else Ok (unsigned t z)) tt
    (either t too_large (Err Overflow) (Ok (unsigned t z)) tt
    (signed_is t a z h (quotient_size (signed t a) (signed t b))))

remainder_fits : (t : ValType) (a b : ℕ) → IsOf t a → OkIs t (signed_remainder t a b)
remainder_fits t a b h =
    let z : ℤ = int_rem (signed t a) (signed t b) in
    either t (b == 0) (Err ByZero) (Ok (unsigned t z)) tt
    (signed_is t a z h (omega (arith, mag_rem (signed t a) (signed t b))))

shifted_fits : (t : ValType) (a k : ℕ) → IsOf t a → IsOf t (unsigned t (int_shr (signed t a) k))
shifted_fits t a k h = signed_is t a (int_shr (signed t a) k) h (omega (arith, mag_shr (signed t a) (2 ^ k)))

remains : (t : ValType) (n : ℕ) → IsOf t (n % 2 ^ bits_of t)
remains t n = mod-lt n (pow_pos (bits_of t))

no_more : (t : ValType) (m n : ℕ) → IsOf t n → m ≤ n → IsOf t m
no_more t m n h le = omega (arith, h, le)

arith_on_fits : (t : ValType) (op : Arith) (a b : ℕ) → IsOf t a → IsOf t b → OkIs t (arith_on t op a b)
arith_on_fits t act.Add a b h k = remains t (a + b)
arith_on_fits t act.Sub a b h k = remains t (a + (2 ^ bits_of t - b))
arith_on_fits t act.Mul a b h k = remains t (a * b)
arith_on_fits t act.DivS a b h k = quotient_fits t a b h
arith_on_fits t act.DivU a b h k =
    either t (b == 0) (Err ByZero) (Ok (a / b)) tt (no_more t (a / b) a h (div-le_self a b))
arith_on_fits t act.RemS a b h k = remainder_fits t a b h
arith_on_fits t act.RemU a b h k = either t (b == 0) (Err ByZero) (Ok (a % b)) tt (no_more t (a % b) a h (mod-le a b))
arith_on_fits t act.And a b h k = no_more t (bit_and a b) a h (and_le_l a b)
arith_on_fits t act.Or a b h k = or_lt (bits_of t) a b h k
arith_on_fits t act.Xor a b h k = xor_lt (bits_of t) a b h k
arith_on_fits t act.Shl a b h k = remains t (a * 2 ^ (b % bits_of t))
arith_on_fits t act.ShrS a b h k = shifted_fits t a (b % bits_of t) h
arith_on_fits t act.ShrU a b h k = no_more t (a / 2 ^ (b % bits_of t)) a h (div-le_self a (2 ^ (b % bits_of t)))
arith_on_fits t act.Rotl a b h k =
    of_width t (rotate_left (width_of t) a (b % bits_of t))
    (rotated_left_fits (width_of t) a (b % bits_of t) (to_width t a h))
arith_on_fits t act.Rotr a b h k =
    of_width t (rotate_right (width_of t) a (b % bits_of t))
    (rotated_right_fits (width_of t) a (b % bits_of t) (to_width t a h))

pub arith_fits : (t : ValType) (op : Arith) (a b : ℕ) → OkIs t (arith_of t op a b)
arith_fits t op a b = arith_on_fits t op (low t a) (low t b) (low_is t a) (low_is t b)

-- ---- tests and counts
test_fits : (b : Bool) → IsOf I32 (from_bool b)
test_fits true = omega arith
test_fits false = omega arith

pub compare_fits : (t : ValType) (op : Compare) (a b : ℕ) → IsOf I32 (compare_of t op a b)
compare_fits t op a b = test_fits (holds t op (low t a) (low t b))

pub zero_test_fits : (t : ValType) (a : ℕ) → IsOf I32 (zero_test_of t a)
zero_test_fits t a = test_fits (low t a == 0)

few : (t : ValType) (n : ℕ) → n ≤ bits_of t → IsOf t n
few I32 n h = omega (arith, h)
few I64 n h = omega (arith, h)

count_fits : (t : ValType) (op : Count) (a : ℕ) → IsOf t a → count_on t op a ≤ bits_of t
count_fits I32 count.Clz a h = leading_le 32 a
count_fits I32 count.Ctz a h = trailing_le 32 a
count_fits I32 count.Popcnt a h = ones-le 32 a h
count_fits I64 count.Clz a h = leading_le 64 a
count_fits I64 count.Ctz a h = trailing_le 64 a
count_fits I64 count.Popcnt a h = ones-le 64 a h

pub bit_count_fits : (t : ValType) (op : Count) (a : ℕ) → IsOf t (bit_count_of t op a)
bit_count_fits t op a = few t (count_on t op (low t a)) (count_fits t op (low t a) (low_is t a))

-- ---- changes of type
rest_of : (k n : ℕ) → n % 2 ^ k < 2 ^ k
rest_of k n = mod-lt n (pow_pos k)

pub convert_fits : (op : Convert) (a : ℕ) → IsOf (given_by_convert op) (convert_of op a)
convert_fits convert.Wrap a = rest_of 32 a
convert_fits convert.ExtendS a = extended_fits w32 w64 (a % 2 ^ 32) (rest_of 32 a) (omega arith)
convert_fits convert.ExtendU a = omega (arith, rest_of 32 a)

pub load_fits : (what : Load) (n : ℕ) → IsOf (given_by_load what) (load_of what n)
load_fits load.Full32 n = rest_of 32 n
load_fits load.Full64 n = rest_of 64 n
load_fits load.Signed8To32 n = extended_fits w8 w32 (n % 2 ^ 8) (rest_of 8 n) (omega arith)
load_fits load.Unsigned8To32 n = omega (arith, rest_of 8 n)
load_fits load.Signed16To32 n = extended_fits w16 w32 (n % 2 ^ 16) (rest_of 16 n) (omega arith)
load_fits load.Unsigned16To32 n = omega (arith, rest_of 16 n)
load_fits load.Signed8To64 n = extended_fits w8 w64 (n % 2 ^ 8) (rest_of 8 n) (omega arith)
load_fits load.Unsigned8To64 n = omega (arith, rest_of 8 n)
load_fits load.Signed16To64 n = extended_fits w16 w64 (n % 2 ^ 16) (rest_of 16 n) (omega arith)
load_fits load.Unsigned16To64 n = omega (arith, rest_of 16 n)
load_fits load.Signed32To64 n = extended_fits w32 w64 (n % 2 ^ 32) (rest_of 32 n) (omega arith)
load_fits load.Unsigned32To64 n = omega (arith, rest_of 32 n)
