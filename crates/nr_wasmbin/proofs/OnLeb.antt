-- Numbers in LEB128, by their first byte.
use Rattle.std.proofs.Common.{◌≡◌, ◌≢◌, ℕ, zero, suc, ◌+◌, ◌-◌, ◌*◌, ◌/◌, ◌%◌, ◌^◌, ◌<◌, ◌≤◌, List, [], ◌∷◌, length, Ok, Err, refl, sym, ap, ◌∙◌, arith, lit<, Bool, true, false, drop, get_or, length-drop}
use Rattle.std.specs.Prelude.{IfOk}
use Rattle.std.proofs.lemmas.Bool.{lt-ltb, le-ltb, le-leb, lt-leb}
use Rattle.std.proofs.lemmas.List.{drop_more}
use Rattle.std.proofs.lemmas.Nat.{pow_pos, pow-add, shr_split, mul-le, mul-add-lt}
use Rattle.std.proofs.Math.Nat.{pow-le-pow_right, add-mul, mul_assoc, mul_comm}
use Rattle.nr_wasmbin.specs.Leb.{Found, unsigned, signed, lengthened, number}
use Rattle.nr_wasmbin.specs.declared.leb.LebFault.{LebFault}
use Rattle.nr_wasmbin.specs.declared.leb.LebFault.TheVariants.{Short, Leb}

-- ---- powers
pub wide : (bits : ℕ) → 7 ≤ bits → 128 ≤ 2 ^ bits
wide bits h = pow-le-pow_right {n = 2} (lit< tt) {i = 7} {j = bits} h

pub most : (bits : ℕ) → bits ≤ 64 → 2 ^ bits ≤ 2 ^ 64
most bits h = pow-le-pow_right {n = 2} (lit< tt) {i = bits} {j = 64} h

pub seven_more : (bits : ℕ) → 7 < bits → 2 ^ bits ≡ 2 ^ (bits - 7) * 128
seven_more bits h = let e : bits ≡ (bits - 7) + 7 = omega arith in ap (λ n. 2 ^ n) e ∙ pow-add 2 (bits - 7) 7

pub one_more : (bits : ℕ) → 0 < bits → 2 ^ bits ≡ 2 ^ (bits - 1) * 2
one_more bits h = let e : bits ≡ (bits - 1) + 1 = omega arith in ap (λ n. 2 ^ n) e ∙ pow-add 2 (bits - 1) 1

-- ---- which bits are used
parts_above : (n p q r : ℕ) → q * p + r ≡ n → q ≢ 0 → p ≤ n
parts_above n p zero r e h = absurd (h refl)
parts_above n p (suc q) r e h = omega (arith, e)

pub above : (n k : ℕ) → n / 2 ^ k ≢ 0 → 2 ^ k ≤ n
above n k h = parts_above n (2 ^ k) (n / 2 ^ k) (n % 2 ^ k) (shr_split n k) h

pub below : (n k : ℕ) → n / 2 ^ k ≡ 0 → n < 2 ^ k
below n k h =
    let whole : 0 * 2 ^ k + n % 2 ^ k ≡ n = ap (λ q. q * 2 ^ k + n % 2 ^ k) (sym h) ∙ shr_split n k in
    let some : 0 < 2 ^ k = pow_pos k in
    omega (arith, whole, some)

-- ---- unsigned numbers
pub unsigned_none : (bits : ℕ) (bytes : List ℕ) → length bytes ≡ 0 → unsigned bits bytes ≡ Err Short
unfolding unsigned
unsigned_none bits [] h = refl
unsigned_none bits (b ∷ bs) h = absurd (omega arith)

pub unsigned_last : (bits : ℕ) (bytes : List ℕ) (b : ℕ) (bs : List ℕ) → bytes ≡ b ∷ bs → b < 128 → b < 2 ^ bits → unsigned bits bytes ≡ Ok (b, 1)
unfolding unsigned
unsigned_last bits bytes b bs e low fits = ap (unsigned bits) e ∙ rw (lt-ltb b 128 low, lt-ltb b (2 ^ bits) fits) refl

pub unsigned_unused : (bits : ℕ) (bytes : List ℕ) (b : ℕ) (bs : List ℕ) → bytes ≡ b ∷ bs → b < 128 → 2 ^ bits ≤ b → unsigned bits bytes ≡ Err Leb
unfolding unsigned
unsigned_unused bits bytes b bs e low fits = ap (unsigned bits) e ∙ rw (lt-ltb b 128 low, le-ltb b (2 ^ bits) fits) refl

pub unsigned_long : (bits : ℕ) (bytes : List ℕ) (b : ℕ) (bs : List ℕ) → bytes ≡ b ∷ bs → 128 ≤ b → bits ≤ 7 → unsigned bits bytes ≡ Err Leb
unfolding unsigned
unsigned_long bits bytes b bs e high few = ap (unsigned bits) e ∙ rw (le-ltb b 128 high, le-leb bits 7 few) refl

pub unsigned_more : (bits : ℕ) (bytes : List ℕ) (b : ℕ) (bs : List ℕ) (r : Found) → bytes ≡ b ∷ bs → 128 ≤ b → 7 < bits → unsigned (bits - 7) bs ≡ r → unsigned bits bytes ≡ lengthened b r
unfolding unsigned
unsigned_more bits bytes b bs r e high many is = ap (unsigned bits) e ∙ rw (le-ltb b 128 high, lt-leb bits 7 many) (ap (lengthened b) is)

-- ---- signed numbers
pub signed_none : (bits : ℕ) (bytes : List ℕ) → length bytes ≡ 0 → signed bits bytes ≡ Err Short
unfolding signed
signed_none bits [] h = refl
signed_none bits (b ∷ bs) h = absurd (omega arith)

pub signed_last : (bits : ℕ) (bytes : List ℕ) (b : ℕ) (bs : List ℕ) → bytes ≡ b ∷ bs → b < 64 → b < 2 ^ (bits - 1) → signed bits bytes ≡ Ok (b, 1)
unfolding signed
signed_last bits bytes b bs e low fits = ap (signed bits) e ∙ rw (lt-ltb b 64 low, lt-ltb b (2 ^ (bits - 1)) fits) refl

pub signed_unused : (bits : ℕ) (bytes : List ℕ) (b : ℕ) (bs : List ℕ) → bytes ≡ b ∷ bs → b < 64 → 2 ^ (bits - 1) ≤ b → signed bits bytes ≡ Err Leb
unfolding signed
signed_unused bits bytes b bs e low fits = ap (signed bits) e ∙ rw (lt-ltb b 64 low, le-ltb b (2 ^ (bits - 1)) fits) refl

pub signed_negative : (bits : ℕ) (bytes : List ℕ) (b : ℕ) (bs : List ℕ) → bytes ≡ b ∷ bs → 64 ≤ b → b < 128 → 127 - b < 2 ^ (bits - 1) → signed bits bytes ≡ Ok (2 ^ bits - 1 - (127 - b), 1)
unfolding signed
signed_negative bits bytes b bs e low high fits = ap (signed bits) e ∙ rw (le-ltb b 64 low, lt-ltb b 128 high, lt-ltb (127 - b) (2 ^ (bits - 1)) fits) refl

pub signed_unused_negative : (bits : ℕ) (bytes : List ℕ) (b : ℕ) (bs : List ℕ) → bytes ≡ b ∷ bs → 64 ≤ b → b < 128 → 2 ^ (bits - 1) ≤ 127 - b → signed bits bytes ≡ Err Leb
unfolding signed
signed_unused_negative bits bytes b bs e low high fits = ap (signed bits) e ∙ rw (le-ltb b 64 low, lt-ltb b 128 high, le-ltb (127 - b) (2 ^ (bits - 1)) fits) refl

pub signed_long : (bits : ℕ) (bytes : List ℕ) (b : ℕ) (bs : List ℕ) → bytes ≡ b ∷ bs → 128 ≤ b → bits ≤ 7 → signed bits bytes ≡ Err Leb
unfolding signed
signed_long bits bytes b bs e high few = let low : 64 ≤ b = omega arith in ap (signed bits) e ∙ rw (le-ltb b 64 low, le-ltb b 128 high, le-leb bits 7 few) refl

pub signed_more : (bits : ℕ) (bytes : List ℕ) (b : ℕ) (bs : List ℕ) (r : Found) → bytes ≡ b ∷ bs → 128 ≤ b → 7 < bits → signed (bits - 7) bs ≡ r → signed bits bytes ≡ lengthened b r
unfolding signed
signed_more bits bytes b bs r e high many is = let low : 64 ≤ b = omega arith in ap (signed bits) e ∙ rw (le-ltb b 64 low, le-ltb b 128 high, lt-leb bits 7 many) (ap (lengthened b) is)

-- ---- a last byte
pub half_is : (bits : ℕ) → 0 < bits → bits ≤ 64 → (1 * 2 ^ (bits - 1)) % 2 ^ 64 ≡ 2 ^ (bits - 1)
half_is bits some few = let positive : 0 < 2 ^ (bits - 1) = pow_pos (bits - 1) in omega (arith, one_more bits some, most bits few, positive)

pub value_is : (bits part half : ℕ) → 0 < bits → half ≡ 2 ^ (bits - 1) → part < half → half - 1 - part + half ≡ 2 ^ bits - 1 - part
value_is bits part half some is lt = omega (arith, one_more bits some)

abbrev pub found : ℕ → Found
found n = Ok (n, 1)

-- ---- signed or not
pub number_none : (s : Bool) (bits : ℕ) (bytes : List ℕ) → length bytes ≡ 0 → number s bits bytes ≡ Err Short
number_none true bits bytes h = signed_none bits bytes h
number_none false bits bytes h = unsigned_none bits bytes h

pub number_long : (s : Bool) (bits b : ℕ) (bs : List ℕ) → 128 ≤ b → bits ≤ 7 → number s bits (b ∷ bs) ≡ Err Leb
number_long true bits b bs high few = signed_long bits (b ∷ bs) b bs refl high few
number_long false bits b bs high few = unsigned_long bits (b ∷ bs) b bs refl high few

number_more : (s : Bool) (bits b : ℕ) (bs : List ℕ) → 128 ≤ b → 7 < bits → number s bits (b ∷ bs) ≡ lengthened b (number s (bits - 7) bs)
number_more true bits b bs high many = signed_more bits (b ∷ bs) b bs (signed (bits - 7) bs) refl high many refl
number_more false bits b bs high many = unsigned_more bits (b ∷ bs) b bs (unsigned (bits - 7) bs) refl high many refl

-- ---- a number of which so many bytes are read, the lowest: they are `low`, which is below `width`
abbrev pub behind : ℕ → ℕ → ℕ → Found → Found
behind width low count (Ok r) = Ok (r.0 * width + low, r.1 + count)
behind width low count (Err e) = Err e

abbrev pub found_in : ℕ → ℕ → Found
found_in n k = Ok (n, k)

abbrev pub refused : LebFault → Found
refused e = Err e

turned : (p q r : ℕ) → p + q + r ≡ p + (r + q)
turned p q r = omega arith

apart : (high d w low : ℕ) → (high * 128 + d) * w + low ≡ high * (w * 128) + (low + d * w)
apart high d w low =
    ap (λ (n : ℕ). n + low) (add-mul (high * 128) d w ∙ ap (λ (n : ℕ). n + d * w) (mul_assoc high 128 w ∙ ap (λ (n : ℕ). high * n) (mul_comm 128 w)))
    ∙ turned (high * (w * 128)) (d * w) low

one_later : (k count : ℕ) → k + 1 + count ≡ k + (count + 1)
one_later k count = omega arith

behind_more : (w low count b : ℕ) (r : Found) → behind w low count (lengthened b r) ≡ behind (w * 128) (low + (b - 128) * w) (count + 1) r
behind_more w low count b (Ok r) =
    ap (λ (n : ℕ). found_in n (r.1 + 1 + count)) (apart r.0 (b - 128) w low)
    ∙ ap (λ (k : ℕ). found_in (r.0 * (w * 128) + (low + (b - 128) * w)) k) (one_later r.1 count)
behind_more w low count b (Err e) = refl

behind_first : (b : ℕ) (r : Found) → behind 128 (b - 128) 1 r ≡ lengthened b r
behind_first b (Ok r) = refl
behind_first b (Err e) = refl

pub begins : (s : Bool) (bits first : ℕ) (others : List ℕ) → 128 ≤ first → 7 < bits → behind 128 (first - 128) (0 + 1) (number s (bits - 7) (drop 0 others)) ≡ number s bits (first ∷ others)
begins s bits first others high many = behind_first first (number s (bits - 7) others) ∙ sym (number_more s bits first others high many)

-- what stands at the next byte
comes_to : (s : Bool) (bits w low index b : ℕ) (others : List ℕ) (r total : Found) → index < length others → b ≡ get_or others index 0 → r ≡ number s bits (b ∷ drop (index + 1) others)
    → behind w low (index + 1) (number s bits (drop index others)) ≡ total → behind w low (index + 1) r ≡ total
comes_to s bits w low index b others r total within is next so_far =
    let left : drop index others ≡ b ∷ drop (index + 1) others = drop_more others index 0 within ∙ ap (λ (x : ℕ). x ∷ drop (index + 1) others) (sym is) in
    ap (behind w low (index + 1)) (next ∙ ap (number s bits) (sym left)) ∙ so_far

pub comes_found : (s : Bool) (bits w low index b : ℕ) (others : List ℕ) (high count : ℕ) (total : Found) → index < length others → b ≡ get_or others index 0 → found_in high count ≡ number s bits (b ∷ drop (index + 1) others)
    → behind w low (index + 1) (number s bits (drop index others)) ≡ total → found_in (high * w + low) (count + (index + 1)) ≡ total
comes_found s bits w low index b others high count total within is next so_far = comes_to s bits w low index b others (found_in high count) total within is next so_far

pub comes_refused : (s : Bool) (bits w low index b : ℕ) (others : List ℕ) (e : LebFault) (total : Found) → index < length others → b ≡ get_or others index 0 → refused e ≡ number s bits (b ∷ drop (index + 1) others)
    → behind w low (index + 1) (number s bits (drop index others)) ≡ total → refused e ≡ total
comes_refused s bits w low index b others e total within is next so_far = comes_to s bits w low index b others (refused e) total within is next so_far

pub goes_further : (s : Bool) (bits w low index b : ℕ) (others : List ℕ) (total : Found) → index < length others → b ≡ get_or others index 0 → 128 ≤ b → 7 < bits
    → behind w low (index + 1) (number s bits (drop index others)) ≡ total
    → behind (w * 128) (low + (b - 128) * w) (index + 1 + 1) (number s (bits - 7) (drop (index + 1) others)) ≡ total
goes_further s bits w low index b others total within is high many so_far =
    let left = number s (bits - 7) (drop (index + 1) others) in
    sym (behind_more w low (index + 1) b left)
    ∙ comes_to s bits w low index b others (lengthened b left) total within is (sym (number_more s bits b (drop (index + 1) others) high many)) so_far

pub runs_out : (s : Bool) (bits w low index : ℕ) (others : List ℕ) (total : Found) → length others ≤ index → behind w low (index + 1) (number s bits (drop index others)) ≡ total → refused Short ≡ total
runs_out s bits w low index others total past so_far =
    let none : length (drop index others) ≡ 0 = omega (arith, length-drop index others) in
    sym (ap (behind w low (index + 1)) (number_none s bits (drop index others) none)) ∙ so_far

pub within_longer : (r : Found) (n m : ℕ) → n + 1 ≡ m → IfOk r (λ (x : ℕ × ℕ). (0 < x.1) × (x.1 ≤ n + 1)) → IfOk r (λ (x : ℕ × ℕ). (0 < x.1) × (x.1 ≤ m))
within_longer (Ok x) n m e h = (h.0, omega (arith, h.1))
within_longer (Err f) n m e h = tt

-- ---- what fits
pub spans_first : (bits : ℕ) → 7 < bits → 128 * 2 ^ (bits - 7) ≡ 2 ^ bits
spans_first bits h = mul_comm 128 (2 ^ (bits - 7)) ∙ sym (seven_more bits h)

pub spans_more : (w left bits : ℕ) → 7 < left → w * 2 ^ left ≡ 2 ^ bits → w * 128 * 2 ^ (left - 7) ≡ 2 ^ bits
spans_more w left bits h spans = mul_assoc w 128 (2 ^ (left - 7)) ∙ ap (λ (n : ℕ). w * n) (mul_comm 128 (2 ^ (left - 7)) ∙ sym (seven_more left h)) ∙ spans

wider : (bits : ℕ) → 7 < bits → 256 ≤ 2 ^ bits
wider bits h = let long : 8 ≤ bits = omega arith in pow-le-pow_right {n = 2} (lit< tt) {i = 8} {j = bits} long

pub room : (w left bits : ℕ) → 7 < left → bits ≤ 64 → w * 2 ^ left ≡ 2 ^ bits → w * 256 ≤ 2 ^ 64
room w left bits many few spans =
    let same : w ≤ w = omega arith in
    omega (arith, mul-le w 256 w (2 ^ left) same (wider left many), spans, most bits few)

digit_below : (digit w low : ℕ) → digit < 128 → low < w → low + digit * w < w * 128
digit_below digit w low small fits = omega (arith, mul-add-lt digit w low 128 small fits)

pub digit_fits : (b w low : ℕ) → b < 256 → low < w → low + (b - 128) * w < w * 128
digit_fits b w low byte fits =
    let small : b - 128 < 128 = omega arith in
    digit_below (b - 128) w low small fits
