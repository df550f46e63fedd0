-- WebAssembly Core 1.0, "Binary Format", "Integers": numbers in LEB128.
use Rattle.std.specs.Prelude.{◌≡◌, ℕ, ◌+◌, ◌-◌, ◌*◌, ◌<◌, ◌≤◌, ◌^◌, List, [], ◌∷◌, Result, Ok, Err, ◌⊎◌, nat_lt, nat_le}
use Rattle.std.specs.Prelude.{if◌then◌else◌, Bool, true, false}
use Rattle.nr_wasmbin.specs.declared.leb.LebFault.{LebFault}
use Rattle.nr_wasmbin.specs.declared.leb.LebFault.TheVariants.{Short, Leb}

-- ---- which bytes are a number of N bits
-- uN: a byte below 2^7 and below 2^N; or a byte from 2^7 on, whose low seven bits are the lowest, and the rest as a
-- u(N - 7)
abbrev pub IsUnsigned : ℕ → List ℕ → ℕ → Type 0
IsUnsigned bits [] n = ⊥
IsUnsigned bits (b ∷ []) n = (b < 128) × (b < 2 ^ bits) × (n ≡ b)
IsUnsigned bits (b ∷ c ∷ bs) n =
    (128 ≤ b) × (7 < bits) × (high : ℕ) × (n ≡ high * 128 + (b - 128)) × IsUnsigned (bits - 7) (c ∷ bs) high

-- sN in two's complement: the bit of 2^6 of the last byte says the sign
abbrev pub IsLast : ℕ → ℕ → ℕ → Type 0
IsLast bits b n =
    ((b < 64) × (b < 2 ^ (bits - 1)) × (n ≡ b))
    ⊎ ((64 ≤ b) × (b < 128) × (127 - b < 2 ^ (bits - 1)) × (n ≡ 2 ^ bits - 1 - (127 - b)))

abbrev pub IsSigned : ℕ → List ℕ → ℕ → Type 0
IsSigned bits [] n = ⊥
IsSigned bits (b ∷ []) n = IsLast bits b n
IsSigned bits (b ∷ c ∷ bs) n =
    (128 ≤ b) × (7 < bits) × (high : ℕ) × (n ≡ high * 128 + (b - 128)) × IsSigned (bits - 7) (c ∷ bs) high

-- ---- the number at the front and how many bytes it takes, or why there is none
abbrev pub Found : Type 0
Found = Result (ℕ × ℕ) LebFault

abbrev pub lengthened : ℕ → Found → Found
lengthened b (Ok r) = Ok (r.0 * 128 + (b - 128), r.1 + 1)
lengthened b (Err e) = Err e

unfoldable pub unsigned : ℕ → List ℕ → Found
unsigned bits [] = Err Short
unsigned bits (b ∷ bs) =
    if nat_lt b 128 then (if nat_lt b (2 ^ bits) then Ok (b, 1) else Err Leb)
    else (if nat_le bits 7 then Err Leb else lengthened b (unsigned (bits - 7) bs))

unfoldable pub signed : ℕ → List ℕ → Found
signed bits [] = Err Short
signed bits (b ∷ bs) =
    if nat_lt b 64 then (if nat_lt b (2 ^ (bits - 1)) then Ok (b, 1) else Err Leb)
    else (if nat_lt b 128 then (if nat_lt (127 - b) (2 ^ (bits - 1)) then Ok (2 ^ bits - 1 - (127 - b), 1) else Err Leb)
    else (if nat_le bits 7 then Err Leb else lengthened b (signed (bits - 7) bs)))

-- either of them
abbrev pub number : Bool → ℕ → List ℕ → Found
number true bits bytes = signed bits bytes
number false bits bytes = unsigned bits bytes
