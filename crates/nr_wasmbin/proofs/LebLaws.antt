-- LEB128: what is read is a number's form, and each form of a number is read, whatever follows it.
use Rattle.std.proofs.Common.{◌≡◌, ℕ, ◌+◌, ◌-◌, ◌*◌, ◌^◌, ◌<◌, ◌≤◌, List, [], ◌∷◌, ◌++◌, length, take, Ok, Err, refl, sym, ap, subst, ◌∙◌, arith, inl, inr, add-one}
use Rattle.std.proofs.lemmas.Bool.{cases_lt}
use Rattle.nr_wasmbin.specs.Leb.{IsUnsigned, IsSigned, Found, unsigned, signed, lengthened}
use Rattle.nr_wasmbin.specs.declared.leb.LebFault.TheVariants.{Short, Leb}
use Rattle.nr_wasmbin.proofs.OnLeb.{unsigned_none, unsigned_last, unsigned_unused, unsigned_long, unsigned_more, signed_none, signed_last, signed_unused, signed_negative, signed_unused_negative, signed_long, signed_more}

abbrev found : ℕ → ℕ → Found
found n k = Ok (n, k)

abbrev pair : ℕ → ℕ → ℕ × ℕ
pair n k = (n, k)

same : (m j n k : ℕ) → found m j ≡ found n k → pair m j ≡ pair n k
same m j n k e = cc

grown : (bits b : ℕ) (text : List ℕ) (m : ℕ) → 128 ≤ b → 7 < bits → IsUnsigned (bits - 7) text m → IsUnsigned bits (b ∷ text) (m * 128 + (b - 128))
grown bits b [] m high many h = absurd h
grown bits b (c ∷ cs) m high many h = (high, many, m, refl, h)

-- the first k bytes are a form of the number
abbrev IsFront : ℕ → List ℕ → ℕ × ℕ → Type 0
IsFront bits bytes r = IsUnsigned bits (take r.1 bytes) r.0

longer : (bits b : ℕ) (bs : List ℕ) (r : Found) (n k : ℕ) → 128 ≤ b → 7 < bits → ((m j : ℕ) → r ≡ Ok (m, j) → IsFront (bits - 7) bs (m, j)) → lengthened b r ≡ Ok (n, k) → IsFront bits (b ∷ bs) (n, k)
longer bits b bs (Err e) n k high many h is = absurd (let x : lengthened b (Err e) ≡ found n k = is in cc)
longer bits b bs (Ok r) n k high many h is =
    let one : IsFront bits (b ∷ bs) (r.0 * 128 + (b - 128), r.1 + 1) = rw add-one (grown bits b (take r.1 bs) r.0 high many (h r.0 r.1 refl)) in
    subst (IsFront bits (b ∷ bs)) (same (r.0 * 128 + (b - 128)) (r.1 + 1) n k is) one

pub unsigned_taken : (bits : ℕ) (bytes : List ℕ) (n k : ℕ) → unsigned bits bytes ≡ Ok (n, k) → IsUnsigned bits (take k bytes) n
unsigned_taken bits [] n k e = absurd (let x : Err Short ≡ found n k = sym (unsigned_none bits [] refl) ∙ e in cc)
unsigned_taken bits (b ∷ bs) n k e =
    elim (cases_lt b 128) [
      | inl low ↦ elim (cases_lt b (2 ^ bits)) [
        | inl fits ↦ subst (IsFront bits (b ∷ bs)) (same b 1 n k (sym (unsigned_last bits (b ∷ bs) b bs refl low fits) ∙ e)) (low, fits, refl)
        | inr over ↦ absurd (let x : Err Leb ≡ found n k = sym (unsigned_unused bits (b ∷ bs) b bs refl low over) ∙ e in cc)
      ]
      | inr high ↦ elim (cases_lt 7 bits) [
        | inl many ↦ longer bits b bs (unsigned (bits - 7) bs) n k high many (λ m j. unsigned_taken (bits - 7) bs m j) (sym (unsigned_more bits (b ∷ bs) b bs (unsigned (bits - 7) bs) refl high many refl) ∙ e)
        | inr few ↦ absurd (let x : Err Leb ≡ found n k = sym (unsigned_long bits (b ∷ bs) b bs refl high few) ∙ e in cc)
      ]
    ]

pub unsigned_again : (bits : ℕ) (text rest : List ℕ) (n : ℕ) → IsUnsigned bits text n → unsigned bits (text ++ rest) ≡ Ok (n, length text)
unsigned_again bits [] rest n h = absurd h
unsigned_again bits (b ∷ []) rest n h = unsigned_last bits (b ∷ rest) b rest refl h.0 h.1 ∙ ap (λ m. found m 1) (sym h.2)
unsigned_again bits (b ∷ c ∷ cs) rest n h =
    unsigned_more bits (b ∷ c ∷ cs ++ rest) b (c ∷ cs ++ rest) (found h.2 (length (c ∷ cs))) refl h.0 h.1 (unsigned_again (bits - 7) (c ∷ cs) rest h.2 h.4)
    ∙ ap (λ m. found m (length (c ∷ cs) + 1)) (sym h.3) ∙ ap (found n) (omega arith)

-- ---- signed numbers
grown_signed : (bits b : ℕ) (text : List ℕ) (m : ℕ) → 128 ≤ b → 7 < bits → IsSigned (bits - 7) text m → IsSigned bits (b ∷ text) (m * 128 + (b - 128))
grown_signed bits b [] m high many h = absurd h
grown_signed bits b (c ∷ cs) m high many h = (high, many, m, refl, h)

abbrev IsSignedFront : ℕ → List ℕ → ℕ × ℕ → Type 0
IsSignedFront bits bytes r = IsSigned bits (take r.1 bytes) r.0

longer_signed : (bits b : ℕ) (bs : List ℕ) (r : Found) (n k : ℕ) → 128 ≤ b → 7 < bits → ((m j : ℕ) → r ≡ Ok (m, j) → IsSignedFront (bits - 7) bs (m, j)) → lengthened b r ≡ Ok (n, k) → IsSignedFront bits (b ∷ bs) (n, k)
longer_signed bits b bs (Err e) n k high many h is = absurd (let x : lengthened b (Err e) ≡ found n k = is in cc)
longer_signed bits b bs (Ok r) n k high many h is =
    let one : IsSignedFront bits (b ∷ bs) (r.0 * 128 + (b - 128), r.1 + 1) = rw add-one (grown_signed bits b (take r.1 bs) r.0 high many (h r.0 r.1 refl)) in
    subst (IsSignedFront bits (b ∷ bs)) (same (r.0 * 128 + (b - 128)) (r.1 + 1) n k is) one

low_signed : (bits b : ℕ) (bs : List ℕ) (n k : ℕ) → b < 64 → signed bits (b ∷ bs) ≡ Ok (n, k) → IsSignedFront bits (b ∷ bs) (n, k)
low_signed bits b bs n k low e =
    elim (cases_lt b (2 ^ (bits - 1))) [
      | inl fits ↦ subst (IsSignedFront bits (b ∷ bs)) (same b 1 n k (sym (signed_last bits (b ∷ bs) b bs refl low fits) ∙ e)) (inl (low, fits, refl))
      | inr over ↦ absurd (let x : Err Leb ≡ found n k = sym (signed_unused bits (b ∷ bs) b bs refl low over) ∙ e in cc)
    ]

negative_signed : (bits b : ℕ) (bs : List ℕ) (n k : ℕ) → 64 ≤ b → b < 128 → signed bits (b ∷ bs) ≡ Ok (n, k) → IsSignedFront bits (b ∷ bs) (n, k)
negative_signed bits b bs n k high low e =
    elim (cases_lt (127 - b) (2 ^ (bits - 1))) [
      | inl fits ↦ subst (IsSignedFront bits (b ∷ bs)) (same (2 ^ bits - 1 - (127 - b)) 1 n k (sym (signed_negative bits (b ∷ bs) b bs refl high low fits) ∙ e)) (inr (high, low, fits, refl))
      | inr over ↦ absurd (let x : Err Leb ≡ found n k = sym (signed_unused_negative bits (b ∷ bs) b bs refl high low over) ∙ e in cc)
    ]

pub signed_taken : (bits : ℕ) (bytes : List ℕ) (n k : ℕ) → signed bits bytes ≡ Ok (n, k) → IsSigned bits (take k bytes) n
signed_taken bits [] n k e = absurd (let x : Err Short ≡ found n k = sym (signed_none bits [] refl) ∙ e in cc)
signed_taken bits (b ∷ bs) n k e =
    elim (cases_lt b 128) [
      | inl low ↦ elim (cases_lt b 64) [
        | inl small ↦ low_signed bits b bs n k small e
        | inr big ↦ negative_signed bits b bs n k big low e
      ]
      | inr high ↦ elim (cases_lt 7 bits) [
        | inl many ↦ longer_signed bits b bs (signed (bits - 7) bs) n k high many (λ m j. signed_taken (bits - 7) bs m j) (sym (signed_more bits (b ∷ bs) b bs (signed (bits - 7) bs) refl high many refl) ∙ e)
        | inr few ↦ absurd (let x : Err Leb ≡ found n k = sym (signed_long bits (b ∷ bs) b bs refl high few) ∙ e in cc)
      ]
    ]

last_again : (bits b : ℕ) (rest : List ℕ) (n : ℕ) → IsSigned bits (b ∷ []) n → signed bits (b ∷ rest) ≡ Ok (n, 1)
last_again bits b rest n (inl h) = signed_last bits (b ∷ rest) b rest refl h.0 h.1 ∙ ap (λ m. found m 1) (sym h.2)
last_again bits b rest n (inr h) = signed_negative bits (b ∷ rest) b rest refl h.0 h.1 h.2 ∙ ap (λ m. found m 1) (sym h.3)

pub signed_again : (bits : ℕ) (text rest : List ℕ) (n : ℕ) → IsSigned bits text n → signed bits (text ++ rest) ≡ Ok (n, length text)
signed_again bits [] rest n h = absurd h
signed_again bits (b ∷ []) rest n h = last_again bits b rest n h
signed_again bits (b ∷ c ∷ cs) rest n h =
    signed_more bits (b ∷ c ∷ cs ++ rest) b (c ∷ cs ++ rest) (found h.2 (length (c ∷ cs))) refl h.0 h.1 (signed_again (bits - 7) (c ∷ cs) rest h.2 h.4)
    ∙ ap (λ m. found m (length (c ∷ cs) + 1)) (sym h.3) ∙ ap (found n) (omega arith)
