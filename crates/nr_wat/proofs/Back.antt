-- A name and its opcode tell each other.
use Rattle.std.proofs.Common.{◌≡◌, ℕ, zero, suc, ◌+◌, ◌&&◌, ◌||◌, Bool, true, false, cond, not, List, [], ◌∷◌, get_or, Option, Some, None, inl, inr, refl, ap, ◌∙◌, arith}
use Rattle.std.specs.Prelude.{◌==◌}
use Rattle.std.specs.Str.{bytes_eq}
use Rattle.std.proofs.lemmas.Bool.{and_parts, eqb-true, or_cases, not-true, both_ways}
use Rattle.std.proofs.lemmas.Slice.Eq.{bytes_eq-Decides}
use Rattle.nr_wasmtypes.specs.Opcodes.{op_of, opcodes}
use Rattle.nr_wasmtypes.specs.declared.opcode.Op.{Op}
use Rattle.nr_wasmtypes.specs.declared.opcode.Op.TheVariants as op
use Rattle.nr_wat.specs.Names.{byte_named, has_name, name_of, opcode_named}

-- ---- from a name to its opcode
-- the byte is this one, and no other
abbrev stands : ℕ → Option ℕ → Bool
stands byte None = false
stands byte (Some b) = b == byte

stands_at : (byte : ℕ) (found : Option ℕ) → stands byte found ≡ true → found ≡ Some byte
stands_at byte None e = absurd cc
stands_at byte (Some b) e = ap (λ (n : ℕ). Some n) (eqb-true b byte e)

-- each of these opcodes, from this byte on, is what its name is found as among all
abbrev all_stand : List Op → ℕ → List Op → Bool
all_stand all byte [] = true
all_stand all byte (o ∷ os) = (not (has_name o) || stands byte (byte_named (name_of o) 0 all)) && all_stand all (byte + 1) os

found_at : (all : List Op) (byte : ℕ) (os : List Op) (k : ℕ) → all_stand all byte os ≡ true → has_name (get_or os k op.Unknown) ≡ true
    → byte_named (name_of (get_or os k op.Unknown)) 0 all ≡ Some (byte + k)
found_at all byte [] zero e has = absurd cc
found_at all byte [] (suc k) e has = absurd cc
found_at all byte (o ∷ os) zero e has =
    let parts = and_parts _ _ e in
    let here : stands byte (byte_named (name_of o) 0 all) ≡ true = elim (or_cases _ _ parts.0) [ inl missing ↦ absurd (both_ways _ (not-true _ missing) has) | inr known ↦ known ] in
    let same : byte ≡ byte + 0 = omega arith in
    stands_at byte _ here ∙ ap (λ (n : ℕ). Some n) same
found_at all byte (o ∷ os) (suc k) e has =
    let same : byte + 1 + k ≡ byte + suc k = omega arith in
    found_at all (byte + 1) os k (and_parts _ _ e).1 has ∙ ap (λ (n : ℕ). Some n) same

all_found : all_stand opcodes 0 opcodes ≡ true
unfolding opcodes
all_found = refl

pub back : (byte : ℕ) → has_name (op_of byte) ≡ true → opcode_named (name_of (op_of byte)) ≡ Some byte
unfolding op_of
back byte has =
    let same : 0 + byte ≡ byte = omega arith in
    found_at opcodes 0 opcodes byte all_found has ∙ ap (λ (n : ℕ). Some n) same

-- ---- from an opcode to its name
first_at : (name : List ℕ) (byte : ℕ) (os : List Op) (found : ℕ) → byte_named name byte os ≡ Some found
    → (k : ℕ) × (found ≡ byte + k) × (name_of (get_or os k op.Unknown) ≡ name)
first_at name byte [] found e = absurd cc
first_at name byte (o ∷ os) found e = by (has_name o && bytes_eq (name_of o) name) refl (first_at name (byte + 1) os found) e
  where
    by : (b : Bool) → (has_name o && bytes_eq (name_of o) name) ≡ b
        → (byte_named name (byte + 1) os ≡ Some found
        → (k : ℕ) × (found ≡ byte + 1 + k) × (name_of (get_or os k op.Unknown) ≡ name))
        → cond b (Some byte) (byte_named name (byte + 1) os) ≡ Some found
        → (k : ℕ) × (found ≡ byte + k) × (name_of (get_or (o ∷ os) k op.Unknown) ≡ name)
    by true same rest e =
        let here : byte ≡ found = cc in
        (0, omega (arith, here), (bytes_eq-Decides (name_of o) name).0 (and_parts _ _ same).1)
    by false same rest e =
        let later = rest e in
        (suc later.0, omega (arith, later.1), later.2)

pub named : (name : List ℕ) (byte : ℕ) → opcode_named name ≡ Some byte → name_of (op_of byte) ≡ name
unfolding op_of
named name byte e =
    let at = first_at name 0 opcodes byte e in
    let same : byte ≡ at.0 = omega (arith, at.1) in
    ap (λ (k : ℕ). name_of (get_or opcodes k op.Unknown)) same ∙ at.2
