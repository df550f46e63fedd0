-- Nibbles as bytes, one pair after the other.
use Rattle.std.proofs.Common.{◌≡◌, ℕ, suc, ◌+◌, ◌*◌, ◌/◌, ◌%◌, ◌<◌, ◌≤◌, List, [], ◌∷◌, ◌++◌, length, get_or, drop, refl, sym, ap, ◌∙◌, append_assoc, arith, drop-cons, length-drop}
use Rattle.std.proofs.lemmas.List.{append-nil}
use Rattle.nr_walk.specs.Walking.{packed}

packed_short : (xs : List ℕ) → length xs ≤ 1 → packed xs ≡ []
packed_short [] h = refl
packed_short (x ∷ []) h = refl
packed_short (x ∷ y ∷ rest) h = absurd (omega arith)

two_dropped : (xs : List ℕ) (i : ℕ) → i < length xs / 2 → drop (2 * i) xs ≡ get_or xs (2 * i) 0 ∷ get_or xs (2 * i + 1) 0 ∷ drop (2 * (i + 1)) xs
two_dropped xs i lt =
    let one : drop (2 * i) xs ≡ get_or xs (2 * i) 0 ∷ drop (suc (2 * i)) xs = drop-cons xs (2 * i) 0 (omega arith) in
    let two : drop (2 * i + 1) xs ≡ get_or xs (2 * i + 1) 0 ∷ drop (suc (2 * i + 1)) xs = drop-cons xs (2 * i + 1) 0 (omega arith) in
    let k : suc (2 * i) ≡ 2 * i + 1 = omega arith in
    let j : suc (2 * i + 1) ≡ 2 * (i + 1) = omega arith in
    one ∙ ap (λ (n : ℕ). get_or xs (2 * i) 0 ∷ drop n xs) k ∙ ap (λ (ys : List ℕ). get_or xs (2 * i) 0 ∷ ys) two ∙ ap (λ (n : ℕ). get_or xs (2 * i) 0 ∷ get_or xs (2 * i + 1) 0 ∷ drop n xs) j

pub packed_more : (xs bytes new : List ℕ) (i : ℕ) → i < length xs / 2 → new ≡ bytes ++ (16 * (get_or xs (2 * i) 0 % 16) + get_or xs (2 * i + 1) 0 % 16) ∷ [] → bytes ++ packed (drop (2 * i) xs) ≡ packed xs
    → new ++ packed (drop (2 * (i + 1)) xs) ≡ packed xs
packed_more xs bytes new i lt h so_far =
    let d : packed (drop (2 * i) xs) ≡ (16 * (get_or xs (2 * i) 0 % 16) + get_or xs (2 * i + 1) 0 % 16) ∷ packed (drop (2 * (i + 1)) xs) = ap packed (two_dropped xs i lt) in
    ap (λ (ys : List ℕ). ys ++ packed (drop (2 * (i + 1)) xs)) h ∙ append_assoc bytes ((16 * (get_or xs (2 * i) 0 % 16) + get_or xs (2 * i + 1) 0 % 16) ∷ []) (packed (drop (2 * (i + 1)) xs)) ∙ ap (λ (ys : List ℕ). bytes ++ ys) (sym d) ∙ so_far

pub packed_all : (xs bytes : List ℕ) (i : ℕ) → length xs / 2 ≤ i → bytes ++ packed (drop (2 * i) xs) ≡ packed xs → bytes ≡ packed xs
packed_all xs bytes i past so_far =
    let few : length (drop (2 * i) xs) ≤ 1 = omega (arith, length-drop (2 * i) xs) in
    sym (append-nil bytes) ∙ ap (λ (ys : List ℕ). bytes ++ ys) (sym (packed_short (drop (2 * i) xs) few)) ∙ so_far
