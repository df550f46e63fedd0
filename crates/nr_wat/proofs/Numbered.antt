-- The text of a numbered list, one item after the other.
use Rattle.std.proofs.Common.{◌≡◌, ℕ, ◌+◌, ◌<◌, ◌≤◌, List, [], ◌∷◌, ◌++◌, length, take, refl, ap, ◌∙◌, append_assoc, arith}
use Rattle.std.proofs.lemmas.Grind.{take_at_read}
use Rattle.std.proofs.lemmas.List.{append-nil, length-take-le, take_all}
use Rattle.nr_wat.specs.Pieces.{numbered, numbered_from}

joined : {X : Type 0} (text : ℕ → X → List ℕ) (number k : ℕ) (xs : List X) (x : X) → k ≡ number + length xs
    → numbered_from text number (xs ++ x ∷ []) ≡ numbered_from text number xs ++ text k x
joined text number k [] x e =
    let same : number ≡ k = omega (arith, e) in
    append-nil (text number x) ∙ ap (λ (n : ℕ). text n x) same
joined text number k (y ∷ xs) x e =
    let later : k ≡ number + 1 + length xs = omega (arith, e) in
    ap (λ (l : List ℕ). text number y ++ l) (joined text (number + 1) k xs x later) ∙ simp append_assoc

-- one item more
pub one_more : {X : Type 0} (text : ℕ → X → List ℕ) (xs : List X) (k : ℕ) (x : X) → k < length xs
    → numbered text (take k xs ++ x ∷ []) ≡ numbered text (take k xs) ++ text k x
unfolding numbered
one_more text xs k x below =
    let most : k ≤ length xs = omega (arith, below) in
    let long : k ≡ 0 + length (take k xs) = omega (arith, length-take-le k xs most) in
    joined text 0 k (take k xs) x long

pub none_yet : {X : Type 0} (text : ℕ → X → List ℕ) → numbered text [] ≡ []
unfolding numbered
none_yet text = refl

-- what a loop over such a list takes
pub ruleset turns = (one_more, none_yet, take_at_read, take_all, append_assoc, append-nil)
