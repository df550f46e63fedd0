-- Words with a space between each two.
use Rattle.std.proofs.Common.{◌≡◌, ℕ, ◌-◌, ◌≤◌, List, [], ◌∷◌, ◌++◌, length, map, take, drop, get_or, sym, ap, ◌∙◌, arith}
use Rattle.std.specs.List.{flat_map}
use Rattle.std.proofs.lemmas.List.{take_all, take_rest}
use Rattle.std.proofs.lemmas.List.Folds.{flat_map-map}
use Rattle.nr_explain.specs.Programs.{spaced}

spaced_on : {X : Type 0} (v : X → List ℕ) (words : List X) (d : X) → 1 ≤ length words → v (get_or words 0 d) ++ flat_map (λ w. 32 ∷ v w) (drop 1 words) ≡ spaced (map v words)
spaced_on v [] d l = absurd (omega (arith, l))
spaced_on v (w ∷ words) d l = ap (λ t. v w ++ t) (sym (flat_map-map (λ t. 32 ∷ t) v words))

pub spaced_whole : {X : Type 0} (v : X → List ℕ) (words : List X) (d : X) (line first : List ℕ) (i : ℕ) → 1 ≤ length words → length (take (length words - 1) (drop 1 words)) ≤ i
    → first ≡ v (get_or words 0 d) → line ≡ first ++ flat_map (λ w. 32 ∷ v w) (take i (take (length words - 1) (drop 1 words))) → line ≡ spaced (map v words)
spaced_whole v words d line first i l done is so_far =
    let others : take (length words - 1) (drop 1 words) ≡ drop 1 words = take_rest words 1 in
    so_far ∙ ap (λ t. first ++ flat_map (λ w. 32 ∷ v w) t) (take_all i (take (length words - 1) (drop 1 words)) done ∙ others)
    ∙ ap (λ t. t ++ flat_map (λ w. 32 ∷ v w) (drop 1 words)) is ∙ spaced_on v words d l
