-- How many keys are counted, now and at the checkpoints, and what the checkpoints saw.
use Rattle.std.proofs.Common.{◌≡◌, ℕ, suc, ◌+◌, ◌≤◌, Bool, true, false, cond, List, [], ◌∷◌, length, drop, refl, sym, ap, subst, ◌∙◌, arith}
use Rattle.std.specs.Prelude.{map}
use Rattle.std.specs.Option.{is_some}
use Rattle.std.specs.List.{AllByRecursion}
use Rattle.std.specs.FinMap.{insert, get, entries}
use Rattle.nr_triedef.specs.Root.{Contents}
use Rattle.nr_trienodes.proofs.Counts.{count_insert}
use Rattle.nr_trieupdate.specs.Overlays.{over, joined, IsLayer}
use Rattle.nr_trieupdate.proofs.Overlays.{joined_put}

pub layers_more : (b : Contents) (many more : ℕ) (ms : List Contents) → many ≤ more → AllByRecursion (IsLayer b many) ms → AllByRecursion (IsLayer b more) ms
layers_more b many more [] l h = tt
layers_more b many more (m ∷ ms) l h = (omega (arith, l, h.0), layers_more b many more ms l h.1)

pub layers_drop : (P : Contents → Type 0) (ms : List Contents) → AllByRecursion P ms → AllByRecursion P (drop 1 ms)
layers_drop P [] h = tt
layers_drop P (m ∷ ms) h = h.1

grown_more : (there found : Bool) (n count grown : ℕ) → n ≤ count → (found ≡ true → there ≡ true) → grown ≡ cond found count (count + 1) → cond there n (n + 1) ≤ grown
grown_more true true n count grown l h e = omega arith
grown_more true false n count grown l h e = omega arith
grown_more false true n count grown l h e = absurd (let bad : false ≡ true = h refl in cc)
grown_more false false n count grown l h e = omega arith

pub layer_put : (b p : Contents) (k held : List ℕ) (found : Bool) (count grown : ℕ) → (found ≡ true → is_some (get (joined p b) k) ≡ true) → grown ≡ cond found count (count + 1) → IsLayer b count p → IsLayer b grown (insert p k held)
layer_put b p k held found count grown there e h =
    let there_now = is_some (get (joined p b) k) in
    let many : length (entries (joined (insert p k held) b)) ≡ cond there_now (length (entries (joined p b))) (length (entries (joined p b)) + 1) =
    ap (λ (m : Contents). length (entries m)) (joined_put p b k held) ∙ count_insert (joined p b) k held there_now refl in
    subst (λ n. n ≤ grown) (sym many) (grown_more there_now found (length (entries (joined p b))) count grown h there e)

-- ---- what the checkpoints saw
pub map_drop : (b : Contents) (ms : List Contents) → map (λ m. over m b) (drop 1 ms) ≡ drop 1 (map (λ m. over m b) ms)
map_drop b [] = refl
map_drop b (m ∷ ms) = refl

pub length_map : (b : Contents) (ms : List Contents) → length (map (λ m. over m b) ms) ≡ length ms
length_map b [] = refl
length_map b (m ∷ ms) = ap suc (length_map b ms)

pub layers_as : (P : Contents → Type 0) (ms ns : List Contents) → ns ≡ ms → AllByRecursion P ms → AllByRecursion P ns
layers_as P ms ns e h = subst (AllByRecursion P) (sym e) h

pub listed : (m n : Contents) (ms ns : List Contents) → n ≡ m → ns ≡ ms → n ∷ ns ≡ m ∷ ms
listed m n ms ns e f = cc
