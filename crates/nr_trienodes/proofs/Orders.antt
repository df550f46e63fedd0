-- Keys in the order of their nibbles, which is that of their bytes; and entries by either.
use Rattle.std.proofs.Common.{◌≡◌, ◌<◌, ◌+◌, ◌*◌, ◌/◌, ◌%◌, ℕ, cond, ◌&&◌, List, [], ◌∷◌, Some, refl, ap, sym, ◌∙◌, arith}
use Rattle.std.specs.List.{AllByRecursion}
use Rattle.std.specs.FinMap.{find, is_sorted}
use Rattle.std.specs.FinMap.Entries.{below_all}
use Rattle.std.specs.declared.cmp.Ordering.{Ordering}
use Rattle.std.specs.declared.cmp.Ordering.TheVariants.{Less, Equal, Greater}
use Rattle.std.specs.Ordering.{nat_cmp, is_lt, is_eq, ordering_then}
use Rattle.std.specs.Cmp.{ranked, nat_cmp_is}
use Rattle.std.specs.Cmp.Lexicographic.{slice_cmp}
use Rattle.nr_triedef.specs.Node.{nibbles, paired}
use Rattle.nr_triedef.specs.Root.{Paths, paths}
use Rattle.nr_trienodes.specs.Roots.{IsWhole, packed}

abbrev pub R : List ℕ → List ℕ → Ordering
R = slice_cmp nat_cmp

pub cmp_less : (x y : ℕ) → x < y → nat_cmp x y ≡ Less
cmp_less x y lt = sym (nat_cmp_is x y Less lt)

pub cmp_same : (x y : ℕ) → x ≡ y → nat_cmp x y ≡ Equal
cmp_same x y e = sym (nat_cmp_is x y Equal e)

pub cmp_greater : (x y : ℕ) → y < x → nat_cmp x y ≡ Greater
cmp_greater x y lt = sym (nat_cmp_is x y Greater lt)

-- ---- the nibbles of a byte decide as the byte does
by_halves : (x y : ℕ) (o : Ordering) → ordering_then (nat_cmp (x / 16) (y / 16)) (ordering_then (nat_cmp (x % 16) (y % 16)) o) ≡ ordering_then (nat_cmp x y) o
by_halves x y o =
    let all = elim (nat_cmp (x / 16) (y / 16)) as (λ r. r ≡ nat_cmp (x / 16) (y / 16) → ordering_then r (ordering_then (nat_cmp (x % 16) (y % 16)) o) ≡ ordering_then (nat_cmp x y) o) [
      | Less ↦ λ e. let lt : x / 16 < y / 16 = ranked (x / 16) (y / 16) Less e in ap (λ r. ordering_then r o) (sym (cmp_less x y (omega arith)))
      | Equal ↦ λ e.
          let same : x / 16 ≡ y / 16 = ranked (x / 16) (y / 16) Equal e in
          elim (nat_cmp (x % 16) (y % 16)) as (λ r. r ≡ nat_cmp (x % 16) (y % 16) → ordering_then r o ≡ ordering_then (nat_cmp x y) o) [
            | Less ↦ λ f. let lt : x % 16 < y % 16 = ranked (x % 16) (y % 16) Less f in ap (λ r. ordering_then r o) (sym (cmp_less x y (omega arith)))
            | Equal ↦ λ f. let eq : x % 16 ≡ y % 16 = ranked (x % 16) (y % 16) Equal f in ap (λ r. ordering_then r o) (sym (cmp_same x y (omega arith)))
            | Greater ↦ λ f. let lt : y % 16 < x % 16 = ranked (x % 16) (y % 16) Greater f in ap (λ r. ordering_then r o) (sym (cmp_greater x y (omega arith)))
          ] refl
      | Greater ↦ λ e. let lt : y / 16 < x / 16 = ranked (x / 16) (y / 16) Greater e in ap (λ r. ordering_then r o) (sym (cmp_greater x y (omega arith)))
    ] in
    all refl

cmp_nibbles : (a b : List ℕ) → R (nibbles a) (nibbles b) ≡ R a b
cmp_nibbles [] [] = refl
cmp_nibbles [] (y ∷ b) = refl
cmp_nibbles (x ∷ a) [] = refl
cmp_nibbles (x ∷ a) (y ∷ b) = by_halves x y (R (nibbles a) (nibbles b)) ∙ ap (ordering_then (nat_cmp x y)) (cmp_nibbles a b)

abbrev Entries : Type 0
Entries = List (List ℕ × List ℕ)

below-paths : (k : List ℕ) (es : Entries) → below_all R (nibbles k) (paths es) ≡ below_all R k es
below-paths k [] = refl
below-paths k (e ∷ es) = (λ i. is_lt (cmp_nibbles k e.0 i) && below-paths k es i)

pub sorted-paths : (es : Entries) → is_sorted R (paths es) ≡ is_sorted R es
sorted-paths [] = refl
sorted-paths (e ∷ es) = (λ i. below-paths e.0 es i && sorted-paths es i)

pub find-paths : (k : List ℕ) (es : Entries) → find R (nibbles k) (paths es) ≡ find R k es
find-paths k [] = refl
find-paths k (e ∷ es) = (λ i. cond (is_eq (cmp_nibbles k e.0 i)) (Some e.1) (find-paths k es i))

-- ---- packing
pub paired-nibbles : (k : List ℕ) → paired (nibbles k) ≡ k
paired-nibbles [] = refl
paired-nibbles (b ∷ k) = let one : 16 * (b / 16) + b % 16 ≡ b = omega arith in (λ i. one i ∷ paired-nibbles k i)

pub whole_packed : (ps : Paths) → AllByRecursion (λ (p : List ℕ × List ℕ). IsWhole p.0) ps → paths (packed ps) ≡ ps
whole_packed [] all = refl
whole_packed (p ∷ ps) all =
    let one : nibbles (paired p.0) ≡ p.0 = ap (λ k. nibbles (paired k)) all.0.1 ∙ ap nibbles (paired-nibbles all.0.0) ∙ sym all.0.1 in
    (λ i. (one i, p.1) ∷ whole_packed ps all.1 i)
