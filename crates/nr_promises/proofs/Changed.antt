-- A list with one item changed.
use Rattle.std.proofs.Common.{◌≡◌, ℕ, zero, suc, ◌+◌, ◌<◌, Bool, List, [], ◌∷◌, length, get_or, ap, refl, arith}
use Rattle.std.proofs.Math.ListN.{set}
use Rattle.std.specs.Prelude.{◌||◌, sum_by}
use Rattle.std.specs.List.{AllByRecursion, list_any}
use Rattle.std.proofs.lemmas.List.Sums.{sum_by-cons}
use Rattle.nr_promises.specs.Book.{changed}

pub length_changed : {X : Type 0} (f : X → X) (xs : List X) (at : ℕ) → length (changed f xs at) ≡ length xs
length_changed f [] at = refl
length_changed f (x ∷ xs) zero = refl
length_changed f (x ∷ xs) (suc at) = ap suc (length_changed f xs at)

-- a write to one place
pub set_is_changed : {X : Type 0} (f : X → X) (xs : List X) (at : ℕ) (x y : X) → x ≡ get_or xs at x → y ≡ f x → set xs at y ≡ changed f xs at
set_is_changed f [] at x y e h = refl
set_is_changed f (w ∷ ws) zero x y e h = rw (h, e) refl
set_is_changed f (w ∷ ws) (suc at) x y e h = ap (λ r. w ∷ r) (set_is_changed f ws at x y e h)

-- a change that is taken back
pub changed_back : {X : Type 0} (f g : X → X) → ((x : X) → g (f x) ≡ x) → (xs : List X) (at : ℕ) → changed g (changed f xs at) at ≡ xs
changed_back f g back [] at = refl
changed_back f g back (x ∷ xs) zero = ap (λ r. r ∷ xs) (back x)
changed_back f g back (x ∷ xs) (suc at) = ap (λ r. x ∷ r) (changed_back f g back xs at)

-- what a change keeps of each item, of a sum and of a test
pub all_changed : {X : Type 0} (P : X → Type 0) (f : X → X) → ((x : X) → P x → P (f x)) → (xs : List X) (at : ℕ) → AllByRecursion P xs → AllByRecursion P (changed f xs at)
all_changed P f kept [] at h = h
all_changed P f kept (x ∷ xs) zero h = (kept x h.0, h.1)
all_changed P f kept (x ∷ xs) (suc at) h = (h.0, all_changed P f kept xs at h.1)

pub sum_kept : {X : Type 0} (g : X → ℕ) (f : X → X) → ((x : X) → g (f x) ≡ g x) → (xs : List X) (at : ℕ) → sum_by g (changed f xs at) ≡ sum_by g xs
sum_kept g f kept [] at = refl
sum_kept g f kept (x ∷ xs) zero = omega (arith, sum_by-cons g (f x) xs, sum_by-cons g x xs, kept x)
sum_kept g f kept (x ∷ xs) (suc at) = omega (arith, sum_by-cons g x (changed f xs at), sum_by-cons g x xs, sum_kept g f kept xs at)

pub any_kept : {X : Type 0} (p : X → Bool) (f : X → X) → ((x : X) → p (f x) ≡ p x) → (xs : List X) (at : ℕ) → list_any p (changed f xs at) ≡ list_any p xs
any_kept p f kept [] at = refl
any_kept p f kept (x ∷ xs) zero = ap (λ b. b || list_any p xs) (kept x)
any_kept p f kept (x ∷ xs) (suc at) = ap (λ b. p x || b) (any_kept p f kept xs at)

-- a sum that grows by what the changed item has more
pub sum_raised : {X : Type 0} (P : X → Type 0) (g : X → ℕ) (f : X → X) (n : ℕ) → ((x : X) → P x → g (f x) ≡ g x + n) → (xs : List X) (at : ℕ) → at < length xs → AllByRecursion P xs → sum_by g (changed f xs at) ≡ sum_by g xs + n
sum_raised P g f n raised [] at within all = absurd (omega arith)
sum_raised P g f n raised (x ∷ xs) zero within all = omega (arith, sum_by-cons g (f x) xs, sum_by-cons g x xs, raised x all.0)
sum_raised P g f n raised (x ∷ xs) (suc at) within all = let lt : at < length xs = omega arith in omega (arith, sum_by-cons g x (changed f xs at), sum_by-cons g x xs, sum_raised P g f n raised xs at lt all.1)
