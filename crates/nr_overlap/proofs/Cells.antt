-- The slots of a sealed chunk, up to the last list that was not taken.
use Rattle.std.proofs.Common.{◌≡◌, ℕ, zero, suc, ◌≤◌, List, [], ◌∷◌, None, Option, take, refl, sym, arith}
use Rattle.nr_overlap.specs.Held.{cell}

-- where no list stands from a slot on, the slots before it are all
pub cell_taken : {L : Type 0} (xs : List (Option L)) (n d : ℕ) → ((e : ℕ) → n ≤ e → cell xs e ≡ None) → cell (take n xs) d ≡ cell xs d
cell_taken [] zero d none = refl
cell_taken [] (suc n) d none = refl
cell_taken (x ∷ xs) zero d none = sym (none d (omega arith))
cell_taken (x ∷ xs) (suc n) zero none = refl
cell_taken (x ∷ xs) (suc n) (suc d) none = cell_taken xs n d (λ e l. none (suc e) (omega (arith, l)))
