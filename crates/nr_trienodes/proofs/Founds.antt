-- A look-up, a node at a time.
use Rattle.std.proofs.Common.{◌≡◌, ◌==◌, ◌<◌, ◌+◌, ℕ, zero, suc, true, false, cond, List, [], ◌∷◌, length, take, drop, map, Option, Some, None, refl, ap, ◌∙◌}
use Rattle.std.specs.Option.{option_map}
use Rattle.nr_trienodes.specs.Shape.{Shape, child, shape_at}
use Rattle.nr_trienodes.specs.Tries.{Answer, nothing, answer, stripped, asked, given, found}
use Rattle.nr_trienodes.specs.Turns.{left, GoesBy, Parts}
use Rattle.nr_trienodes.specs.Views.{Sound}
use Rattle.nr_trienodes.proofs.Folds.{fold_at, child-map}
use Rattle.nr_trienodes.proofs.Sounds.{back_sound}
use Rattle.nr_trienodes.proofs.Keys.{goes_off}

abbrev pub answers : List Shape → ℕ → List (Option Answer)
answers nodes id = map (option_map (found nodes)) (shape_at nodes id).below

pub found_is : (nodes : List Shape) (id : ℕ) (q : List ℕ) → Sound nodes → id < length nodes → found nodes id q ≡ given (shape_at nodes id).value (answers nodes id) (stripped (shape_at nodes id).part q)
found_is nodes id q sound lt = ap (λ (f : Answer). f q) (fold_at answer nothing nodes id (back_sound nodes sound) lt)

pub found_here : (nodes : List Shape) (id : ℕ) (q : List ℕ) → Sound nodes → id < length nodes → stripped (shape_at nodes id).part q ≡ Some [] → found nodes id q ≡ (shape_at nodes id).value
found_here nodes id q sound lt e = found_is nodes id q sound lt ∙ ap (given (shape_at nodes id).value (answers nodes id)) e

pub found_on : (nodes : List Shape) (id : ℕ) (q : List ℕ) (x : ℕ) (rest : List ℕ) (c : Option ℕ) → Sound nodes → id < length nodes → stripped (shape_at nodes id).part q ≡ Some (x ∷ rest) → child (shape_at nodes id).below x ≡ c → found nodes id q ≡ asked (option_map (found nodes) c) rest
found_on nodes id q x rest c sound lt e down =
    found_is nodes id q sound lt ∙ ap (given (shape_at nodes id).value (answers nodes id)) e
    ∙ ap (λ (o : Option Answer). asked o rest) (child-map (found nodes) (shape_at nodes id).below x ∙ ap (option_map (found nodes)) down)

pub found_down : (nodes : List Shape) (id : ℕ) (key : List ℕ) (at x next c : ℕ) → Sound nodes → id < length nodes → GoesBy (shape_at nodes id) key at x next → child (shape_at nodes id).below x ≡ Some c → found nodes id (left key at) ≡ found nodes c (left key next)
found_down nodes id key at x next c sound lt by down = found_on nodes id (left key at) x (left key next) (Some c) sound lt by.part down

pub found_sprout : (nodes : List Shape) (id : ℕ) (key : List ℕ) (at x next : ℕ) → Sound nodes → id < length nodes → GoesBy (shape_at nodes id) key at x next → child (shape_at nodes id).below x ≡ None → found nodes id (left key at) ≡ None
found_sprout nodes id key at x next sound lt by down = found_on nodes id (left key at) x (left key next) None sound lt by.part down

pub stripped_apart : (p k r : List ℕ) (n : ℕ) → stripped (take n p) k ≡ Some r → stripped (drop n p) r ≡ None → stripped p k ≡ None
stripped_apart p k r zero e f = let same : k ≡ r = cc in ap (stripped p) same ∙ f
stripped_apart [] k r (suc n) e f = let same : k ≡ r = cc in ap (stripped []) same ∙ f
stripped_apart (x ∷ p) [] r (suc n) e f = refl
stripped_apart (x ∷ p) (y ∷ k) r (suc n) e f =
    elim (x == y) as (λ b. cond b (stripped (take n p) k) None ≡ Some r → cond b (stripped p k) None ≡ None) [
      | true ↦ λ g. stripped_apart p k r n g f
      | false ↦ λ g. refl
    ] e

pub found_apart : (nodes : List Shape) (id : ℕ) (key : List ℕ) (at n : ℕ) → Sound nodes → id < length nodes → Parts (shape_at nodes id) key at n → found nodes id (left key at) ≡ None
found_apart nodes id key at n sound lt parts =
    found_is nodes id (left key at) sound lt
    ∙ ap (given (shape_at nodes id).value (answers nodes id)) (stripped_apart (shape_at nodes id).part (left key at) (left key (at + n)) n parts.matches.front (goes_off (shape_at nodes id).part (left key (at + n)) n parts.more (parts.matches.differ parts.more)))
