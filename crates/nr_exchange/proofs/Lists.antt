-- Elements of lists that one seat's step changes.
use Rattle.std.proofs.Common.{◌≡◌, ℕ, zero, suc, ◌<◌, ◌≤◌, le_refl, List, [], ◌∷◌, length, set, get_or, refl, sym, arith}
use Rattle.std.specs.Prelude.{slice_index}
use mathlib.Core.Option.{some}
use lib.ListN.{get_elem?}
use Rattle.nr_exchange.specs.declared.note.Link.{Link}
use Rattle.nr_exchange.specs.Notes.{no_link}

pub at_within : {A : Type 0} (l : List A) (i : ℕ) (a : A) → get_elem? l i ≡ some a → i < length l
at_within [] i a e = absurd (mathlib.Core.Option.some-ne-none a (sym e))
at_within (x ∷ xs) zero a e = omega arith
at_within (x ∷ xs) (suc i) a e = let m = at_within xs i a e in omega arith

-- a word that is loaded stays as it is
pub words_stay : (ws : List ℕ) (i j : ℕ) → slice_index (set ws i (slice_index ws i)) j ≡ slice_index ws j
words_stay [] i j = refl
words_stay (x ∷ xs) zero zero = refl
words_stay (x ∷ xs) zero (suc j) = refl
words_stay (x ∷ xs) (suc i) zero = refl
words_stay (x ∷ xs) (suc i) (suc j) = words_stay xs i j

-- a field of each link, where one becomes another with the same
pub field_stays : {A : Type 0} (f : Link → A) (ls : List Link) (i j : ℕ) (l : Link) → f l ≡ f (get_or ls i no_link) → f (get_or (set ls i l) j no_link) ≡ f (get_or ls j no_link)
field_stays f [] i j l e = refl
field_stays f (x ∷ xs) zero zero l e = e
field_stays f (x ∷ xs) zero (suc j) l e = refl
field_stays f (x ∷ xs) (suc i) zero l e = refl
field_stays f (x ∷ xs) (suc i) (suc j) l e = field_stays f xs i j l e

-- where it does not fall
pub field_rises : (f : Link → ℕ) (ls : List Link) (i j : ℕ) (l : Link) → f (get_or ls i no_link) ≤ f l → f (get_or ls j no_link) ≤ f (get_or (set ls i l) j no_link)
field_rises f [] i j l e = le_refl (f no_link)
field_rises f (x ∷ xs) zero zero l e = e
field_rises f (x ∷ xs) zero (suc j) l e = le_refl (f (get_or xs j no_link))
field_rises f (x ∷ xs) (suc i) zero l e = le_refl (f x)
field_rises f (x ∷ xs) (suc i) (suc j) l e = field_rises f xs i j l e
