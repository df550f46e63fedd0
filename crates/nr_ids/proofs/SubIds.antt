-- What stands behind the first dot of an id.
use Rattle.std.proofs.Common.{◌≡◌, ◌<◌, ◌≤◌, ◌+◌, ◌-◌, ℕ, suc, Bool, true, false, cond, List, [], ◌∷◌, ◌++◌, length, length-drop, take, drop, get_or, nat_lt, Some, None, ◌↔◌, IsTrue, refl, sym, ap, ◌∙◌, arith, add-one, ◌==◌, drop-cons}
use Rattle.std.proofs.lemmas.Bool.{eqb-true, or_parts}
use Rattle.std.proofs.lemmas.Bool.Decides.{nat_tests}
use Rattle.std.proofs.lemmas.List.{drop_all, take_all, take-append-drop}
use Rattle.std.proofs.Math.Seq.{drop-append_seam}
use Rattle.std.proofs.lemmas.List.Quantifiers.{position-Some}
use Rattle.std.specs.List.{position, position_or_len, list_any}
use Rattle.std.specs.Cmp.Lexicographic.{pointwise, bytes_decides}
use Rattle.nr_ids.specs.Grammar.{is_dot, is_sub_of, IsSubOf}

place_of_some : (place n at : ℕ) → cond (nat_lt place n) (Some place) None ≡ Some at → place ≡ at
place_of_some place n at e = grind (arith, nat_tests)

place_of_none : (place n : ℕ) → cond (nat_lt place n) (Some place) None ≡ None → n ≤ place
place_of_none place n e = grind (arith, nat_tests)

at_dot : (id parent : List ℕ) (dot : ℕ) → dot < length id → get_or id dot 0 ≡ 46 → pointwise ◌==◌ (drop dot id) (46 ∷ parent) ≡ pointwise ◌==◌ (drop (suc dot) id) parent
at_dot id parent dot lt e = rw (drop-cons id dot 0, e) refl

pub from_dot : (id parent : List ℕ) (dot : ℕ) → position is_dot id ≡ Some dot → is_sub_of id parent ≡ pointwise ◌==◌ (take (length id - (dot + 1)) (drop (dot + 1) id)) parent
unfolding is_sub_of
from_dot id parent dot e =
    let found = position-Some is_dot id dot 0 e in
    let whole : take (length id - (dot + 1)) (drop (dot + 1) id) ≡ drop (dot + 1) id = take_all _ _ (omega (arith, length-drop {A = ℕ})) in
    rw (whole, place_of_some (position_or_len is_dot id) (length id) dot e, add-one) (at_dot id parent dot found.0 (eqb-true _ _ found.1))

pub no_dot : (id parent : List ℕ) → position is_dot id ≡ None → is_sub_of id parent ≡ false
unfolding is_sub_of
no_dot id parent e =
    rw (drop_all (position_or_len is_dot id) id (place_of_none (position_or_len is_dot id) (length id) e)) refl

none_before : (id : List ℕ) → list_any is_dot (take (position_or_len is_dot id) id) ≡ false
none_before [] = refl
none_before (b ∷ id) = from_first (is_dot b) refl (none_before id)
  where
    from_first : (t : Bool) → is_dot b ≡ t → list_any is_dot (take (position_or_len is_dot id) id) ≡ false → list_any is_dot (take (position_or_len is_dot (b ∷ id)) (b ∷ id)) ≡ false
    from_first true e others = rw e refl
    from_first false e others =
        let one_more : 1 + position_or_len is_dot id ≡ suc (position_or_len is_dot id) = omega arith in
        rw (e, one_more, e) others

pub first_behind : (test : ℕ → Bool) (front rest : List ℕ) (b : ℕ) → test b ≡ true → list_any test front ≡ false → position_or_len test (front ++ b ∷ rest) ≡ length front
first_behind test [] rest b here none = rw here refl
first_behind test (x ∷ front) rest b here none =
    let parts = or_parts (test x) (list_any test front) none in
    rw (parts.0, first_behind test front rest b here parts.1) (omega arith)

splits : (id parent : List ℕ) → is_sub_of id parent ≡ true → IsSubOf id parent
unfolding is_sub_of
splits id parent e =
    let n = position_or_len is_dot id in
    let behind : drop n id ≡ 46 ∷ parent = (bytes_decides (drop n id) (46 ∷ parent)).0 e in
    let whole : id ≡ take n id ++ 46 ∷ parent = sym (take-append-drop n id) ∙ ap (λ (t : List ℕ). take n id ++ t) behind in
    (take n id, whole, none_before id)

splits_back : (id parent : List ℕ) → IsSubOf id parent → is_sub_of id parent ≡ true
unfolding is_sub_of
splits_back id parent (q, e, none) =
    let front : position_or_len is_dot (q ++ 46 ∷ parent) ≡ length q = first_behind is_dot q parent 46 refl none in
    let same : pointwise ◌==◌ (46 ∷ parent) (46 ∷ parent) ≡ true = (bytes_decides (46 ∷ parent) (46 ∷ parent)).1 refl in
    rw (e, front, drop-append_seam q (46 ∷ parent)) same

pub tells_sub : (id parent : List ℕ) (r : Bool) → r ≡ is_sub_of id parent → IsTrue r ↔ IsSubOf id parent
tells_sub id parent r e = (λ t. splits id parent (sym e ∙ t), λ sub. e ∙ splits_back id parent sub)
