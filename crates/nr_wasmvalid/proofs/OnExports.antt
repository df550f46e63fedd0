-- The names of the exports before one.
use Rattle.std.proofs.Common.{◌≡◌, ℕ, ◌+◌, ◌<◌, Bool, true, false, cond, List, [], ◌∷◌, ◌++◌, length, take, get_or, refl, sym, ap, ◌∙◌}
use Rattle.std.specs.Prelude.{not, ◌||◌}
use Rattle.std.proofs.lemmas.List.{take_more}
use Rattle.std.specs.Ordering.{eq_by_cmp, nat_cmp}
use Rattle.std.specs.Cmp.{eq_by_cmp_equiv}
use Rattle.std.specs.Cmp.Lexicographic.{slice_cmp, nat_list_cmp_total, texts_ties}
use Rattle.std.specs.BTreeMap.{is_at}
use Rattle.std.specs.List.{list_any}
use Rattle.std.specs.Str.{bytes_eq}
use mathlib.Core.Bool.{or-false, or_comm}
use Rattle.nr_wasmtypes.specs.declared.module.Export.{Export}
use Rattle.nr_wasmvalid.specs.Parts.{has_name}

as_or : (t b : Bool) → cond t true b ≡ (t || b)
as_or true b = refl
as_or false b = refl

-- a name put into a set
pub seen_more : (k q : List ℕ) (b : Bool) → cond (is_at (slice_cmp nat_cmp k) q) true b ≡ (bytes_eq q k || b)
seen_more k q b =
    as_or (eq_by_cmp (slice_cmp nat_cmp) k q) b
    ∙ ap (λ t. t || b) (sym (texts_ties q k ∙ (eq_by_cmp_equiv nat_list_cmp_total).symm q k))

any_at_end : (q : List ℕ) (xs : List Export) (x : Export) → list_any (has_name q) (xs ++ x ∷ []) ≡ (list_any (has_name q) xs || has_name q x)
any_at_end q [] x = or-false (has_name q x)
any_at_end q (y ∷ xs) x = ap (λ b. has_name q y || b) (any_at_end q xs x) ∙ together (has_name q y) (list_any (has_name q) xs) (has_name q x)
  where
    together : (a b c : Bool) → (a || (b || c)) ≡ ((a || b) || c)
    together true b c = refl
    together false b c = refl

pub any_more : (q : List ℕ) (xs : List Export) (n : ℕ) (x : Export) → n < length xs → x ≡ get_or xs n x → list_any (has_name q) (take (n + 1) xs) ≡ (has_name q x || list_any (has_name q) (take n xs))
any_more q xs n x h is =
    ap (list_any (has_name q)) (take_more xs n x h ∙ ap (λ (y : Export). take n xs ++ y ∷ []) (sym is))
    ∙ any_at_end q (take n xs) x
    ∙ or_comm (list_any (has_name q) (take n xs)) (has_name q x)

pub one_seen : (name key : List ℕ) (xs : List Export) (fresh has : Bool) → fresh ≡ not has → has ≡ list_any (has_name key) xs → key ≡ name → fresh ≡ not (list_any (has_name name) xs)
one_seen name key xs fresh has f h k = f ∙ ap not (h ∙ ap (λ q. list_any (has_name q) xs) k)
