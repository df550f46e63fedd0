-- Ids that are seen twice.
use Rattle.std.proofs.Common.{◌≡◌, ℕ, zero, suc, Bool, true, false, cond, List, [], ◌∷◌, ◌||◌, drop, map, refl, sym, ap, ◌∙◌}
use Rattle.std.specs.Prelude.{not}
use Rattle.std.specs.BTreeMap.{is_at}
use Rattle.std.specs.Cmp.{eq_by_cmp_equiv}
use Rattle.std.specs.Cmp.Lexicographic.{nat_list_cmp_total, texts_ties}
use Rattle.std.specs.List.{list_any}
use Rattle.std.specs.Ordering.{eq_by_cmp}
use Rattle.std.specs.Str.{bytes_eq}
use mathlib.Core.Bool.{or-true}
use Rattle.nr_columns.specs.Orders.{bytes_cmp}
use Rattle.nr_ids.specs.declared.key.Hash32.{Hash32}
use Rattle.nr_state.specs.Repeats.{has_repeat}

ties_back : (x y : List ℕ) → bytes_eq x y ≡ eq_by_cmp bytes_cmp y x
ties_back x y = texts_ties x y ∙ (eq_by_cmp_equiv nat_list_cmp_total).symm x y

as_or : (t b : Bool) → cond t true b ≡ (t || b)
as_or true b = refl
as_or false b = refl

-- an id put into a set
pub seen_more : (k q : List ℕ) (b : Bool) → cond (is_at (bytes_cmp k) q) true b ≡ (bytes_eq q k || b)
seen_more k q b = as_or (eq_by_cmp bytes_cmp k q) b ∙ ap (λ t. t || b) (sym (ties_back q k))

abbrev bytes_of : List Hash32 → List (List ℕ)
bytes_of ids = map (λ (id : Hash32). id.0) ids

-- what stands twice behind a place stands twice
repeats_behind : (n : ℕ) (ids : List Hash32) → has_repeat (bytes_of (drop n ids)) ≡ true → has_repeat (bytes_of ids) ≡ true
repeats_behind zero ids h = h
repeats_behind (suc n) [] h = h
repeats_behind (suc n) (id ∷ ids) h = ap (λ b. list_any (bytes_eq id.0) (bytes_of ids) || b) (repeats_behind n ids h) ∙ or-true _

had : (fresh has : Bool) → fresh ≡ false → fresh ≡ not has → has ≡ true
had true has f n = absurd (let never : true ≡ false = f in cc)
had false true f n = refl
had false false f n = absurd (let never : false ≡ true = n in cc)

had_not : (fresh has : Bool) → fresh ≡ true → fresh ≡ not has → has ≡ false
had_not false has f n = absurd (let never : false ≡ true = f in cc)
had_not true false f n = refl
had_not true true f n = absurd (let never : true ≡ false = n in cc)

pub repeated : (ids : List Hash32) (m n : ℕ) (id : Hash32) (fresh has : Bool) → drop m ids ≡ id ∷ drop n ids → fresh ≡ false → fresh ≡ not has
    → has ≡ list_any (bytes_eq id.0) (bytes_of (drop n ids)) → true ≡ has_repeat (bytes_of ids)
repeated ids m n id fresh has front f added seen =
    sym (repeats_behind m ids
    (ap (λ l. has_repeat (bytes_of l)) front
    ∙ ap (λ b. b || has_repeat (bytes_of (drop n ids))) (sym seen ∙ had fresh has f added)))

pub not_repeated : (ids : List Hash32) (m n : ℕ) (id : Hash32) (fresh has : Bool) → drop m ids ≡ id ∷ drop n ids → fresh ≡ true → fresh ≡ not has
    → has ≡ list_any (bytes_eq id.0) (bytes_of (drop n ids)) → has_repeat (bytes_of (drop n ids)) ≡ false → has_repeat (bytes_of (drop m ids)) ≡ false
not_repeated ids m n id fresh has front f added seen none =
    ap (λ l. has_repeat (bytes_of l)) front
    ∙ ap (λ b. b || has_repeat (bytes_of (drop n ids))) (sym seen ∙ had_not fresh has f added) ∙ none
