-- The nodes of the trie of a map that keeps within the sizes of a store keep to their types.
use Rattle.std.proofs.Common.{◌≡◌, ◌==◌, ◌<◌, ◌≤◌, ◌+◌, ◌*◌, ◌%◌, ℕ, zero, suc, Bool, true, false, cond, List, [], ◌∷◌, ◌++◌, length, map, Option, Some, None, refl, sym, ap, subst, ◌∙◌, arith, length-drop, length-append}
use Rattle.std.specs.Prelude.{is_some, count_by, sum_by}
use Rattle.std.specs.List.{AllByRecursion}
use Rattle.std.proofs.lemmas.List.Sums.{sum_by-cons}
use Rattle.sha2.proofs.Facts256.{length-sha256}
use Rattle.nr_ids.specs.Keys.{IsHash}
use Rattle.nr_ids.specs.declared.key.Hash32.{Hash32}
use Rattle.nr_triedef.specs.Node.{paired, part_flag, key_part, digest, node_text, usage_of, links}
use Rattle.nr_triedef.specs.Reading.{Fits, IsChild, IsValue}
use Rattle.nr_triedef.specs.Root.{Paths, paths, common, depth, front, behind, under, value_here, value_field, value_usage, usage_below, hash_below, leaf, sixteen}
use Rattle.nr_triedef.specs.Stores.{IsSizedEntry, most_entries}
use Rattle.nr_triedef.specs.declared.hash.Summary.{Summary}
use Rattle.nr_triedef.specs.declared.node.Node.{Node}
use Rattle.nr_store.specs.Tries.{CanWalk, cut, whole}
use Rattle.nr_store.proofs.Levels.{whole_none, links_of_two}
use Rattle.nr_store.proofs.Links.{length_behind, all_behind, all_under}
use Rattle.nr_store.proofs.Nibbles.{length-nibbles}
use Rattle.nr_store.proofs.Orders.{walk_cut, walk_under}
use Rattle.nr_walk.specs.Tries.{children, branch_of, top_over, top_of, IsBelow, AreFitting}
use Rattle.nr_walk.specs.Tries.IsBelow.{Top, Behind, Under}
use Rattle.nr_walk.specs.Shown.{placed}
use Rattle.nr_walk.proofs.Rows.{Path, rows, own_value, rows_all}
use Rattle.nr_walk.proofs.Tops.{whole_is, top_leaf}

abbrev IsSmallPath : Path → Type 0
IsSmallPath p = (length p.0 ≤ 140000000) × (length p.1 < 4294967296)

abbrev AllSmall : Paths → Type 0
AllSmall ps = AllByRecursion IsSmallPath ps

small_behind : (n : ℕ) (ps : Paths) → AllSmall ps → AllSmall (behind n ps)
small_behind n [] h = tt
small_behind n (p ∷ ps) h = ((omega (arith, h.0.0, length-drop n p.0), h.0.1), small_behind n ps h.1)

small_under : (n : ℕ) (ps : Paths) → AllSmall ps → AllSmall (under n ps)
small_under n [] h = tt
small_under n (([], v) ∷ ps) h = small_under n ps h.1
small_under n ((x ∷ k, v) ∷ ps) h =
    elim (x == n) as (λ b. AllSmall (cond b ((k, v) ∷ under n ps) (under n ps))) [ true ↦ ((omega (arith, h.0.0), h.0.1), small_under n ps h.1) | false ↦ small_under n ps h.1 ]

few_under : (n : ℕ) (ps : Paths) → length (under n ps) ≤ length ps
few_under n [] = omega arith
few_under n (([], v) ∷ ps) = let r = few_under n ps in omega arith
few_under n ((x ∷ k, v) ∷ ps) =
    let r = few_under n ps in
    elim (x == n) as (λ b. length (cond b ((k, v) ∷ under n ps) (under n ps)) ≤ suc (length ps)) [ true ↦ omega arith | false ↦ omega arith ]

small_value : (ps : Paths) (v : List ℕ) → AllSmall ps → value_here ps ≡ Some v → length v < 4294967296
small_value [] v h e = absurd cc
small_value (([], w) ∷ ps) v h e = let same : w ≡ v = cc in subst (λ (u : List ℕ). length u < 4294967296) same h.0.1
small_value ((x ∷ k, w) ∷ ps) v h e = small_value ps v h.1 e

-- ---- parts
paired_short : (xs : List ℕ) → length (paired xs) ≤ length xs
paired_short [] = omega arith
paired_short (x ∷ []) = omega arith
paired_short (x ∷ y ∷ xs) = let r = paired_short xs in omega arith

flag_short : (leaf : Bool) (n : ℕ) → length (part_flag leaf n) ≤ 2
flag_short leaf n = elim (n % 2 == 1) as (λ b. let k : List ℕ = cond b (cond leaf 3 1 ∷ []) (cond leaf 2 0 ∷ 0 ∷ []) in length k ≤ 2) [ true ↦ omega arith | false ↦ omega arith ]

part_short : (key : List ℕ) (leaf : Bool) → length (key_part key leaf) ≤ length key + 2
unfolding key_part
part_short key leaf = omega (arith, paired_short (part_flag leaf (length key) ++ key), length-append (part_flag leaf (length key)) key, flag_short leaf (length key))

-- ---- usages: 2^34 for each key, less 2^33
abbrev IsBounded : Paths → Type 0
IsBounded ps = usage_of (top_of ps) + 8589934592 ≤ 17179869184 * length ps

abbrev row : Paths → ℕ → ℕ → List (Option Summary)
row ps n zero = []
row ps n (suc c) = whole (under n ps) ∷ row ps (suc n) c

pub length_placed : (a : List ℕ) (ps : Paths) → length (placed a ps) ≡ length ps
length_placed a [] = refl
length_placed a (p ∷ ps) = ap suc (length_placed a ps)

one_child : (qs : Paths) → CanWalk qs → (1 ≤ length qs → IsBounded qs) → usage_below (whole qs) + 8589934592 * cond (is_some (whole qs)) 1 0 ≤ 17179869184 * length qs
one_child [] h b = rw whole_none (omega arith)
one_child (p ∷ qs) h b =
    let w = whole_is (p ∷ qs) (omega arith) h in
    let bound = b (omega arith) in
    subst (λ (o : Option Summary). usage_below o + 8589934592 * cond (is_some o) 1 0 ≤ 17179869184 * length (p ∷ qs)) (sym w) (omega arith)

row_bound : (ps : Paths) (n c : ℕ) → CanWalk ps → ((m : ℕ) → 1 ≤ length (under m ps) → IsBounded (under m ps)) → sum_by usage_below (row ps n c) + 8589934592 * count_by is_some (row ps n c) ≤ 17179869184 * length (rows n c ps)
row_bound ps n zero h b = omega arith
row_bound ps n (suc c) h b =
    let rest = row_bound ps (suc n) c h b in
    let one = one_child (under n ps) (walk_under n ps h) (b n) in
    omega (
      arith,
      rest,
      one,
      sum_by-cons usage_below (whole (under n ps)) (row ps (suc n) c),
      sum_by-cons (λ (o : Option Summary). cond (is_some o) 1 0) (whole (under n ps)) (row ps (suc n) c),
      length-append (placed (n ∷ []) (under n ps)) (rows (suc n) c ps),
      length_placed (n ∷ []) (under n ps),
    )

pub counted_hashes : (xs : List (Option Summary)) → count_by is_some (map hash_below xs) ≡ count_by is_some xs
counted_hashes [] = refl
counted_hashes (None ∷ xs) = omega (arith, counted_hashes xs, sum_by-cons (λ (o : Option Hash32). cond (is_some o) 1 0) None (map hash_below xs), sum_by-cons (λ (o : Option Summary). cond (is_some o) 1 0) None xs)
counted_hashes (Some s ∷ xs) = omega (arith, counted_hashes xs, sum_by-cons (λ (o : Option Hash32). cond (is_some o) 1 0) (Some s.hash) (map hash_below xs), sum_by-cons (λ (o : Option Summary). cond (is_some o) 1 0) (Some s) xs)

pub value_bound : (value : Option (List ℕ)) → ((v : List ℕ) → value ≡ Some v → length v < 4294967296)
    → (value_usage value ≤ 4294967346 * cond (is_some (value_field value)) 1 0) × (length (own_value value) ≡ cond (is_some (value_field value)) 1 0)
value_bound None h = (omega arith, refl)
value_bound (Some v) h = (omega (arith, h v refl), refl)

branch_bound : (all rest : Paths) → 2 ≤ length all → CanWalk all → rest ≡ cut all → AllSmall rest → ((m : ℕ) → 1 ≤ length (under m rest) → IsBounded (under m rest))
    → usage_of (branch_of rest) + 280000104 + 8589934592 ≤ 17179869184 * length rest
branch_bound all rest many h e small b =
    let order : CanWalk rest = subst CanWalk (sym e) (walk_cut all h) in
    let two : 2 ≤ links (value_field (value_here rest)) (map hash_below (children rest)) = links_of_two all rest (children rest) many h e refl in
    let counts = counted_hashes (children rest) in
    let sums = row_bound rest 0 16 order b in
    let value = value_bound (value_here rest) (λ v w. small_value rest v small w) in
    let whole_length : length (own_value (value_here rest)) + length (rows 0 16 rest) ≡ length rest = sym (length-append (own_value (value_here rest)) (rows 0 16 rest)) ∙ ap length (rows_all rest order) in
    omega (arith, value.0, value.1)

pub over_bound : (shared : List ℕ) (rest : Paths) → length shared ≤ 140000000 → usage_of (branch_of rest) + 280000104 + 8589934592 ≤ 17179869184 * length rest → usage_of (top_over shared rest) + 8589934592 ≤ 17179869184 * length rest
over_bound [] rest short h = omega arith
over_bound (x ∷ xs) rest short h = omega (arith, part_short (x ∷ xs) false)

top_several : (p q : Path) (ps : Paths) → top_of (p ∷ q ∷ ps) ≡ top_over (front (p ∷ q ∷ ps)) (cut (p ∷ q ∷ ps))
unfolding top_of
top_several p q ps = refl

common_short : (a b : List ℕ) → length (common a b) ≤ length a
common_short [] b = omega arith
common_short (x ∷ a) [] = omega arith
common_short (x ∷ a) (y ∷ b) = let r = common_short a b in elim (x == y) as (λ t. let k : List ℕ = cond t (x ∷ common a b) [] in length k ≤ suc (length a)) [ true ↦ omega arith | false ↦ omega arith ]

abbrev IsShort : ℕ → Paths → Type 0
IsShort d ps = AllByRecursion (λ (p : Path). length p.0 < d) ps

children_short : (n : ℕ) (ps : Paths) (nibble : ℕ) → IsShort (suc n) ps → IsShort n (under nibble (cut ps))
children_short n ps nibble h =
    all_under nibble (λ k. length k < suc n) (λ k. length k < n) (λ k lt. omega (arith, lt)) (cut ps)
    (all_behind (length (front ps)) (λ k. length k < suc n) (λ k. length k < suc n) (λ k lt. omega (arith, lt, length-drop (length (front ps)) k)) ps h)

bounded : (d : ℕ) (ps : Paths) → IsShort d ps → CanWalk ps → AllSmall ps → 1 ≤ length ps → IsBounded ps
bounded d [] s h small some = absurd (omega arith)
bounded d (p ∷ []) s h small some =
    subst (λ (n : Node). usage_of n + 8589934592 ≤ 17179869184 * 1) (sym (top_leaf p)) (omega (arith, part_short p.0 true, small.0.0, small.0.1))
bounded zero (p ∷ q ∷ ps) s h small some = absurd (omega (arith, s.0))
bounded (suc d) (p ∷ q ∷ ps) s h small some =
    let all = p ∷ q ∷ ps in
    let rest_small : AllSmall (cut all) = small_behind (length (front all)) all small in
    let below : (m : ℕ) → 1 ≤ length (under m (cut all)) → IsBounded (under m (cut all)) =
    λ m there. bounded d (under m (cut all)) (children_short d all m s) (walk_under m (cut all) (walk_cut all h)) (small_under m (cut all) rest_small) there in
    let branch = branch_bound all (cut all) (omega arith) h refl rest_small below in
    let over = over_bound (front all) (cut all) (omega (arith, common_short p.0 (front (q ∷ ps)), small.0.0)) branch in
    let same : length (cut all) ≡ length all = length_behind (length (front all)) all in
    subst (λ (n : Node). usage_of n + 8589934592 ≤ 17179869184 * length all) (sym (top_several p q ps)) (omega (arith, over, same))

-- ---- the fields of a node
short_below : (ps : Paths) (n : ℕ) → depth ps ≤ n → IsShort n ps
short_below [] n h = tt
short_below (p ∷ ps) n h = (omega (arith, h), short_below ps n (omega (arith, h)))

hash_is : (text : List ℕ) → IsHash (digest text)
hash_is text = length-sha256 text

child_is : (qs : Paths) → CanWalk qs → IsChild (hash_below (whole qs))
child_is [] h = subst (λ (o : Option Summary). IsChild (hash_below o)) (sym (whole_none [] refl)) tt
child_is (p ∷ qs) h = subst (λ (o : Option Summary). IsChild (hash_below o)) (sym (whole_is (p ∷ qs) (omega arith) h)) (hash_is (node_text (top_of (p ∷ qs))))

children_are : (rest : Paths) (ns : List ℕ) → CanWalk rest → AllByRecursion IsChild (map hash_below (map (λ n. whole (under n rest)) ns))
children_are rest [] h = tt
children_are rest (n ∷ ns) h = (child_is (under n rest) (walk_under n rest h), children_are rest ns h)

value_is : (value : Option (List ℕ)) → ((v : List ℕ) → value ≡ Some v → length v < 4294967296) → IsValue (value_field value)
value_is None h = tt
value_is (Some v) h = (h v refl, hash_is v)

over_fits : (shared : List ℕ) (rest : Paths) → length shared ≤ 140000000 → CanWalk rest → AllSmall rest → usage_of (top_over shared rest) < 18446744073709551616 → Fits (top_over shared rest)
over_fits [] rest short h small u = (value_is (value_here rest) (λ v w. small_value rest v small w), refl, children_are rest sixteen h, u)
over_fits (x ∷ xs) rest short h small u = (omega (arith, part_short (x ∷ xs) false), hash_is (node_text (branch_of rest)), u)

top_fits : (ps : Paths) → CanWalk ps → AllSmall ps → length ps ≤ 67108864 → 1 ≤ length ps → Fits (top_of ps)
top_fits [] h small few some = absurd (omega arith)
top_fits (p ∷ []) h small few some =
    subst Fits (sym (top_leaf p)) (omega (arith, part_short p.0 true, small.0.0), small.0.1, hash_is p.1, omega (arith, part_short p.0 true, small.0.0, small.0.1))
top_fits (p ∷ q ∷ ps) h small few some =
    let all = p ∷ q ∷ ps in
    let bound = bounded (depth all) all (short_below all (depth all) (omega arith)) h small (omega arith) in
    let usage : usage_of (top_over (front all) (cut all)) + 8589934592 ≤ 17179869184 * length all = subst (λ (n : Node). usage_of n + 8589934592 ≤ 17179869184 * length all) (top_several p q ps) bound in
    subst Fits (sym (top_several p q ps)) (over_fits (front all) (cut all) (omega (arith, common_short p.0 (front (q ∷ ps)), small.0.0)) (walk_cut all h) (small_behind (length (front all)) all small) (omega (arith, usage)))

record IsSmallTop (ps : Paths) : Type 0 where
  order : CanWalk ps
  small : AllSmall ps
  few : length ps ≤ 67108864

small_below : (top ps : Paths) → IsSmallTop top → IsBelow top ps → IsSmallTop ps
small_below top ps s Top = s
small_below top ps s (Behind qs b many) =
    let r = small_below top qs s b in
    record { order = walk_cut qs r.order; small = small_behind (length (front qs)) qs r.small; few = omega (arith, r.few, length_behind (length (front qs)) qs) }
small_below top ps s (Under qs n b many e lt) =
    let r = small_below top qs s b in
    record { order = walk_under n qs r.order; small = small_under n qs r.small; few = omega (arith, r.few, few_under n qs) }

small_paths : (es : List (List ℕ × List ℕ)) → AllByRecursion (λ (e : List ℕ × List ℕ). IsSizedEntry e.0 e.1) es → AllSmall (paths es)
small_paths [] h = tt
small_paths (e ∷ es) h = ((omega (arith, h.0.0, length-nibbles e.0), h.0.1), small_paths es h.1)

length_paths : (es : List (List ℕ × List ℕ)) → length (paths es) ≡ length es
length_paths [] = refl
length_paths (e ∷ es) = ap suc (length_paths es)

pub fitting : (es : List (List ℕ × List ℕ)) → CanWalk (paths es) → AllByRecursion (λ (e : List ℕ × List ℕ). IsSizedEntry e.0 e.1) es → length es ≤ most_entries → AreFitting (paths es)
fitting es order sizes few ps below some =
    let s : IsSmallTop (paths es) = record { order = order; small = small_paths es sizes; few = omega (arith, few, length_paths es) } in
    let r = small_below (paths es) ps s below in
    top_fits ps r.order r.small r.few some
