-- How many nodes a trie has: at most three for each entry, less two.
use Rattle.std.proofs.Common.{◌≡◌, ◌≤◌, ◌+◌, ◌-◌, ◌*◌, ℕ, zero, suc, Bool, true, false, cond, List, [], ◌∷◌, ◌++◌, length, map, Option, Some, None, refl, ap, sym, subst, ◌∙◌, arith, add-one, length-append, append-nil}
use Rattle.std.specs.Prelude.{is_some, count_by}
use Rattle.std.specs.List.{flat_map}
use Rattle.std.proofs.lemmas.List.Sums.{sum_by-cons}
use Rattle.nr_ids.specs.declared.key.Hash32.{Hash32}
use Rattle.nr_triedef.specs.Node.{usage_of}
use Rattle.nr_triedef.specs.declared.node.Node.{Node}
use Rattle.nr_triedef.specs.Root.{Paths, paths, depth, front, under, value_here, value_field, hash_below, branch, sixteen, trie}
use Rattle.nr_store.specs.Tries.{CanWalk, cut}
use Rattle.nr_store.proofs.Links.{CanStand, stands_behind, stands_under, two_links, length_behind}
use Rattle.nr_store.proofs.Orders.{walk_cut, walk_under}
use Rattle.nr_trielist.specs.Forest.{Stood, Forest, bare, tree, entry_here, forest_of, listed}
use Rattle.nr_trielist.specs.Growing.{head_nodes, nodes_at}
use Rattle.nr_parts.specs.Offsets.{tops_usage, entry_list, meets}
use Rattle.nr_parts.specs.Cutting.{looked, looked_from_root}
use Rattle.nr_parts.specs.declared.share.Share.{Share}
use Rattle.nr_trielist.proofs.Branches.{nodes_forest}
use Rattle.nr_parts.proofs.Telling.{told, told_split}

-- ---- sums over nibbles
abbrev sum_of : (ℕ → ℕ) → List ℕ → ℕ
sum_of f [] = 0
sum_of f (n ∷ ns) = f n + sum_of f ns

length_flat : {A : Type 0} (g : ℕ → List A) (ns : List ℕ) → length (flat_map g ns) ≡ sum_of (λ n. length (g n)) ns
length_flat g [] = refl
length_flat g (n ∷ ns) = omega (arith, length-append (g n) (flat_map g ns), length_flat g ns)

length_told : (place : List ℕ) (ps : Paths) → length (told place ps) ≡ length ps
length_told place [] = refl
length_told place (p ∷ ps) = ap suc (length_told place ps)

abbrev there : Paths → ℕ
there [] = 0
there (p ∷ ps) = 1

some_trie : (n : ℕ) (ps : Paths) → cond (is_some (hash_below (trie n ps))) 1 0 ≤ there ps
unfolding trie
some_trie n [] = omega arith
some_trie n (p ∷ []) = omega arith
some_trie zero (p ∷ q ∷ ps) = omega arith
some_trie (suc n) (p ∷ q ∷ ps) = omega arith

counted_rows : (n : ℕ) (rest : Paths) (ns : List ℕ) → count_by is_some (map hash_below (map (λ m. trie n (under m rest)) ns)) ≤ sum_of (λ m. there (under m rest)) ns
counted_rows n rest [] = omega arith
counted_rows n rest (m ∷ ns) = omega (arith, sum_by-cons (λ (o : Option Hash32). cond (is_some o) 1 0) (hash_below (trie n (under m rest))) (map hash_below (map (λ m. trie n (under m rest)) ns)), some_trie n (under m rest), counted_rows n rest ns)

few_heads : (shared : List ℕ) (node : Node) → length (head_nodes shared node) ≤ 2
few_heads [] node = omega arith
few_heads (x ∷ xs) node = omega arith

value_count : (here : List ℕ) (o : Option (List ℕ)) → length (entry_list (entry_here here o)) ≡ cond (is_some (value_field o)) 1 0
value_count here None = refl
value_count here (Some v) = refl

nodes_few : (depth : ℕ) (ps : Paths) → CanStand depth ps → CanWalk ps → length (nodes_at depth ps) + 2 * there ps ≤ 3 * length ps
unfolding nodes_at
nodes_few depth [] stands walk = omega arith
nodes_few depth (p ∷ []) stands walk = omega arith
nodes_few zero (p ∷ q ∷ ps) stands walk = absurd (omega (arith, stands.short.0))
nodes_few (suc depth) (p ∷ q ∷ ps) stands walk =
    let all = p ∷ q ∷ ps in
    let rest = cut all in
    let stand : CanStand (depth + 1) all = subst (λ n. CanStand n all) (sym (add-one depth)) stands in
    let linked = two_links depth all rest (front all) (map (λ n. trie depth (under n rest)) sixteen) (omega arith) refl refl refl stand in
    let rows : sum_of (λ n. length (nodes_at depth (under n rest))) sixteen + 2 * sum_of (λ n. there (under n rest)) sixteen ≤ 3 * sum_of (λ n. length (told ([] ++ n ∷ []) (under n rest))) sixteen =
    rows_few rest (λ n. nodes_few depth (under n rest) (stands_under depth n rest (under n rest) refl (stands_behind (depth + 1) all rest (front all) refl refl stand)) (walk_under n rest (walk_cut all walk))) sixteen in
    let parts : length rest ≡ cond (is_some (value_field (value_here rest))) 1 0 + sum_of (λ n. length (told ([] ++ n ∷ []) (under n rest))) sixteen =
    sym (length_told [] rest) ∙ ap length (told_split [] rest (walk_cut all walk))
    ∙ length-append (entry_list (entry_here [] (value_here rest))) (flat_map (λ m. told ([] ++ m ∷ []) (under m rest)) sixteen)
    ∙ (λ i. value_count [] (value_here rest) i + length_flat (λ m. told ([] ++ m ∷ []) (under m rest)) sixteen i) in
    let nodes : length (nodes_at (suc depth) all) ≡ length (head_nodes (front all) (branch (value_here rest) (map (λ n. trie depth (under n rest)) sixteen))) + sum_of (λ n. length (nodes_at depth (under n rest))) sixteen =
    length-append (head_nodes (front all) (branch (value_here rest) (map (λ n. trie depth (under n rest)) sixteen)))
    (flat_map (λ n. nodes_at depth (under n rest)) sixteen) ∙ ap
    (λ k. length (head_nodes (front all) (branch (value_here rest)
    (map (λ n. trie depth (under n rest)) sixteen))) + k)
    (length_flat (λ n. nodes_at depth (under n rest)) sixteen) in
    total_few _ _ _ _ _ _ _ _ _ nodes (few_heads (front all) (branch (value_here rest) (map (λ n. trie depth (under n rest)) sixteen))) rows (length_behind (length (front all)) all) parts linked (counted_rows depth rest sixteen)
  where
    rows_few : (rest : Paths) → ((n : ℕ) → length (nodes_at depth (under n rest)) + 2 * there (under n rest) ≤ 3 * length (under n rest)) → (ns : List ℕ) → sum_of (λ n. length (nodes_at depth (under n rest))) ns + 2 * sum_of (λ n. there (under n rest)) ns ≤ 3 * sum_of (λ n. length (told ([] ++ n ∷ []) (under n rest))) ns
    rows_few rest each [] = omega arith
    rows_few rest each (n ∷ ns) = omega (arith, each n, rows_few rest each ns, length_told ([] ++ n ∷ []) (under n rest))

    total_few : (nodes heads below children entries left all value counted : ℕ) → nodes ≡ heads + below → heads ≤ 2 → below + 2 * children ≤ 3 * entries → left ≡ all → left ≡ value + entries → 2 ≤ value + counted → counted ≤ children → nodes + 2 * 1 ≤ 3 * all
    total_few nodes heads below children entries left all value counted a b c d e f g = omega (arith, a, b, c, d, e, f, g)

-- ---- those that are looked at are among them
pub looked_few : (share : Share) (at : ℕ) (g : Forest) → length (looked share at g) ≤ length (listed g)
looked_few share at bare = omega arith
looked_few share at (tree top below beside) =
    let deep = looked_few share (at + (usage_of top.node - tops_usage below)) below in
    omega (arith, length-append (cond (meets share at (usage_of top.node)) (looked share (at + (usage_of top.node - tops_usage below)) below) []) (looked share (at + usage_of top.node) beside), length-append (listed below) (listed beside), looked_few share (at + usage_of top.node) beside, either (meets share at (usage_of top.node)) (looked share (at + (usage_of top.node - tops_usage below)) below) (length (listed below)) deep)
  where
    either : (m : Bool) (xs : List Stood) (n : ℕ) → length xs ≤ n → length (cond m xs []) ≤ n
    either true xs n le = le
    either false xs n le = omega arith

root_few : (share : Share) (g : Forest) → length (looked_from_root share g) ≤ length (listed g)
root_few share bare = omega arith
root_few share (tree top below beside) = omega (arith, looked_few share (usage_of top.node - tops_usage below) below, length-append (listed below) (listed beside))

length_nodes : (ss : List Stood) → length (map (λ (s : Stood). s.node) ss) ≡ length ss
length_nodes [] = refl
length_nodes (s ∷ ss) = ap suc (length_nodes ss)

-- so at most three for each entry
pub listed_entries : (es : List (List ℕ × List ℕ)) → CanStand (depth (paths es)) (paths es) → CanWalk (paths es) → length (listed (forest_of es)) ≤ 3 * length es
unfolding forest_of
listed_entries es stands walk =
    let all : length (listed (forest_of es)) ≡ length (nodes_at (depth (paths es)) (paths es)) =
    sym (length_nodes (listed (forest_of es))) ∙ ap length (nodes_forest (depth (paths es)) [] (paths es) bare ∙ append-nil (nodes_at (depth (paths es)) (paths es))) in
    omega (arith, all, nodes_few (depth (paths es)) (paths es) stands walk, length_paths es)
  where
    length_paths : (es : List (List ℕ × List ℕ)) → length (paths es) ≡ length es
    length_paths [] = refl
    length_paths (e ∷ es) = ap suc (length_paths es)

pub looked_entries : (share : Share) (es : List (List ℕ × List ℕ)) → CanStand (depth (paths es)) (paths es) → CanWalk (paths es) → length (looked_from_root share (forest_of es)) ≤ 3 * length es
looked_entries share es stands walk = omega (arith, root_few share (forest_of es), listed_entries es stands walk)
