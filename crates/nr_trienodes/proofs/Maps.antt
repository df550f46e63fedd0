-- The finite map under a root: its entries, what it gives at a key, and its root by the definition.
use Rattle.std.proofs.Common.{◌≡◌, ◌≤◌, ◌+◌, ◌*◌, ℕ, suc, true, false, cond, List, [], ◌∷◌, length, Option, Some, None, refl, ap, sym, subst, ◌∙◌, arith, T}
use Rattle.std.specs.Prelude.{IsSome}
use Rattle.std.proofs.lemmas.List.{nil_from_length}
use Rattle.std.specs.List.{AllByRecursion}
use Rattle.std.specs.FinMap.{entries, get, empty, find, is_sorted, len-entries, len-empty, entries-from_sorted, get-from_sorted, get-empty}
use Rattle.std.specs.Ordering.{eq_by_cmp, is_eq}
use Rattle.std.specs.Cmp.{tied_itself}
use Rattle.std.specs.Cmp.Lexicographic.{nat_list_cmp_total}
use Rattle.nr_triedef.specs.declared.hash.Summary.{Summary}
use Rattle.nr_triedef.specs.Node.{nibbles}
use Rattle.nr_triedef.specs.Root.{Paths, paths, depth, trie, root_of, root_of_entries, summary_of}
use Rattle.nr_trienodes.specs.Shape.{Shape}
use Rattle.nr_trienodes.specs.Tries.{found, found_in, paths_at, summary_at, count_at}
use Rattle.nr_trienodes.specs.Roots.{IsWhole, IsRoot, packed, contents, name_in}
use Rattle.nr_trienodes.specs.Views.{Sound}
use Rattle.nr_trienodes.specs.declared.nodes.NodeId.{NodeId}
use Rattle.nr_trienodes.proofs.Sounds.{back_sound}
use Rattle.nr_trienodes.proofs.Orders.{R, sorted-paths, find-paths, whole_packed}
use Rattle.nr_trienodes.proofs.Lookups.{sorted_at, finds_at}
use Rattle.nr_trienodes.proofs.Tied.{trie_at, short_depth, few_at}

abbrev Path : Type 0
Path = List ℕ × List ℕ

all_found : (P : List ℕ → Type 0) (es : Paths) → ((q : List ℕ) → IsSome (find R q es) → P q) → AllByRecursion (λ (p : Path). P p.0) es
all_found P [] h = tt
all_found P (e ∷ es) h = (
  h e.0 (subst (λ r. IsSome (cond (is_eq r) (Some e.1) (find R e.0 es))) (sym (tied_itself nat_list_cmp_total e.0)) refl),
  all_found P es (λ q some. h q (elim (eq_by_cmp R q e.0) as (λ b. IsSome (cond b (Some e.1) (find R q es))) [ true ↦ refl | false ↦ some ])),
)

whole_at : (nodes : List Shape) (id : NodeId) → Sound nodes → IsRoot nodes (Some id) → AllByRecursion (λ (p : Path). IsWhole p.0) (paths_at nodes id.0)
whole_at nodes id sound root = all_found IsWhole (paths_at nodes id.0) (λ q some. root.1 q (subst IsSome (finds_at nodes (back_sound nodes sound) id.0 root.0 q) some))

sorted_packed : (nodes : List Shape) (id : NodeId) → Sound nodes → IsRoot nodes (Some id) → T (is_sorted R (packed (paths_at nodes id.0)))
sorted_packed nodes id sound root =
    subst T (ap (is_sorted R) (sym (whole_packed (paths_at nodes id.0) (whole_at nodes id sound root))) ∙ sorted-paths (packed (paths_at nodes id.0))) (sorted_at nodes (back_sound nodes sound) id.0 root.0)

pub paths_are : (nodes : List Shape) (id : NodeId) → Sound nodes → IsRoot nodes (Some id) → paths (entries (contents nodes (Some id))) ≡ paths_at nodes id.0
unfolding contents
paths_are nodes id sound root = ap paths (entries-from_sorted R (packed (paths_at nodes id.0)) (sorted_packed nodes id sound root)) ∙ whole_packed (paths_at nodes id.0) (whole_at nodes id sound root)

pub get_is : (nodes : List Shape) (r : Option NodeId) (key : List ℕ) → Sound nodes → IsRoot nodes r → get (contents nodes r) key ≡ found_in nodes (name_in r) (nibbles key)
unfolding contents
get_is nodes None key sound root = get-empty R key
get_is nodes (Some id) key sound root =
    get-from_sorted R (packed (paths_at nodes id.0)) key (sorted_packed nodes id sound root)
    ∙ sym (find-paths key (packed (paths_at nodes id.0)))
    ∙ ap (find R (nibbles key)) (whole_packed (paths_at nodes id.0) (whole_at nodes id sound root))
    ∙ finds_at nodes (back_sound nodes sound) id.0 root.0 (nibbles key)

pub root_is : (nodes : List Shape) (id : NodeId) → Sound nodes → IsRoot nodes (Some id) → root_of (contents nodes (Some id)) ≡ summary_at nodes id.0
unfolding root_of_entries
root_is nodes id sound root =
    ap (λ (ps : Paths). summary_of (trie (depth ps) ps)) (paths_are nodes id sound root)
    ∙ ap summary_of ((trie_at nodes sound id.0 root.0).is (depth (paths_at nodes id.0)) (short_depth (paths_at nodes id.0) (depth (paths_at nodes id.0)) (omega arith)))

pub root_none : (nodes : List Shape) → root_of (contents nodes None) ≡ summary_of None
unfolding contents root_of_entries trie
root_none nodes = ap root_of_entries (nil_from_length (entries (empty {X = List ℕ} {R = R})) (sym (len-entries (empty {X = List ℕ} {R = R})) ∙ len-empty R (List ℕ)))

length-paths : (es : Paths) → length (paths es) ≡ length es
length-paths [] = refl
length-paths (e ∷ es) = ap suc (length-paths es)

pub few_entries : (nodes : List Shape) (id : NodeId) → Sound nodes → IsRoot nodes (Some id) → count_at nodes id.0 + 1 ≤ 2 * length (entries (contents nodes (Some id)))
few_entries nodes id sound root = omega (arith, few_at nodes sound id.0 root.0, ap length (paths_are nodes id sound root), length-paths (entries (contents nodes (Some id))))

-- ---- the same, by the name of a root
pub get_of_none : (nodes : List Shape) (r : Option NodeId) (key : List ℕ) → r ≡ None → None ≡ get (contents nodes r) key
unfolding contents
get_of_none nodes r key e = sym (ap (λ (q : Option NodeId). get (contents nodes q) key) e ∙ get-empty R key)

pub get_of_some : (nodes : List Shape) (r : Option NodeId) (id : NodeId) (key : List ℕ) → Sound nodes → IsRoot nodes r → r ≡ Some id → get (contents nodes r) key ≡ found nodes id.0 (nibbles key)
get_of_some nodes r id key sound root e = ap (λ (q : Option NodeId). get (contents nodes q) key) e ∙ get_is nodes (Some id) key sound (subst (IsRoot nodes) e root)

pub usage_of_none : (nodes : List Shape) (r : Option NodeId) → r ≡ None → (root_of (contents nodes r)).usage ≡ 0
usage_of_none nodes r e = ap (λ (q : Option NodeId). (root_of (contents nodes q)).usage) e ∙ ap (λ (s : Summary). s.usage) (root_none nodes)

pub usage_of_some : (nodes : List Shape) (r : Option NodeId) (id : NodeId) → Sound nodes → IsRoot nodes r → r ≡ Some id → (root_of (contents nodes r)).usage ≡ (summary_at nodes id.0).usage
usage_of_some nodes r id sound root e = ap (λ (q : Option NodeId). (root_of (contents nodes q)).usage) e ∙ ap (λ (s : Summary). s.usage) (root_is nodes id sound (subst (IsRoot nodes) e root))
