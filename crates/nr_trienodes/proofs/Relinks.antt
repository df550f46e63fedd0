-- A node with another child in place of one.
use Rattle.std.proofs.Common.{◌≡◌, ◌==◌, ◌<◌, ◌≤◌, ◌+◌, ◌++◌, ◌^◌, ℕ, zero, suc, true, false, cond, List, [], ◌∷◌, length, set, map, Option, Some, None, refl, ap, sym, ◌∙◌, subst, arith}
use Rattle.std.specs.Prelude.{is_some, count_by, sum_by}
use Rattle.std.specs.Option.{option_map}
use Rattle.std.proofs.lemmas.List.{length-set}
use Rattle.std.proofs.lemmas.List.Sums.{sum_by-set}
use Rattle.nr_triedef.specs.declared.hash.Summary.{Summary}
use Rattle.nr_triedef.specs.Root.{usage_below, summary_of}
use Rattle.nr_trienodes.specs.Bodies.{value_of, row_of}
use Rattle.nr_trienodes.specs.Shape.{Shape, shape_at, child}
use Rattle.nr_trienodes.specs.Tries.{node_summary, summary_at, own_usage, is_leaf, IsLinked}
use Rattle.nr_trienodes.specs.Views.{shapes, Sound, Stands, IsIn}
use Rattle.nr_trienodes.specs.declared.nodes.Node.{Node}
use Rattle.nr_trienodes.proofs.Folds.{fold_at}
use Rattle.nr_trienodes.proofs.Sounds.{back_sound, sum_by-map, count-children, usage_is}
use Rattle.nr_trienodes.proofs.Rows.{child_get, some_child}
use Rattle.nr_trienodes.proofs.Settled.{back_set}
use Rattle.nr_trienodes.proofs.Views.{Added, pushed}

some_there : (row : List (Option ℕ)) (x : ℕ) → is_some (child row x) ≡ true → x < length row
some_there [] x e = absurd cc
some_there (d ∷ row) zero e = omega arith
some_there (d ∷ row) (suc x) e = omega (arith, some_there row x e)

pub in_older : (n id : ℕ) (o : Option ℕ) → id < n → ((c : ℕ) → o ≡ Some c → c < id) → IsIn n o
in_older n id None lt h = tt
in_older n id (Some c) lt h = let less : c < id = h c refl in omega arith

-- as many children as before
pub relink_count : (row : List (Option ℕ)) (x below : ℕ) → is_some (child row x) ≡ true → count_by is_some (set row x (Some below)) ≡ count_by is_some row
relink_count row x below e =
    omega (
      arith,
      sum_by-set (λ (d : Option ℕ). cond {A = ℕ} (is_some d) 1 0) row x (Some below) None (some_there row x e),
      ap (λ b. cond {A = ℕ} b 1 0) (ap is_some (child_get row x) ∙ e),
    )

pub relink_linked : (value : Option (List ℕ)) (row : List (Option ℕ)) (x below : ℕ) → is_some (child row x) ≡ true → IsLinked value row → IsLinked value (set row x (Some below))
relink_linked value row x below e linked =
    subst (λ n. is_leaf value n ≡ false → 2 ≤ cond {A = ℕ} (is_some value) 1 0 + n) (sym (relink_count row x below e)) linked

-- ---- usages
abbrev pub usages : List Shape → List (Option ℕ) → ℕ
usages nodes row = sum_by (λ c. usage_below (option_map (summary_at nodes) c)) row

relink_sum : (nodes : List Shape) (row : List (Option ℕ)) (x : ℕ) (below : Option ℕ) → is_some (child row x) ≡ true
    → usages nodes (set row x below) + usage_below (option_map (summary_at nodes) (child row x)) ≡ usages nodes row + usage_below (option_map (summary_at nodes) below)
relink_sum nodes row x below e =
    ap (λ (c : Option ℕ). usages nodes (set row x below) + usage_below (option_map (summary_at nodes) c)) (sym (child_get row x))
    ∙ sum_by-set (λ (c : Option ℕ). usage_below (option_map (summary_at nodes) c)) row x below None (some_there row x e)

-- the usage of a node with children
inner_usage : (nodes : List Shape) (id x : ℕ) → Sound nodes → id < length nodes → is_some (child (shape_at nodes id).below x) ≡ true
    → (summary_at nodes id).usage ≡ own_usage (shape_at nodes id).part (shape_at nodes id).value false (usages nodes (shape_at nodes id).below)
inner_usage nodes id x sound lt e =
    let s : Shape = shape_at nodes id in
    let below : List (Option Summary) = map (option_map (summary_at nodes)) s.below in
    let some : (count_by is_some below == 0) ≡ false =
    ap (λ n. n == 0) (count-children (summary_at nodes) s.below) ∙ some_child s.below x (ap is_some (child_get s.below x) ∙ e) in
    let total : sum_by usage_below below ≡ usages nodes s.below = sum_by-map usage_below (option_map (summary_at nodes)) s.below in
    ap (λ (t : Summary). t.usage) (fold_at node_summary (summary_of None) nodes id (back_sound nodes sound) lt)
    ∙ usage_is s below ∙ (λ i. own_usage s.part s.value (some i) (total i))

-- the usage of a child is part of it
pub relink_less : (nodes : List Shape) (id x : ℕ) → Sound nodes → id < length nodes → is_some (child (shape_at nodes id).below x) ≡ true
    → usage_below (option_map (summary_at nodes) (child (shape_at nodes id).below x)) ≤ (summary_at nodes id).usage
relink_less nodes id x sound lt e =
    omega (arith, inner_usage nodes id x sound lt e, relink_sum nodes (shape_at nodes id).below x None e)

pub relink_usage : (nodes : List Shape) (id x below n : ℕ) → Sound nodes → id < length nodes → is_some (child (shape_at nodes id).below x) ≡ true
    → n + usage_below (option_map (summary_at nodes) (child (shape_at nodes id).below x)) ≡ (summary_at nodes id).usage + (summary_at nodes below).usage
    → n ≡ own_usage (shape_at nodes id).part (shape_at nodes id).value false (usages nodes (set (shape_at nodes id).below x (Some below)))
relink_usage nodes id x below n sound lt e is =
    omega (arith, inner_usage nodes id x sound lt e, relink_sum nodes (shape_at nodes id).below x (Some below) e)

-- ---- the new node in the arena
pub relinked : (nodes new : List Node) (v : List Shape) (id x below name : ℕ) (n : Node) → shapes nodes ≡ v → Sound (shapes nodes) → id < length v → below < length v
    → is_some (child (shape_at v id).below x) ≡ true → name ≡ length v → name + 1 < 2 ^ 32 → n.part ≡ (shape_at v id).part → value_of n.body ≡ (shape_at v id).value
    → row_of n.body ≡ set (shape_at v id).below x (Some below) → n.hash ≡ None
    → n.usage ≡ own_usage (shape_at v id).part (shape_at v id).value false (usages v (set (shape_at v id).below x (Some below)))
    → new ≡ nodes ++ n ∷ [] → Added new v name (shape_at v id).part (shape_at v id).value (set (shape_at v id).below x (Some below))
relinked nodes new v id x below name n e sound lt less some en few ep ev er none eu is =
    let s : Shape = shape_at v id in
    let st : Stands v id s = subst Sound e sound id lt in
    let row : List (Option ℕ) = set s.below x (Some below) in
    let others : false ≡ (count_by is_some row == 0) =
    sym (ap (λ n. n == 0) (relink_count s.below x below some) ∙ some_child s.below x (ap is_some (child_get s.below x) ∙ some)) in
    pushed nodes new v name n s.part s.value row (usages v row) false e sound en few none ep ev er
    (length-set s.below x (Some below) ∙ st.sixteen) st.small (relink_linked s.value s.below x below some st.linked)
    (back_set (length v) s.below x (Some below) (λ y c h. let older : c < id = st.back y c h in omega arith) less)
    refl others eu is
