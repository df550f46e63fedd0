-- What nodes stand for under other names.
use Rattle.std.proofs.Common.{◌≡◌, ◌<◌, ◌≤◌, ◌+◌, ℕ, zero, suc, true, cond, List, [], ◌∷◌, length, map, Option, Some, None, refl, ap, sym, ◌∙◌, subst, arith}
use mathlib.Core.Bool.{false≢true}
use Rattle.std.specs.Prelude.{is_some, count_by, sum_by}
use Rattle.std.specs.Prelude.{IsSome, false, ◌*◌}
use Rattle.std.specs.List.{AllByRecursion}
use Rattle.std.specs.FinMap.{from_sorted, entries}
use Rattle.std.proofs.lemmas.List.{length-map}
use Rattle.std.proofs.lemmas.List.Sums.{sum_by-cons}
use Rattle.std.specs.Option.{option_map}
use Rattle.nr_triedef.specs.declared.hash.Summary.{Summary}
use Rattle.nr_triedef.specs.Root.{Paths, Contents, summary_of}
use Rattle.nr_trienodes.specs.Shape.{Shape, shape_at, child, fold}
use Rattle.nr_trienodes.specs.Tries.{Answer, answer, nothing, found, node_paths, paths_at, node_summary, summary_at, node_cost, cost_at, is_leaf}
use Rattle.nr_trienodes.specs.Views.{Stands, Sound}
use Rattle.nr_trienodes.specs.Roots.{root_count, IsRoot, packed, contents, cost, Renames, IsOldest, OldestStay}
use Rattle.nr_trienodes.specs.Naming.{Names, new_name, renamed, new_root, HasName, HaveOwn, IsNamed, AreNamed}
use Rattle.nr_trienodes.specs.declared.nodes.NodeId.{NodeId}
use Rattle.nr_trienodes.proofs.Folds.{Back, by_names, fold_at}
use Rattle.nr_trienodes.proofs.Sounds.{back_sound, sum_by-map}
use Rattle.nr_trienodes.proofs.Maps.{few_entries}

child_renamed : (names : Names) (cs : List (Option ℕ)) (x : ℕ) → child (map (renamed names) cs) x ≡ renamed names (child cs x)
child_renamed names [] x = refl
child_renamed names (c ∷ cs) zero = refl
child_renamed names (c ∷ cs) (suc x) = child_renamed names cs x

-- a child under its new name
pub old_child : (names : Names) (cs : List (Option ℕ)) (x k : ℕ) → child (map (renamed names) cs) x ≡ Some k → (c : ℕ) × (child cs x ≡ Some c) × (new_name names c ≡ Some k)
old_child names cs x k e = found_child (child cs x) refl (sym (child_renamed names cs x) ∙ e)
  where
    found_child : (o : Option ℕ) → child cs x ≡ o → renamed names o ≡ Some k → (c : ℕ) × (child cs x ≡ Some c) × (new_name names c ≡ Some k)
    found_child None is h = absurd cc
    found_child (Some c) is h = (c, is, h)

same_name : (a b : ℕ) (o : Option ℕ) → o ≡ Some a → o ≡ Some b → a ≡ b
same_name a b o e f = cc

pub back_named : (names : Names) (old new : List Shape) → AreNamed names old new → Back new
back_named names old new are name lt x k e =
    let from = are.onto name lt in
    let named : IsNamed names old new from.0 name = are.each from.0 name from.1 from.2 in
    let c = old_child names (shape_at old from.0).below x k (ap (λ (s : Shape). child s.below x) (sym named.shape) ∙ e) in
    let less = named.below x c.0 c.1 in
    let same : less.0 ≡ k = same_name less.0 k (new_name names c.0) less.1 c.2 in
    subst (λ n. n < name) same less.2

-- what is made of children under their new names
children_named : {A : Type 0} (names : Names) (f g : ℕ → A) (cs : List (Option ℕ)) → ((x c : ℕ) → child cs x ≡ Some c → (k : ℕ) × (new_name names c ≡ Some k) × (g k ≡ f c)) → map (option_map g) (map (renamed names) cs) ≡ map (option_map f) cs
children_named names f g [] same = refl
children_named {A} names f g (None ∷ cs) same = ap (λ (r : List (Option A)). None ∷ r) (children_named names f g cs (λ x c e. same (suc x) c e))
children_named {A} names f g (Some c ∷ cs) same =
    let here = same 0 c refl in
    let first : option_map g (new_name names c) ≡ Some (f c) = ap (option_map g) here.1 ∙ ap (λ (a : A). Some a) here.2 in
    (λ i. first i ∷ children_named names f g cs (λ x c e. same (suc x) c e) i)

pub fold_named : {A : Type 0} (f : Shape → List (Option A) → A) (none : A) (names : Names) (old new : List Shape)
    → ((s : Shape) (cs : List (Option ℕ)) (bs : List (Option A)) → f (record s { below = cs }) bs ≡ f s bs) → Back old
    → AreNamed names old new → (id name : ℕ) → id < length old → new_name names id ≡ Some name → fold f none new name
    ≡ fold f none old id
fold_named {A} f none names old new blind back are = by_names (λ id. (name : ℕ) → id < length old → new_name names id ≡ Some name → fold f none new name ≡ fold f none old id) step
  where
    step : (id : ℕ) → ((c : ℕ) → c < id → (name : ℕ) → c < length old → new_name names c ≡ Some name → fold f none new name ≡ fold f none old c) → (name : ℕ) → id < length old → new_name names id ≡ Some name → fold f none new name ≡ fold f none old id
    step id less name lt e =
        let named : IsNamed names old new id name = are.each id name lt e in
        let s : Shape = shape_at old id in
        let below : (x c : ℕ) → child s.below x ≡ Some c → (k : ℕ) × (new_name names c ≡ Some k) × (fold f none new k ≡ fold f none old c) =
        λ x c h. let k = named.below x c h in let small : c < id = back id lt x c h in (k.0, k.1, less c small k.0 (omega arith) k.1) in
        fold_at f none new name (back_named names old new are) named.there
        ∙ ap (λ (t : Shape). f t (map (option_map (fold f none new)) t.below)) named.shape
        ∙ blind s (map (renamed names) s.below) (map (option_map (fold f none new)) (map (renamed names) s.below))
        ∙ ap (f s) (children_named names (fold f none old) (fold f none new) s.below below)
        ∙ sym (fold_at f none old id back lt)

-- ---- the nodes are as they are to be
count_named : (names : Names) (cs : List (Option ℕ)) → ((x c : ℕ) → child cs x ≡ Some c → is_some (new_name names c) ≡ true) → count_by is_some (map (renamed names) cs) ≡ count_by is_some cs
count_named names cs kept = sum_by-map (λ (o : Option ℕ). cond {A = ℕ} (is_some o) 1 0) (renamed names) cs ∙ same cs kept
  where
    same : (cs : List (Option ℕ)) → ((x c : ℕ) → child cs x ≡ Some c → is_some (new_name names c) ≡ true) → sum_by (λ o. cond {A = ℕ} (is_some (renamed names o)) 1 0) cs ≡ count_by is_some cs
    same [] kept = refl
    same (None ∷ cs) kept = omega (arith, sum_by-cons (λ o. cond {A = ℕ} (is_some (renamed names o)) 1 0) None cs, sum_by-cons (λ (o : Option ℕ). cond {A = ℕ} (is_some o) 1 0) None cs, same cs (λ x c e. kept (suc x) c e))
    same (Some c ∷ cs) kept =
        let one : cond {A = ℕ} (is_some (new_name names c)) 1 0 ≡ 1 = ap (λ b. cond {A = ℕ} b 1 0) (kept 0 c refl) in
        omega (arith, sum_by-cons (λ o. cond {A = ℕ} (is_some (renamed names o)) 1 0) (Some c) cs, sum_by-cons (λ (o : Option ℕ). cond {A = ℕ} (is_some o) 1 0) (Some c) cs, one, same cs (λ x c e. kept (suc x) c e))

pub sound_named : (names : Names) (old new : List Shape) → Sound old → AreNamed names old new → Sound new
sound_named names old new sound are name lt =
    let from = are.onto name lt in
    let named : IsNamed names old new from.0 name = are.each from.0 name from.1 from.2 in
    let s : Shape = shape_at old from.0 in
    let st : Stands old from.0 s = sound from.0 from.1 in
    let sum : summary_at new name ≡ summary_at old from.0 = fold_named node_summary (summary_of None) names old new (λ s cs bs. refl) (back_sound old sound) are from.0 name from.1 from.2 in
    let back : (x c : ℕ) → child (map (renamed names) s.below) x ≡ Some c → c < name = λ x c e. back_named names old new are name lt x c (ap (λ (t : Shape). child t.below x) named.shape ∙ e) in
    let count : count_by is_some (map (renamed names) s.below) ≡ count_by is_some s.below = count_named names s.below (λ x c e. let k = named.below x c e in ap is_some k.1) in
    subst (Stands new name) (sym named.shape) (record {
      sixteen = length-map s.below (renamed names) ∙ st.sixteen;
      small = st.small;
      back = back;
      linked = subst (λ n. is_leaf s.value n ≡ false → 2 ≤ cond (is_some s.value) 1 0 + n) (sym count) st.linked;
      usage = st.usage ∙ ap (λ (t : Summary). t.usage) (sym sum);
      hash = λ h e. st.hash h e ∙ ap (λ (t : Summary). t.hash) (sym sum);
      closed = λ some x k e. closed from.0 from.1 named st some x k e;
    })
  where
    closed : (id : ℕ) → id < length old → IsNamed names old new id name → Stands old id (shape_at old id) → is_some (shape_at old id).hash ≡ true → (x k : ℕ) → child (map (renamed names) (shape_at old id).below) x ≡ Some k → is_some (shape_at new k).hash ≡ true
    closed id lt named st some x k e =
        let c = old_child names (shape_at old id).below x k e in
        let less : c.0 < id = st.back x c.0 c.1 in
        let older : c.0 < length old = omega arith in
        let it : IsNamed names old new c.0 k = are.each c.0 k older c.2 in
        ap (λ (t : Shape). is_some t.hash) it.shape ∙ st.closed some x c.0 c.1

-- ---- roots
pub root_named : (names : Names) (old new : List Shape) (id name : NodeId) → Sound old → AreNamed names old new → new_name names id.0 ≡ Some name.0 → IsRoot old (Some id) → IsRoot new (Some name) × (contents new (Some name) ≡ contents old (Some id)) × (cost new (Some name) ≤ cost old (Some id))
unfolding contents cost
root_named names old new id name sound are e root =
    let back : Back old = back_sound old sound in
    let found_same : found new name.0 ≡ found old id.0 = fold_named answer nothing names old new (λ s cs bs. refl) back are id.0 name.0 root.0 e in
    let paths_same : paths_at new name.0 ≡ paths_at old id.0 = fold_named node_paths [] names old new (λ s cs bs. refl) back are id.0 name.0 root.0 e in
    let cost_same : cost_at new name.0 ≡ cost_at old id.0 = fold_named node_cost 0 names old new (λ s cs bs. refl) back are id.0 name.0 root.0 e in
    (((are.each id.0 name.0 root.0 e).there, λ key some. root.1 key (subst IsSome (ap (λ (f : Answer). f key) found_same) some)), ap (λ (ps : Paths). from_sorted (packed ps)) paths_same, omega (arith, cost_same))

none_named : (old new : List Shape) → (contents new None ≡ contents old None) × (cost new None ≤ cost old None)
unfolding contents cost
none_named old new = (refl, omega arith)

pub roots_named : (names : Names) (old new : List Shape) (roots : List (Option NodeId)) → Sound old → AreNamed names old new → AllByRecursion (IsRoot old) roots → AllByRecursion (HasName names) roots → Renames old new roots (map (new_root names) roots)
roots_named names old new [] sound are h kept = tt
roots_named names old new (None ∷ roots) sound are h kept = let it = none_named old new in (tt, it.0, it.1, roots_named names old new roots sound are h.1 kept.1)
roots_named names old new (Some id ∷ roots) sound are h kept = one (new_name names id.0) refl kept.0 (roots_named names old new roots sound are h.1 kept.1)
  where
    one : (o : Option ℕ) → new_name names id.0 ≡ o → is_some o ≡ true → Renames old new roots (map (new_root names) roots) → Renames old new (Some id ∷ roots) (map (new_root names) (Some id ∷ roots))
    one None e some rest = absurd (false≢true some)
    one (Some n) e some rest =
        let name : NodeId = record { 0 = n } in
        let is : new_root names (Some id) ≡ Some name = ap (option_map (λ (n : ℕ). let name : NodeId = record { 0 = n } in name)) e in
        let it = root_named names old new id name sound are e h.0 in
        subst (λ (q : Option NodeId). Renames old new (Some id ∷ roots) (q ∷ map (new_root names) roots)) (sym is) (it.0, it.1, it.2, rest)

-- the oldest nodes have their own names, and so do the roots that name them
pub oldest_stay : (names : Names) (oldest : ℕ) (roots : List (Option NodeId)) → HaveOwn names oldest
    → OldestStay oldest roots (map (new_root names) roots)
oldest_stay names oldest [] own = tt
oldest_stay names oldest (r ∷ roots) own = (one r, oldest_stay names oldest roots own)
  where
    one : (r : Option NodeId) → IsOldest oldest r → new_root names r ≡ r
    one None old = refl
    one (Some id) old = ap (option_map (λ (n : ℕ). let name : NodeId = record { 0 = n } in name)) (own id.0 old)

-- of the names of roots those of nodes that aren't there don't tell
pub oldest_there : (nodes : List Shape) (oldest few : ℕ) (roots moved : List (Option NodeId))
    → ((id : ℕ) → id < oldest → id < length nodes → id < few) → AllByRecursion (IsRoot nodes) roots
    → OldestStay few roots moved → OldestStay oldest roots moved
oldest_there nodes oldest few [] [] within h stay = tt
oldest_there nodes oldest few [] (q ∷ moved) within h stay = absurd stay
oldest_there nodes oldest few (r ∷ roots) [] within h stay = absurd stay
oldest_there nodes oldest few (r ∷ roots) (q ∷ moved) within h stay =
    (λ old. stay.0 (one r h.0 old), oldest_there nodes oldest few roots moved within h.1 stay.1)
  where
    one : (r : Option NodeId) → IsRoot nodes r → IsOldest oldest r → IsOldest few r
    one None root old = tt
    one (Some id) root old = within id.0 old root.0

-- at most two nodes for each entry
root_few : (nodes : List Shape) (r : Option NodeId) → Sound nodes → IsRoot nodes r → root_count nodes r ≤ 2 * length (entries (contents nodes r))
root_few nodes None sound root = omega arith
root_few nodes (Some id) sound root = omega (arith, few_entries nodes id sound root)

pub roots_few : (old new : List Shape) (roots moved : List (Option NodeId)) → Sound old → AllByRecursion (IsRoot old) roots → Renames old new roots moved → sum_by (root_count old) roots ≤ sum_by (λ r. 2 * length (entries (contents new r))) moved
roots_few old new [] [] sound h re = omega arith
roots_few old new [] (q ∷ moved) sound h re = absurd re
roots_few old new (r ∷ roots) [] sound h re = absurd re
roots_few old new (r ∷ roots) (q ∷ moved) sound h re =
    let same : length (entries (contents new q)) ≡ length (entries (contents old r)) = ap (λ (m : Contents). length (entries m)) re.1 in
    let here : root_count old r ≤ 2 * length (entries (contents old r)) = root_few old r sound h.0 in
    let rest : sum_by (root_count old) roots ≤ sum_by (λ r. 2 * length (entries (contents new r))) moved = roots_few old new roots moved sound h.1 re.3 in
    omega (arith, sum_by-cons (root_count old) r roots, sum_by-cons (λ r. 2 * length (entries (contents new r))) q moved)
