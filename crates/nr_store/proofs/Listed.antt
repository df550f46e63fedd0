-- The entries of what the slots hold, and that their keys are in the order of their nibbles.
use Rattle.std.proofs.Common.{◌≡◌, ℕ, cond, List, [], ◌∷◌, ◌++◌, append-nil, length, Option, Some, None, Ordering, refl, ap, sym, subst, ◌∙◌}
use Rattle.std.specs.Prelude.{T}
use Rattle.std.specs.List.{AllByRecursion}
use Rattle.std.specs.List.Sorted.{IsStrictlySortedBy}
use Rattle.std.specs.declared.cmp.Ordering.TheVariants.{Less, Equal, Greater}
use Rattle.std.specs.FinMap.{empty, entries, entries_sorted, entries-insert, len-empty, len-entries}
use Rattle.std.specs.FinMap.Entries.{put, below_all, is_sorted, by_order}
use Rattle.std.specs.Ordering.{is_lt, is_eq}
use Rattle.std.specs.Cmp.Lexicographic.{nat_list_cmp_total}
use Rattle.std.specs.Map.{lookup, keys_of}
use Rattle.std.specs.BTreeMap.{is_at}
use Rattle.std.proofs.lemmas.List.{nil_from_length}
use Rattle.nr_bytes.proofs.Basics.{left_of, right_of}
use Rattle.nr_triedef.specs.Node.{nibbles, IsNibbles}
use Rattle.nr_triedef.specs.Root.{Contents, Paths, paths}
use Rattle.nr_store.specs.Plain.{Text, keyed, filled, held, held_in}
use Rattle.nr_store.specs.Tries.{Before, Rise, CanWalk}
use Rattle.nr_store.proofs.Orders.{nibbles_before}
use Rattle.nr_store.proofs.Held.{R, C, joined, get-held, remove-absent, sorted-keyed}

abbrev Pairs : Type 0
Pairs = List (List ℕ × Option (List ℕ))

no_entries : entries (empty {X = List ℕ} {R = R}) ≡ []
no_entries =
    let none : length (entries (empty {X = List ℕ} {R = R})) ≡ 0 = sym (len-entries (empty {X = List ℕ} {R = R})) ∙ len-empty R (List ℕ) in
    nil_from_length _ none

not_there : (k : List ℕ) (es : Pairs) → AllByRecursion (λ y. R k y ≡ Less) (keys_of es) → lookup (is_at (R k)) es ≡ None
not_there k [] h = refl
not_there k (e ∷ es) h = ap (λ r. cond (is_eq r) (Some e.1) (lookup (is_at (R k)) es)) h.0 ∙ not_there k es h.1

put_first : (k v : List ℕ) (es : Pairs) → AllByRecursion (λ y. R k y ≡ Less) (keys_of es) → put R k v (filled es) ≡ (k, v) ∷ filled es
put_first k v [] h = refl
put_first k v ((j, None) ∷ es) h = put_first k v es h.1
put_first k v ((j, Some w) ∷ es) h = ap (λ r. by_order r ((k, v) ∷ (j, w) ∷ filled es) ((j, v) ∷ filled es) ((j, w) ∷ put R k v (filled es))) h.0

entries-held : (es : Pairs) → IsStrictlySortedBy R (keys_of es) → entries (held es) ≡ filled es
unfolding IsStrictlySortedBy
entries-held [] h = no_entries
entries-held ((k, None) ∷ es) h = ap entries (remove-absent (held es) k (get-held es k ∙ ap joined (not_there k es h.0))) ∙ entries-held es h.1
entries-held ((k, Some v) ∷ es) h = entries-insert nat_list_cmp_total (held es) k v ∙ ap (put R k v) (entries-held es h.1) ∙ put_first k v es h.0

-- where the slots' keys are in order, their entries are those with a value
pub entries-held_in : (es : List (Text × Option Text)) → IsStrictlySortedBy C (keys_of es) → entries (held_in es) ≡ filled (keyed es)
entries-held_in es h = entries-held (keyed es) (sorted-keyed es h)

-- ---- their keys are in the order of their nibbles
is_less : (r : Ordering) → T (is_lt r) → r ≡ Less
is_less Less p = refl
is_less Equal p = absurd p
is_less Greater p = absurd p

before_paths : (k : List ℕ) (es : List (List ℕ × List ℕ)) → T (below_all R k es) → AllByRecursion (λ (q : List ℕ × List ℕ). Before (nibbles k) q.0) (paths es)
before_paths k [] h = tt
before_paths k (e ∷ es) h = (nibbles_before k e.0 (is_less (R k e.0) (left_of (is_lt (R k e.0)) (below_all R k es) h)), before_paths k es (right_of (is_lt (R k e.0)) (below_all R k es) h))

rise_paths : (es : List (List ℕ × List ℕ)) → T (is_sorted R es) → Rise (paths es)
rise_paths [] h = tt
rise_paths (e ∷ es) h = (before_paths e.0 es (left_of (below_all R e.0 es) (is_sorted R es) h), rise_paths es (right_of (below_all R e.0 es) (is_sorted R es) h))

pub walk_whole : (m : Contents) (ps : Paths) → ps ≡ paths (entries m) → AllByRecursion (λ (p : List ℕ × List ℕ). IsNibbles p.0) ps → CanWalk ps
walk_whole m ps e small = record { order = subst Rise (sym e) (rise_paths (entries m) (entries_sorted m)); small = small }

-- ---- what a walk over the slots gives
pub entries_walked : (es rest : List (Text × Option Text)) (list : Paths) → IsStrictlySortedBy C (keys_of es) → rest ≡ [] → list ++ paths (filled (keyed rest)) ≡ paths (filled (keyed es)) → list ≡ paths (entries (held_in es))
entries_walked es rest list s e h =
    sym (append-nil list) ∙ ap (λ (r : List (Text × Option Text)). list ++ paths (filled (keyed r))) (sym e) ∙ h ∙ ap paths (sym (entries-held_in es s))

-- the same as bytes
pub lent_walked : (es rest : List (Text × Option Text)) (list : List (List ℕ × List ℕ)) → IsStrictlySortedBy C (keys_of es) → rest ≡ [] → list ++ filled (keyed rest) ≡ filled (keyed es) → list ≡ entries (held_in es)
lent_walked es rest list s e h =
    sym (append-nil list) ∙ ap (λ (r : List (Text × Option Text)). list ++ filled (keyed r)) (sym e) ∙ h ∙ sym (entries-held_in es s)
