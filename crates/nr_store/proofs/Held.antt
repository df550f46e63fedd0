-- What the slots hold after a change of one of them.
use Rattle.std.proofs.Common.{◌≡◌, ℕ, Bool, true, false, cond, List, [], ◌∷◌, Option, Some, None, Ordering, sym, refl, ap, ◌∙◌, subst}
use mathlib.Core.Bool.{false≢true}
use Rattle.std.specs.Prelude.{IsSome, is_some, unwrap_or}
use Rattle.std.specs.declared.cmp.Ordering.TheVariants.{Less, Equal, Greater}
use Rattle.std.specs.Option.{option_map, option_copied}
use Rattle.std.proofs.Common.{Bor}
use Rattle.std.specs.FinMap.{remove, get, get-empty, get-insert, get-remove, same_map}
use Rattle.std.specs.Ordering.{nat_cmp, eq_by_cmp, is_eq, match_ordering}
use Rattle.std.specs.Cmp.{eq_by_cmp_equiv}
use Rattle.std.specs.Cmp.Lexicographic.{slice_cmp, nat_list_cmp_total}
use Rattle.std.specs.Map.{lookup, set_value, remove_entry, keys_of}
use Rattle.std.specs.List.Sorted.{IsStrictlySortedBy}
use Rattle.std.specs.List.{AllByRecursion}
use Rattle.std.specs.BTreeMap.{is_at, insert_entry}
use Rattle.std.proofs.lemmas.Map.{lookup-set_value, lookup-remove_entry}
use Rattle.std.proofs.lemmas.Map.Keys.{IsDistinct-from_sorted}
use Rattle.std.proofs.lemmas.Map.Lookups.{exact_bytes}
use Rattle.nr_triedef.specs.Root.{Contents}
use Rattle.std.specs.Prelude.{IsNone}
use Rattle.nr_bytes.proofs.Basics.{equal_of}
use Rattle.nr_store.specs.Plain.{Text, text_of, keyed, put_back, held, held_in, slot_at, value_before, HasSlot}
use Rattle.nr_store.specs.declared.slots.Undo.{Undo}

abbrev pub R : List ℕ → List ℕ → Ordering
R = slice_cmp nat_cmp

abbrev pub joined : Option (Option (List ℕ)) → Option (List ℕ)
joined o = unwrap_or o None

-- the value that a key has
pub get-put_back : (m : Contents) (k : List ℕ) (w : Option (List ℕ)) (q : List ℕ) → get (put_back m k w) q ≡ cond (eq_by_cmp R q k) w (get m q)
get-put_back m k None q = get-remove nat_list_cmp_total m k q
get-put_back m k (Some v) q = get-insert nat_list_cmp_total m k v q

pub get-held : (es : List (List ℕ × Option (List ℕ))) (q : List ℕ) → get (held es) q ≡ joined (lookup (is_at (R q)) es)
get-held [] q = get-empty R q
get-held (e ∷ es) q =
    get-put_back (held es) e.0 e.1 q
    ∙ ap (cond (eq_by_cmp R q e.0) e.1) (get-held es q)
    ∙ pushed (eq_by_cmp R q e.0) e.1 (lookup (is_at (R q)) es)
  where
    pushed : (b : Bool) (w : Option (List ℕ)) (o : Option (Option (List ℕ))) → cond b w (joined o) ≡ joined (cond b (Some w) o)
    pushed true w o = refl
    pushed false w o = refl

-- slots that differ from es at one key, where they have w
pub held-changed : (es fs : List (List ℕ × Option (List ℕ))) (k : List ℕ) (w : Option (List ℕ)) → ((q : List ℕ) → lookup (is_at (R q)) fs ≡ cond (eq_by_cmp R q k) (Some w) (lookup (is_at (R q)) es)) → held fs ≡ put_back (held es) k w
held-changed es fs k w h =
    same_map nat_list_cmp_total exact_bytes _ _ (λ q.
    get-held fs q ∙ ap joined (h q) ∙ pulled (eq_by_cmp R q k) w (lookup (is_at (R q)) es)
    ∙ ap (cond (eq_by_cmp R q k) w) (sym (get-held es q)) ∙ sym (get-put_back (held es) k w q))
  where
    pulled : (b : Bool) (w : Option (List ℕ)) (o : Option (Option (List ℕ))) → joined (cond b (Some w) o) ≡ cond b w (joined o)
    pulled true w o = refl
    pulled false w o = refl

pub held-removed : (es fs : List (List ℕ × Option (List ℕ))) (k : List ℕ) → ((q : List ℕ) → lookup (is_at (R q)) fs ≡ cond (eq_by_cmp R q k) None (lookup (is_at (R q)) es)) → held fs ≡ remove (held es) k
held-removed es fs k h =
    same_map nat_list_cmp_total exact_bytes _ _ (λ q.
    get-held fs q ∙ ap joined (h q) ∙ pulled (eq_by_cmp R q k) (lookup (is_at (R q)) es)
    ∙ ap (cond (eq_by_cmp R q k) None) (sym (get-held es q)) ∙ sym (get-remove nat_list_cmp_total (held es) k q))
  where
    pulled : (b : Bool) (o : Option (Option (List ℕ))) → joined (cond b None o) ≡ cond b None (joined o)
    pulled true o = refl
    pulled false o = refl

-- an entry put in order
pub lookup-insert_entry : (es : List (List ℕ × Option (List ℕ))) (k : List ℕ) (w : Option (List ℕ)) (q : List ℕ) → lookup (is_at (R q)) (insert_entry R es k w) ≡ cond (eq_by_cmp R q k) (Some w) (lookup (is_at (R q)) es)
lookup-insert_entry [] k w q = refl
lookup-insert_entry (e ∷ es) k w q =
    elim (R k e.0) as (λ r. R k e.0 ≡ r → lookup (is_at (R q)) (match_ordering r ((k, w) ∷ e ∷ es) ((e.0, w) ∷ es) (e ∷ insert_entry R es k w)) ≡ cond (eq_by_cmp R q k) (Some w) (lookup (is_at (R q)) (e ∷ es))) [
      | Less ↦ λ p. refl
      | Equal ↦ λ p. ap (λ x. cond (eq_by_cmp R q x) (Some w) (lookup (is_at (R q)) es)) (sym (exact_bytes k e.0 p)) ∙ twice (eq_by_cmp R q k) (eq_by_cmp R q e.0) (ap (eq_by_cmp R q) (exact_bytes k e.0 p))
      | Greater ↦ λ p. ap (cond (eq_by_cmp R q e.0) (Some e.1)) (lookup-insert_entry es k w q) ∙ apart p
    ] refl
  where
    twice : (a b : Bool) → a ≡ b → cond a (Some w) (lookup (is_at (R q)) es) ≡ cond a (Some w) (cond b (Some e.1) (lookup (is_at (R q)) es))
    twice true b h = refl
    twice false b h = ap (λ x. cond x (Some e.1) (lookup (is_at (R q)) es)) h

    apart : R k e.0 ≡ Greater → cond (eq_by_cmp R q e.0) (Some e.1) (cond (eq_by_cmp R q k) (Some w) (lookup (is_at (R q)) es)) ≡ cond (eq_by_cmp R q k) (Some w) (cond (eq_by_cmp R q e.0) (Some e.1) (lookup (is_at (R q)) es))
    apart p =
        elim (R q k) as (λ r. R q k ≡ r → cond (eq_by_cmp R q e.0) (Some e.1) (cond (is_eq r) (Some w) (lookup (is_at (R q)) es)) ≡ cond (is_eq r) (Some w) (cond (eq_by_cmp R q e.0) (Some e.1) (lookup (is_at (R q)) es))) [
          | Less ↦ λ s. refl
          | Equal ↦ λ s. ap (λ b. cond b (Some e.1) (Some w)) (ap (λ x. is_eq (R x e.0)) (exact_bytes q k s) ∙ ap is_eq p)
          | Greater ↦ λ s. refl
        ] refl

-- what the map of texts holds is what its keys' bytes hold
abbrev pub C : Text → Text → Ordering
C x y = R x.items y.items

abbrev pub at_bytes : List ℕ → Text → Ordering
at_bytes q k = R q k.items

pub lookup-keyed : (es : List (Text × Option Text)) (q : List ℕ) → lookup (is_at (R q)) (keyed es) ≡ option_map text_of (lookup (is_at (at_bytes q)) es)
lookup-keyed [] q = refl
lookup-keyed (e ∷ es) q = ap (cond (eq_by_cmp R q e.0.items) (Some (text_of e.1))) (lookup-keyed es q) ∙ pulled (eq_by_cmp R q e.0.items) e.1 (lookup (is_at (at_bytes q)) es)
  where
    pulled : (b : Bool) (w : Option Text) (o : Option (Option Text)) → cond b (Some (text_of w)) (option_map text_of o) ≡ option_map text_of (cond b (Some w) o)
    pulled true w o = refl
    pulled false w o = refl

pub keyed-insert_entry : (es : List (Text × Option Text)) (k : Text) (w : Option Text) → keyed (insert_entry C es k w) ≡ insert_entry R (keyed es) k.items (text_of w)
keyed-insert_entry [] k w = refl
keyed-insert_entry (e ∷ es) k w =
    elim (R k.items e.0.items) as (λ r. keyed (match_ordering r ((k, w) ∷ e ∷ es) ((e.0, w) ∷ es) (e ∷ insert_entry C es k w)) ≡ match_ordering r ((k.items, text_of w) ∷ keyed (e ∷ es)) ((e.0.items, text_of w) ∷ keyed es) ((e.0.items, text_of e.1) ∷ insert_entry R (keyed es) k.items (text_of w))) [
      | Less ↦ refl
      | Equal ↦ refl
      | Greater ↦ ap (λ t. (e.0.items, text_of e.1) ∷ t) (keyed-insert_entry es k w)
    ]

pub keyed-set_value : (es : List (Text × Option Text)) (q : List ℕ) (w : Option Text) → keyed (set_value (is_at (at_bytes q)) es w) ≡ set_value (is_at (R q)) (keyed es) (text_of w)
keyed-set_value [] q w = refl
keyed-set_value (e ∷ es) q w =
    elim (eq_by_cmp R q e.0.items) as (λ b. keyed (cond b ((e.0, w) ∷ es) (e ∷ set_value (is_at (at_bytes q)) es w)) ≡ cond b ((e.0.items, text_of w) ∷ keyed es) ((e.0.items, text_of e.1) ∷ set_value (is_at (R q)) (keyed es) (text_of w))) [
      | true ↦ refl
      | false ↦ ap (λ t. (e.0.items, text_of e.1) ∷ t) (keyed-set_value es q w)
    ]

pub keyed-remove_entry : (es : List (Text × Option Text)) (q : List ℕ) → keyed (remove_entry (is_at (at_bytes q)) es) ≡ remove_entry (is_at (R q)) (keyed es)
keyed-remove_entry [] q = refl
keyed-remove_entry (e ∷ es) q =
    elim (eq_by_cmp R q e.0.items) as (λ b. keyed (cond b es (e ∷ remove_entry (is_at (at_bytes q)) es)) ≡ cond b (keyed es) ((e.0.items, text_of e.1) ∷ remove_entry (is_at (R q)) (keyed es))) [
      | true ↦ refl
      | false ↦ ap (λ t. (e.0.items, text_of e.1) ∷ t) (keyed-remove_entry es q)
    ]

below_keyed : (k : List ℕ) (es : List (Text × Option Text)) → AllByRecursion (λ (y : Text). R k y.items ≡ Less) (keys_of es) → AllByRecursion (λ y. R k y ≡ Less) (keys_of (keyed es))
below_keyed k [] h = tt
below_keyed k (e ∷ es) h = (h.0, below_keyed k es h.1)

pub sorted-keyed : (es : List (Text × Option Text)) → IsStrictlySortedBy C (keys_of es) → IsStrictlySortedBy R (keys_of (keyed es))
unfolding IsStrictlySortedBy
sorted-keyed [] h = tt
sorted-keyed (e ∷ es) h = (below_keyed e.0.items es h.0, sorted-keyed es h.1)

-- ---- the four changes
one_key : (k x y : List ℕ) → is_at (R k) x ≡ true → is_at (R k) y ≡ eq_by_cmp R x y
one_key k x y h = ap (λ z. is_eq (R z y)) (exact_bytes k x (equal_of _ h))

turned : (k q : List ℕ) {A : Type 0} (x y : A) → cond (is_at (R k) q) x y ≡ cond (eq_by_cmp R q k) x y
turned k q x y = ap (λ b. cond b x y) ((eq_by_cmp_equiv nat_list_cmp_total).symm k q)

pub held_in-insert : (es : List (Text × Option Text)) (k : Text) (w : Option Text) → held_in (insert_entry C es k w) ≡ put_back (held_in es) k.items (text_of w)
held_in-insert es k w = held-changed (keyed es) _ k.items (text_of w) (λ q. ap (lookup (is_at (R q))) (keyed-insert_entry es k w) ∙ lookup-insert_entry (keyed es) k.items (text_of w) q)

pub held_in-write : (es : List (Text × Option Text)) (k : List ℕ) (w : Option Text) → HasSlot es k → held_in (set_value (is_at (at_bytes k)) es w) ≡ put_back (held_in es) k (text_of w)
held_in-write es k w h = held-changed (keyed es) _ k (text_of w) (λ q. ap (lookup (is_at (R q))) (keyed-set_value es k w) ∙ lookup-set_value (eq_by_cmp_equiv nat_list_cmp_total) (is_at (R k)) (one_key k) q (text_of w) (keyed es) h ∙ turned k q _ _)

pub held_in-remove : (es : List (Text × Option Text)) (k : List ℕ) → IsStrictlySortedBy C (keys_of es) → held_in (remove_entry (is_at (at_bytes k)) es) ≡ remove (held_in es) k
held_in-remove es k s = held-removed (keyed es) _ k (λ q. ap (lookup (is_at (R q))) (keyed-remove_entry es k) ∙ lookup-remove_entry (eq_by_cmp_equiv nat_list_cmp_total) (is_at (R k)) (one_key k) q (keyed es) (IsDistinct-from_sorted R _ (sorted-keyed es s)) ∙ turned k q _ _)

-- ---- what a look-up answers
pub get-held_in : (es : List (Text × Option Text)) (q : List ℕ) → get (held_in es) q ≡ joined (option_map text_of (lookup (is_at (at_bytes q)) es))
get-held_in es q = get-held (keyed es) q ∙ ap joined (lookup-keyed es q)

pub HasSlot-found : (es : List (Text × Option Text)) (q : List ℕ) (w : Option Text) → Some w ≡ lookup (is_at (at_bytes q)) es → HasSlot es q
HasSlot-found es q w e = subst IsSome (ap (option_map text_of) e ∙ sym (lookup-keyed es q)) refl

pub none-not_found : (es : List (Text × Option Text)) (q : List ℕ) → None ≡ lookup (is_at (at_bytes q)) es → HasSlot es q → ⊥
none-not_found es q e h = false≢true (subst IsSome (lookup-keyed es q ∙ ap (option_map text_of) (sym e)) h)

one_more : {A : Type 0} (b : Bool) (w : A) (o : Option A) → IsSome o → IsSome (cond b (Some w) o)
one_more true w o h = refl
one_more false w o h = h

pub HasSlot-insert : (es : List (Text × Option Text)) (k : Text) (w : Option Text) (q : List ℕ) → HasSlot es q → HasSlot (insert_entry C es k w) q
HasSlot-insert es k w q h = subst IsSome (sym (ap (lookup (is_at (R q))) (keyed-insert_entry es k w) ∙ lookup-insert_entry (keyed es) k.items (text_of w) q)) (one_more (eq_by_cmp R q k.items) (text_of w) _ h)

pub HasSlot-inserted : (es : List (Text × Option Text)) (k : Text) (w : Option Text) → HasSlot (insert_entry C es k w) k.items
HasSlot-inserted es k w =
    subst IsSome (sym (ap (lookup (is_at (R k.items))) (keyed-insert_entry es k w) ∙ lookup-insert_entry (keyed es) k.items (text_of w) k.items ∙ ap (λ b. cond b (Some (text_of w)) (lookup (is_at (R k.items)) (keyed es))) ((eq_by_cmp_equiv nat_list_cmp_total).refl k.items))) refl

pub HasSlot-write : (es : List (Text × Option Text)) (k : List ℕ) (w : Option Text) (q : List ℕ) → HasSlot es k → HasSlot es q → HasSlot (set_value (is_at (at_bytes k)) es w) q
HasSlot-write es k w q p h = subst IsSome (sym (ap (lookup (is_at (R q))) (keyed-set_value es k w) ∙ lookup-set_value (eq_by_cmp_equiv nat_list_cmp_total) (is_at (R k)) (one_key k) q (text_of w) (keyed es) p)) (one_more (is_at (R k) q) (text_of w) _ h)

-- a key without a value
pub remove-absent : (m : Contents) (k : List ℕ) → get m k ≡ None → remove m k ≡ m
remove-absent m k e =
    same_map nat_list_cmp_total exact_bytes _ _ (λ q. get-remove nat_list_cmp_total m k q ∙
    elim (R q k) as (λ r. R q k ≡ r → cond (is_eq r) None (get m q) ≡ get m q) [
      | Less ↦ λ s. refl
      | Equal ↦ λ s. sym (ap (get m) (exact_bytes q k s) ∙ e)
      | Greater ↦ λ s. refl
    ] refl)

pub is_some-map : {A B : Type 0} (f : A → B) (o : Option A) → is_some (option_map f o) ≡ is_some o
is_some-map f None = refl
is_some-map f (Some x) = refl

-- ---- what a change found
pub value_found : (es : List (Text × Option Text)) (u : Undo) (k : List ℕ) → option_map text_of u.before ≡ slot_at es k → value_before u ≡ get (held_in es) k
value_found es u k e = joined_map u.before ∙ ap joined e ∙ sym (get-held (keyed es) k)
  where
    joined_map : (o : Option (Option Text)) → text_of (unwrap_or o None) ≡ joined (option_map text_of o)
    joined_map None = refl
    joined_map (Some w) = refl

pub new_slot : (es : List (Text × Option Text)) (u : Undo) (k : List ℕ) → u.key.items ≡ k → option_map text_of u.before ≡ slot_at es k → IsNone u.before → HasSlot es u.key.items → ⊥
new_slot es u k f e n h =
    let some : is_some u.before ≡ true = sym (is_some-map text_of u.before) ∙ ap is_some (e ∙ ap (slot_at es) (sym f)) ∙ h in
    false≢true (sym n ∙ some)

-- ---- a slot taken out
pub HasSlot-remove : (es : List (Text × Option Text)) (k : List ℕ) → IsStrictlySortedBy C (keys_of es) → (q : List ℕ) → (q ≡ k → ⊥) → HasSlot es q → HasSlot (remove_entry (is_at (at_bytes k)) es) q
HasSlot-remove es k s q ne h =
    subst IsSome (sym (ap (lookup (is_at (R q))) (keyed-remove_entry es k) ∙ lookup-remove_entry (eq_by_cmp_equiv nat_list_cmp_total) (is_at (R k)) (one_key k) q (keyed es) (IsDistinct-from_sorted R _ (sorted-keyed es s))))
    (elim (R k q) as (λ r. R k q ≡ r → IsSome (cond (is_eq r) None (lookup (is_at (R q)) (keyed es)))) [
      | Less ↦ λ p. h
      | Equal ↦ λ p. absurd (ne (sym (exact_bytes k q p)))
      | Greater ↦ λ p. h
    ] refl)

-- ---- a value that was found
pub copied_none : {A : Type 0} (o : Option (Bor A)) → is_some o ≡ false → option_copied o ≡ None
copied_none None h = refl
copied_none (Some x) h = absurd (false≢true (sym h))

pub copied_some : {A : Type 0} (o : Option (Bor A)) → is_some (option_copied o) ≡ is_some o
copied_some None = refl
copied_some (Some x) = refl

joined_some : (o : Option (Option (List ℕ))) → is_some (joined o) ≡ true → is_some o ≡ true
joined_some None h = h
joined_some (Some w) h = refl

pub HasSlot-got : (es : List (Text × Option Text)) (q : List ℕ) → is_some (get (held_in es) q) ≡ true → HasSlot es q
HasSlot-got es q h = joined_some (slot_at es q) (ap is_some (sym (get-held (keyed es) q)) ∙ h)
