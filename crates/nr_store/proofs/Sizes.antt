-- How much a store holds, and that each change keeps within the sizes.
use Rattle.std.proofs.Common.{◌≡◌, ◌≤◌, ◌+◌, ◌-◌, ℕ, zero, suc, Bool, true, false, cond, List, [], ◌∷◌, length, Option, Some, None, refl, ap, sym, subst, ◌∙◌, arith}
use mathlib.Core.Bool.{false≢true}
use Rattle.std.specs.Prelude.{is_some}
use Rattle.std.specs.Option.{option_map}
use Rattle.std.specs.List.{AllByRecursion}
use Rattle.std.specs.Ordering.{is_eq}
use Rattle.std.specs.declared.cmp.Ordering.TheVariants.{Less, Equal, Greater}
use Rattle.std.specs.Cmp.Lexicographic.{nat_list_cmp_total}
use Rattle.std.specs.FinMap.{empty, insert, remove, get, len, entries, contains_key, get-empty, get-insert, get-remove, len-empty, len-insert, len-remove, len-entries}
use Rattle.std.specs.Map.{lookup}
use Rattle.std.specs.BTreeMap.{is_at}
use Rattle.std.proofs.lemmas.Map.Lookups.{exact_bytes}
use Rattle.std.proofs.lemmas.Option.{same_Some}
use Rattle.nr_triedef.specs.Root.{Contents}
use Rattle.nr_triedef.specs.Stores.{most_entries, IsSizedEntry, IsSized}
use Rattle.nr_store.specs.Plain.{Text, text_of, keyed, held, held_in, slot_at, seen}
use Rattle.nr_store.specs.declared.slots.Undo.{Undo}
use Rattle.nr_store.proofs.Held.{R, at_bytes, lookup-keyed, is_some-map}

-- ---- as many entries as slots, at most
one_less : (b : Bool) (n m : ℕ) → n ≤ m → cond b (n - 1) n ≤ suc m
one_less true n m h = omega arith
one_less false n m h = omega arith

one_more : (b : Bool) (n m : ℕ) → n ≤ m → cond b n (n + 1) ≤ suc m
one_more true n m h = omega arith
one_more false n m h = omega arith

len_held : (es : List (List ℕ × Option (List ℕ))) → len (held es) ≤ length es
len_held [] = omega (arith, len-empty R (List ℕ))
len_held ((k, None) ∷ es) = subst (λ n. n ≤ suc (length es)) (sym (len-remove nat_list_cmp_total (held es) k)) (one_less (contains_key (held es) k) (len (held es)) (length es) (len_held es))
len_held ((k, Some v) ∷ es) = subst (λ n. n ≤ suc (length es)) (sym (len-insert nat_list_cmp_total (held es) k v)) (one_more (contains_key (held es) k) (len (held es)) (length es) (len_held es))

length-keyed : (es : List (Text × Option Text)) → length (keyed es) ≡ length es
length-keyed [] = refl
length-keyed (e ∷ es) = ap suc (length-keyed es)

pub few_held : (es : List (Text × Option Text)) → length (entries (held_in es)) ≤ length es
few_held es = omega (arith, len_held (keyed es), len-entries (held_in es), length-keyed es)

pub few_set : (old new : List (Text × Option Text)) (before : Option (Option Text)) (k : List ℕ) → option_map text_of before ≡ slot_at old k → length new ≡ length old + cond (is_some before) 0 1 → length old + cond (is_some (slot_at old k)) 0 1 ≤ most_entries → length (entries (held_in new)) ≤ most_entries
few_set old new before k e count room =
    let same : is_some before ≡ is_some (slot_at old k) = sym (is_some-map text_of before) ∙ ap is_some e in
    let n : cond {A = ℕ} (is_some before) 0 1 ≡ cond (is_some (slot_at old k)) 0 1 = ap (λ b. cond {A = ℕ} b 0 1) same in
    let total : length new ≡ length old + cond (is_some (slot_at old k)) 0 1 = count ∙ ap {B = ℕ} (λ j. length old + j) n in
    let all : length new ≤ most_entries = subst (λ k. k ≤ most_entries) (sym total) room in
    let held : length (entries (held_in new)) ≤ length new = few_held new in
    omega arith

pub is_some-slot : (es : List (Text × Option Text)) (k : List ℕ) → is_some (slot_at es k) ≡ is_some (lookup (is_at (at_bytes k)) es)
is_some-slot es k = ap is_some (lookup-keyed es k) ∙ is_some-map text_of (lookup (is_at (at_bytes k)) es)

-- ---- what is held after a change
pub sized_insert : (m n : Contents) (k v : List ℕ) → n ≡ insert m k v → IsSized m → IsSizedEntry k v → length (entries n) ≤ most_entries → IsSized n
sized_insert m n k v e h entry few = record { few = few; each = each }
  where
    each : (q w : List ℕ) → get n q ≡ Some w → IsSizedEntry q w
    each q w is =
        let found : cond (is_eq (R q k)) (Some v) (get m q) ≡ Some w = sym (get-insert nat_list_cmp_total m k v q) ∙ ap (λ (m : Contents). get m q) (sym e) ∙ is in
        elim (R q k) as (λ r. R q k ≡ r → cond (is_eq r) (Some v) (get m q) ≡ Some w → IsSizedEntry q w) [
          | Less ↦ λ p f. h.each q w f
          | Equal ↦ λ p f. subst (λ (u : List ℕ). IsSizedEntry u w) (sym (exact_bytes q k p)) (subst (λ (u : List ℕ). IsSizedEntry k u) (same_Some v w f) entry)
          | Greater ↦ λ p f. h.each q w f
        ] refl found

-- a set entry, whose key and value are copies
pub few_put : (old new : List (Text × Option Text)) (before : Option (Option Text)) (k key : List ℕ) → k ≡ key → option_map text_of before ≡ slot_at old k → length new ≡ length old + cond (is_some before) 0 1 → length old + cond (is_some (slot_at old key)) 0 1 ≤ most_entries → length (entries (held_in new)) ≤ most_entries
few_put old new before k key same e count room = few_set old new before k e count (subst (λ (q : List ℕ). length old + cond (is_some (slot_at old q)) 0 1 ≤ most_entries) (sym same) room)

pub sized_put : (old new : List (Text × Option Text)) (k v key value : List ℕ) → k ≡ key → v ≡ value → held_in new ≡ insert (held_in old) k v → IsSizedEntry key value → length (entries (held_in new)) ≤ most_entries → IsSized (held_in old) → IsSized (held_in new)
sized_put old new k v key value f g e entry few h =
    sized_insert (held_in old) (held_in new) k v e h (subst (λ (q : List ℕ). IsSizedEntry q v) (sym f) (subst (λ (w : List ℕ). IsSizedEntry key w) (sym g) entry)) few

pub sized_remove : (m n : Contents) (k : List ℕ) → n ≡ remove m k → IsSized m → IsSized n
sized_remove m n k e h = record { few = fewer; each = each }
  where
    less : (b : Bool) (n m : ℕ) → n ≤ m → cond b (n - 1) n ≤ m
    less true n m h = omega arith
    less false n m h = omega arith

    fewer : length (entries n) ≤ most_entries
    fewer =
        let a : len n ≡ cond (contains_key m k) (len m - 1) (len m) = ap len e ∙ len-remove nat_list_cmp_total m k in
        let b : cond (contains_key m k) (len m - 1) (len m) ≤ most_entries = less (contains_key m k) (len m) most_entries (omega (arith, len-entries m, h.few)) in
        omega (arith, len-entries n)

    each : (q w : List ℕ) → get n q ≡ Some w → IsSizedEntry q w
    each q w is =
        let found : cond (is_eq (R q k)) None (get m q) ≡ Some w = sym (get-remove nat_list_cmp_total m k q) ∙ ap (λ (m : Contents). get m q) (sym e) ∙ is in
        elim (R q k) as (λ r. cond (is_eq r) None (get m q) ≡ Some w → IsSizedEntry q w) [
          | Less ↦ λ f. h.each q w f
          | Equal ↦ λ f. absurd (false≢true (ap is_some f))
          | Greater ↦ λ f. h.each q w f
        ] found

pub sized_empty : IsSized empty
sized_empty = record { few = omega (arith, len-entries (empty {X = List ℕ} {R = R}), len-empty R (List ℕ)); each = λ q w e. absurd (false≢true (ap is_some (sym (get-empty R q) ∙ e))) }

-- ---- what the checkpoints saw
pub saw_older : (m : Contents) (log : List Undo) (starts : List ℕ) (count : ℕ) → AllByRecursion IsSized (seen m log starts count) → AllByRecursion IsSized (seen m log starts (count - 1))
saw_older m log starts zero h = h
saw_older m log starts (suc n) h = let is : n ≡ suc n - 1 = omega arith in subst (λ k. AllByRecursion IsSized (seen m log starts k)) is h.1

pub saw_none : (m : Contents) (log : List Undo) (starts : List ℕ) (count : ℕ) → count ≡ 0 → AllByRecursion IsSized (seen m log starts count)
saw_none m log starts zero e = tt
saw_none m log starts (suc n) e = absurd (omega arith)
