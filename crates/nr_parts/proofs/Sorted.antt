-- Entries in order that are set one after the other are the map of them.
use Rattle.std.proofs.Common.{◌≡◌, ℕ, List, [], ◌∷◌, ◌++◌, length, refl, ap, sym, subst, ◌∙◌, append-nil, append_assoc}
use Rattle.std.specs.Prelude.{T}
use Rattle.std.specs.List.{AllByRecursion}
use Rattle.std.specs.Ordering.{is_lt, ordering_reverse}
use Rattle.std.specs.declared.cmp.Ordering.{Ordering}
use Rattle.std.specs.declared.cmp.Ordering.TheVariants.{Less, Equal, Greater}
use Rattle.std.specs.FinMap.{empty, entries, insert, entries-insert, entries_sorted, same_entries_map, len, len-empty, len-entries}
use Rattle.std.specs.FinMap.Entries.{is_sorted, below_all, put, by_order}
use Rattle.std.specs.Cmp.Lexicographic.{nat_list_cmp_total}
use Rattle.nr_bytes.proofs.Basics.{left_of, right_of}
use Rattle.nr_triedef.specs.Root.{Contents}
use Rattle.nr_store.proofs.Held.{R}
use Rattle.nr_columns.specs.declared.entry.Entry.{Entry}
use Rattle.nr_columns.specs.Entries.{pairs_of}
use Rattle.nr_parts.specs.Joining.{set_all}

abbrev Pair : Type 0
Pair = List ℕ × List ℕ

less : (o : Ordering) → T (is_lt o) → o ≡ Less
less Less h = refl
less Equal h = absurd h
less Greater h = absurd h

-- the key behind others that are all below it
below_middle : (x : List ℕ) (es : List Pair) (p : Pair) (rest : List Pair) → T (below_all R x (es ++ p ∷ rest)) → T (is_lt (R x p.0))
below_middle x [] p rest h = left_of (is_lt (R x p.0)) (below_all R x rest) h
below_middle x (e ∷ es) p rest h = below_middle x es p rest (right_of (is_lt (R x e.0)) (below_all R x (es ++ p ∷ rest)) h)

before_middle : (es : List Pair) (p : Pair) (rest : List Pair) → T (is_sorted R (es ++ p ∷ rest)) → AllByRecursion (λ (e : Pair). T (is_lt (R e.0 p.0))) es
before_middle [] p rest h = tt
before_middle (e ∷ es) p rest h = (
  below_middle e.0 es p rest (left_of (below_all R e.0 (es ++ p ∷ rest)) (is_sorted R (es ++ p ∷ rest)) h),
  before_middle es p rest (right_of (below_all R e.0 (es ++ p ∷ rest)) (is_sorted R (es ++ p ∷ rest)) h),
)

put_last : (k v : List ℕ) (es : List Pair) → AllByRecursion (λ (e : Pair). T (is_lt (R e.0 k))) es → put R k v es ≡ es ++ (k, v) ∷ []
put_last k v [] h = refl
put_last k v (e ∷ es) h =
    let after : R k e.0 ≡ Greater = nat_list_cmp_total.antisymm k e.0 ∙ ap ordering_reverse (less (R e.0 k) h.0) in
    ap (λ o. by_order o ((k, v) ∷ e ∷ es) ((e.0, v) ∷ es) (e ∷ put R k v es)) after ∙ ap (λ (l : List Pair). e ∷ l) (put_last k v es h.1)

set_behind : (es : List Entry) (m : Contents) → T (is_sorted R (entries m ++ pairs_of es)) → entries (set_all m es) ≡ entries m ++ pairs_of es
set_behind [] m h = sym (append-nil (entries m))
set_behind (e ∷ es) m h =
    let more : entries (insert m e.key e.value) ≡ entries m ++ (e.key, e.value) ∷ [] = entries-insert nat_list_cmp_total m e.key e.value ∙ put_last e.key e.value (entries m) (before_middle (entries m) (e.key, e.value) (pairs_of es) h) in
    let all : entries (insert m e.key e.value) ++ pairs_of es ≡ entries m ++ (e.key, e.value) ∷ pairs_of es = ap (λ (l : List Pair). l ++ pairs_of es) more ∙ append_assoc (entries m) ((e.key, e.value) ∷ []) (pairs_of es) in
    set_behind es (insert m e.key e.value) (subst (λ (l : List Pair). T (is_sorted R l)) (sym all) h) ∙ all

none_there : (es : List Pair) → length es ≡ 0 → es ≡ []
none_there [] e = refl
none_there (x ∷ es) e = absurd cc

no_entries : (m : Contents) → m ≡ empty → entries m ≡ []
no_entries m e = none_there (entries m) (sym (len-entries m) ∙ ap len e ∙ len-empty R (List ℕ))

pub set_map : (m : Contents) (es : List Entry) → pairs_of es ≡ entries m → set_all empty es ≡ m
set_map m es is =
    let none : entries empty ++ pairs_of es ≡ pairs_of es = ap (λ (l : List Pair). l ++ pairs_of es) (no_entries empty refl) in
    same_entries_map (set_all empty es) m (set_behind es empty (subst (λ (l : List Pair). T (is_sorted R l)) (sym (none ∙ is)) (entries_sorted m)) ∙ none ∙ is)
