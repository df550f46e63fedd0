-- How many entries there are, in a map and under the trie's first root.
use Rattle.std.proofs.Common.{◌≡◌, ℕ, ◌<◌, true, false, cond, List, Option, Some, None, length, refl, sym, ap, ◌∙◌, subst, arith, inl, inr}
use mathlib.Core.Bool.{false≢true}
use Rattle.std.proofs.Math.Nat.{eq-zero-or-pos}
use Rattle.std.specs.Option.{is_some}
use Rattle.std.specs.Ordering.{is_eq, nat_cmp}
use Rattle.std.specs.declared.cmp.Ordering.{Ordering}
use Rattle.std.specs.declared.cmp.Ordering.TheVariants.{Less, Equal, Greater}
use Rattle.std.specs.Cmp.Lexicographic.{slice_cmp, nat_list_cmp_total}
use Rattle.std.specs.FinMap.{empty, remove, get, entries, same_map, empty_of_len, get-empty, get-remove, len-entries}
use Rattle.std.proofs.lemmas.Map.Lookups.{exact_bytes}
use Rattle.nr_triedef.specs.Root.{Contents}
use Rattle.nr_triedef.specs.Stores.{IsSized}
use Rattle.nr_trienodes.specs.Roots.{IsRoot, contents, cost}
use Rattle.nr_trienodes.specs.declared.merging.CountedRoot.{CountedRoot}
use Rattle.nr_trienodes.proofs.Counts.{length_none}
use Rattle.nr_trieupdate.specs.Room.{Arena, held_at, cost_at, IsLevel}

pub remove_absent : (m : Contents) (k : List ℕ) → is_some (get m k) ≡ false → m ≡ remove m k
remove_absent m k e = same_map nat_list_cmp_total exact_bytes m (remove m k) (λ q. each q (slice_cmp nat_cmp q k) refl ∙ sym (get-remove nat_list_cmp_total m k q))
  where
    none : (o : Option (List ℕ)) → is_some o ≡ false → o ≡ None
    none None h = refl
    none (Some v) h = absurd (false≢true (sym h))

    each : (q : List ℕ) (r : Ordering) → slice_cmp nat_cmp q k ≡ r → get m q ≡ cond (is_eq r) None (get m q)
    each q Less p = refl
    each q Equal p = ap (get m) (exact_bytes q k p) ∙ none (get m k) e
    each q Greater p = refl

nothing : (m : Contents) → length (entries m) ≡ 0 → m ≡ empty
nothing m e = empty_of_len m (len-entries m ∙ e)

pub some_entry : (m : Contents) (k : List ℕ) → is_some (get m k) ≡ true → 0 < length (entries m)
some_entry m k e =
    elim (eq-zero-or-pos (length (entries m))) as (λ _. 0 < length (entries m)) [
      | inl z ↦ absurd (false≢true (ap is_some (sym (ap (λ (n : Contents). get n k) (nothing m z) ∙ get-empty (slice_cmp nat_cmp) k)) ∙ e))
      | inr p ↦ p
    ]

sized_empty : IsSized empty
sized_empty = record { few = omega (arith, length_none); each = λ q w e. absurd (false≢true (ap is_some (sym (get-empty (slice_cmp nat_cmp) q) ∙ e))) }

nothing_held : (v : Arena) → contents v None ≡ empty
unfolding contents
nothing_held v = refl

nothing_costs : (v : Arena) → cost v None ≡ 0
unfolding cost
nothing_costs v = refl

pub held_none : (v : Arena) (top : CountedRoot) → top.root ≡ None → held_at v top ≡ empty
held_none v top none = ap (contents v) none ∙ nothing_held v

pub cost_none : (v : Arena) (top : CountedRoot) → top.root ≡ None → cost_at v top ≡ 0
cost_none v top none = ap (cost v) none ∙ nothing_costs v

pub level_none : (v : Arena) (top : CountedRoot) → top.root ≡ None → IsRoot v top.root → top.count ≡ length (entries (contents v top.root)) → IsLevel v top
level_none v top none root count = record { root = root; count = count; sized = subst IsSized (sym (held_none v top none)) sized_empty }
