-- What holds of each value of a map holds of all its values in order.
use Rattle.std.proofs.Common.{◌≡◌, Bool, true, false, cond, List, [], ◌∷◌, map, Some, None, refl, ap, ◌∙◌}
use Rattle.std.specs.Prelude.{T}
use Rattle.std.specs.Cmp.{IsTotalOrder, tied_itself}
use Rattle.std.specs.FinMap.{FinMap, IsAntisymmetric, find, is_sorted, entries, entries_sorted, get, get-entries}
use Rattle.std.specs.FinMap.{values}
use Rattle.std.specs.FinMap.Entries.{below_all}
use Rattle.std.specs.List.{AllByRecursion}
use Rattle.std.specs.Ordering.{is_eq, eq_by_cmp}
use Rattle.std.specs.declared.cmp.Ordering.{Ordering}
use Rattle.nr_bytes.proofs.Basics.{left_of, right_of, equal_of}
use Rattle.nr_columns.proofs.Tables.{find_below}

module _ {K X : Type 0} (R : K → K → Ordering) (o : IsTotalOrder R) (same : IsAntisymmetric R) (P : X → Type 0) where
  itself : (k : K) → eq_by_cmp R k k ≡ true
  itself k = ap is_eq (tied_itself o k)

  -- a key behind the first is found where it was
  behind : (e : K × X) (es : List (K × X)) → T (below_all R e.0 es) → (k : K) (v : X) → find R k es ≡ Some v
      → find R k (e ∷ es) ≡ Some v
  behind e es below k v found = by (eq_by_cmp R k e.0) refl
    where
      by : (b : Bool) → eq_by_cmp R k e.0 ≡ b → cond b (Some e.1) (find R k es) ≡ Some v
      by true t =
          absurd (let none : find R k es ≡ None = ap (λ (q : K). find R q es) (same k e.0 (equal_of (R k e.0) t))
          ∙ find_below R e.0 es below in cc)
      by false t = found

  each : (es : List (K × X)) → T (is_sorted R es) → ((k : K) (v : X) → find R k es ≡ Some v → P v)
      → AllByRecursion P (map (λ (e : K × X). e.1) es)
  each [] sorted h = tt
  each (e ∷ es) sorted h = (
    h e.0 e.1 (ap (λ b. cond b (Some e.1) (find R e.0 es)) (itself e.0)),
    each es (right_of _ _ sorted) (λ k v found. h k v (behind e es (left_of _ _ sorted) k v found)),
  )

  pub all_values : (m : FinMap R X) → ((k : K) (v : X) → get m k ≡ Some v → P v) → AllByRecursion P (values m)
  all_values m h = each (entries m) (entries_sorted m) (λ k v found. h k v (get-entries m k ∙ found))
