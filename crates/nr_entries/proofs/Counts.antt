-- One count written into a map.
use Rattle.std.proofs.Common.{◌≡◌, ℕ, ◌+◌, ◌<◌, cond, List, ◌∷◌, length, drop, get_or, Option, Some, refl, sym, ap, ◌∙◌}
use Rattle.std.proofs.lemmas.List.{drop_more}
use Rattle.std.specs.Prelude.{unwrap_or}
use Rattle.std.specs.BTreeMap.{is_at}
use Rattle.std.specs.Ordering.{is_eq}
use Rattle.std.specs.Str.{bytes_eq}
use Rattle.std.specs.declared.cmp.Ordering.TheVariants.{Less, Equal, Greater}
use Rattle.std.specs.Cmp.Lexicographic.{texts_ties}
use Rattle.std.proofs.lemmas.Map.Lookups.{exact_bytes}
use Rattle.nr_columns.specs.Orders.{bytes_cmp}

pub usage_written : (old : List ℕ → Option ℕ) (id q : List ℕ) (w u : ℕ) (o : Option ℕ) → o ≡ cond (is_at (bytes_cmp id) q) (Some w) (old q) → w ≡ unwrap_or (old id) 0 + u → unwrap_or o 0 ≡ cond (bytes_eq id q) (unwrap_or (old q) 0 + u) (unwrap_or (old q) 0)
usage_written old id q w u o h k =
    ap (λ x. unwrap_or x 0) h
    ∙ elim (bytes_cmp id q) as (λ r. bytes_cmp id q ≡ r → unwrap_or (cond (is_eq r) (Some w) (old q)) 0 ≡ cond (is_eq r) (unwrap_or (old q) 0 + u) (unwrap_or (old q) 0)) [
      | Less ↦ λ e. refl
      | Equal ↦ λ e. k ∙ ap (λ x. unwrap_or (old x) 0 + u) (exact_bytes id q e)
      | Greater ↦ λ e. refl
    ] refl
    ∙ ap (λ b. cond b (unwrap_or (old q) 0 + u) (unwrap_or (old q) 0)) (sym (texts_ties id q))

-- the item in front of what is left
pub front_of : {A : Type 0} (xs : List A) (m n : ℕ) (x : A) → m < length xs → n ≡ m + 1 → x ≡ get_or xs m x → drop m xs ≡ x ∷ drop n xs
front_of xs m n x h e is = drop_more xs m x h ∙ ap (λ y. y ∷ drop (m + 1) xs) (sym is) ∙ ap (λ k. x ∷ drop k xs) (sym e)
