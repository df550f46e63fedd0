-- How many entries a map has after a change of one key.
use Rattle.std.proofs.Common.{◌≡◌, ℕ, ◌+◌, ◌-◌, Bool, cond, List, Option, Some, None, length, refl, sym, ap, ◌∙◌}
use Rattle.std.specs.Borrow.{Bor}
use Rattle.std.specs.Option.{is_some, option_copied}
use Rattle.std.specs.Cmp.Lexicographic.{slice_cmp, nat_list_cmp_total}
use Rattle.std.specs.Ordering.{nat_cmp}
use Rattle.std.specs.FinMap.{empty, insert, remove, get, len, entries, contains_key, len-empty, len-insert, len-remove, len-entries}
use Rattle.nr_triedef.specs.Root.{Contents}
use Rattle.nr_trienodes.specs.Shape.{Shape}
use Rattle.nr_trienodes.specs.Roots.{IsChanged, contents}
use Rattle.nr_trienodes.specs.Merging.{with_value}
use Rattle.nr_trienodes.specs.Opened.{CountsOn}
use Rattle.nr_trienodes.specs.declared.nodes.NodeId.{NodeId}

pub copied_some : {A : Type 0} (o : Option (Bor A)) → is_some (option_copied o) ≡ is_some o
copied_some None = refl
copied_some (Some x) = refl

pub count_insert : (m : Contents) (k v : List ℕ) (found : Bool) → found ≡ is_some (get m k) → length (entries (insert m k v)) ≡ cond found (length (entries m)) (length (entries m) + 1)
count_insert m k v found e =
    let a : length (entries (insert m k v)) ≡ cond (contains_key m k) (len m) (len m + 1) = sym (len-entries (insert m k v)) ∙ len-insert nat_list_cmp_total m k v in
    a ∙ ap (λ b. cond b (len m) (len m + 1)) (sym e) ∙ ap (λ n. cond found n (n + 1)) (len-entries m)

pub count_remove : (m : Contents) (k : List ℕ) (found : Bool) → found ≡ is_some (get m k) → length (entries (remove m k)) ≡ cond found (length (entries m) - 1) (length (entries m))
count_remove m k found e =
    let a : length (entries (remove m k)) ≡ cond (contains_key m k) (len m - 1) (len m) = sym (len-entries (remove m k)) ∙ len-remove nat_list_cmp_total m k in
    a ∙ ap (λ b. cond b (len m - 1) (len m)) (sym e) ∙ ap (λ n. cond found (n - 1) n) (len-entries m)

pub length_none : length (entries (empty {X = List ℕ} {R = slice_cmp nat_cmp})) ≡ 0
length_none = sym (len-entries (empty {X = List ℕ} {R = slice_cmp nat_cmp})) ∙ len-empty (slice_cmp nat_cmp) (List ℕ)

pub none_counted : (nodes : List Shape) → 0 ≡ length (entries (contents nodes None))
unfolding contents
none_counted nodes = sym length_none

-- ---- the count after a change
pub counts_with : (k : List ℕ) (o : Option (List ℕ)) (v : List ℕ) (found : Bool) (before after : ℕ) → o ≡ Some v → after ≡ cond found before (before + 1) → CountsOn found k o before after
counts_with k o v found before after is e =
    λ m there many. e ∙ ap (λ n. cond found n (n + 1)) many ∙ sym (count_insert m k v found there) ∙ ap (λ (w : Option (List ℕ)). length (entries (with_value m k w))) (sym is)

pub counts_without : (k : List ℕ) (o : Option (List ℕ)) (found : Bool) (before after : ℕ) → o ≡ None → after ≡ cond found (before - 1) before → CountsOn found k o before after
counts_without k o found before after is e =
    λ m there many. e ∙ ap (λ n. cond found (n - 1) n) many ∙ sym (count_remove m k found there) ∙ ap (λ (w : Option (List ℕ)). length (entries (with_value m k w))) (sym is)

pub one_counted : (old new : List Shape) (before after : Option NodeId) (k : List ℕ) (o : Option (List ℕ)) (found : Bool) (extra first count : ℕ) → first ≡ length (entries (contents old before)) → found ≡ is_some (get (contents old before) k) → CountsOn found k o first count → IsChanged old new before after (with_value (contents old before) k o) extra → count ≡ length (entries (contents new after))
one_counted old new before after k o found extra first count many there counts changed = counts (contents old before) there many ∙ ap (λ (m : Contents). length (entries m)) (sym changed.map)
