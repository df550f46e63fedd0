-- A draft beside the trie, as changes are worked into it.
use Rattle.std.proofs.Common.{◌≡◌, ℕ, zero, suc, ◌+◌, ◌-◌, ◌*◌, ◌^◌, ◌<◌, ◌≤◌, ◌++◌, Bool, true, false, cond, List, [], ◌∷◌, length, take, drop, Option, Some, None, refl, sym, ap, ◌∙◌, subst, arith}
use Rattle.std.proofs.lemmas.List.{take_all, take-take, drop-take, take-append-drop, length-take-le, length-drop}
use Rattle.std.proofs.lemmas.List.Sums.{sum_by-cons, sum_by-append}
use Rattle.std.specs.Prelude.{is_some}
use Rattle.std.specs.List.{AllByRecursion}
use Rattle.std.specs.FinMap.{entries, get}
use Rattle.nr_triedef.specs.Node.{nibbles}
use Rattle.nr_triedef.specs.Root.{Contents}
use Rattle.nr_trienodes.specs.Roots.{contents, Keeps, IsChanged}
use Rattle.nr_trienodes.specs.Merging.{Changing, with_value, merged, merge_weight, IsOverfull}
use Rattle.nr_trienodes.specs.declared.nodes.NodeId.{NodeId}
use Rattle.nr_trienodes.specs.declared.merging.CountedRoot.{CountedRoot}
use Rattle.nr_trienodes.proofs.Keys.{length-nibbles}
use Rattle.nr_trienodes.proofs.Counts.{count_insert, count_remove}
use Rattle.nr_trieupdate.specs.Room.{Arena, most_nodes, IsLevel, IsFew, IsMoved, IsBounded, IsShort, AreShort}
use Rattle.nr_trieupdate.specs.declared.room.Limits.{Limits}
use Rattle.nr_trieupdate.proofs.Standing.{few_level, few_moved, both_moved, moved_kept}

-- ---- some of the changes
none_yet : (cs : List Changing) → take 0 cs ≡ []
none_yet [] = refl
none_yet (c ∷ cs) = refl

take_add : (n k : ℕ) (cs : List Changing) → take (n + k) cs ≡ take n cs ++ take k (drop n cs)
take_add n k cs =
    sym (take-append-drop n (take (n + k) cs)) ∙ (λ t. take-take n (n + k) cs (omega arith) t ++ drop-take n k cs t)

merged_append : (cs ds : List Changing) (m : Contents) → merged (cs ++ ds) m ≡ merged ds (merged cs m)
merged_append [] ds m = refl
merged_append (c ∷ cs) ds m = merged_append cs ds (with_value m c.0 c.1)

weight_append : (cs ds : List Changing) → merge_weight (cs ++ ds) ≡ merge_weight cs + merge_weight ds
weight_append cs ds = sum_by-append (λ (c : Changing). 2 * length (nibbles c.0) + 3) cs ds

all_drop : (n : ℕ) (cs : List Changing) → AllByRecursion IsShort cs → AllByRecursion IsShort (drop n cs)
all_drop zero [] h = tt
all_drop zero (c ∷ cs) h = h
all_drop (suc n) [] h = tt
all_drop (suc n) (c ∷ cs) h = all_drop n cs h.1

-- what a slice from a place on has
pub rest_is : (n : ℕ) (cs : List Changing) → take (length cs - n) (drop n cs) ≡ drop n cs
rest_is n cs = take_all (length cs - n) (drop n cs) (omega (arith, length-drop n cs))

pub length-rest : (n : ℕ) (cs : List Changing) → length (take (length cs - n) (drop n cs)) ≡ length cs - n
length-rest n cs = ap length (rest_is n cs) ∙ length-drop n cs

pub short_drop : (n : ℕ) (cs : List Changing) → AreShort cs → AreShort (take (length cs - n) (drop n cs))
short_drop n cs h = subst (λ (ds : List Changing). AreShort ds) (sym (rest_is n cs)) (record { few = omega (arith, h.few, length-drop n cs); each = all_drop n cs h.each })

-- ---- room
-- there is room for at least one
pub some_fit : (held fitting : ℕ) (cs : List Changing) → held ≤ most_nodes → 0 < length cs → AreShort cs → (fitting < length cs → IsOverfull held (take (fitting + 1) cs)) → 0 < fitting
some_fit held zero [] few some short most = absurd (omega arith)
some_fit held zero (c ∷ cs) few some short most =
    let first : merge_weight (c ∷ take 0 cs) ≡ merge_weight (c ∷ []) = ap (λ (ds : List Changing). merge_weight (c ∷ ds)) (none_yet cs) in
    let over : 2 ^ 32 < held + 1 + merge_weight (c ∷ take 0 cs) = most some in
    let key : length c.0 ≤ 70000000 = short.each.0 in
    absurd (omega (arith, length-nibbles c.0, sum_by-cons (λ (d : Changing). 2 * length (nibbles d.0) + 3) c []))
some_fit held (suc n) cs few some short most = omega arith

-- ---- how many entries there are
at_most : (b : Bool) (n : ℕ) → cond b n (n + 1) ≤ n + 1
at_most true n = omega arith
at_most false n = omega arith

no_more : (b : Bool) (n : ℕ) → cond b (n - 1) n ≤ n + 1
no_more true n = omega arith
no_more false n = omega arith

few_with : (m : Contents) (k : List ℕ) (o : Option (List ℕ)) → length (entries (with_value m k o)) ≤ length (entries m) + 1
few_with m k None = omega (arith, count_remove m k (is_some (get m k)) refl, no_more (is_some (get m k)) (length (entries m)))
few_with m k (Some v) = omega (arith, count_insert m k v (is_some (get m k)) refl, at_most (is_some (get m k)) (length (entries m)))

few_merged : (cs : List Changing) (m : Contents) → length (entries (merged cs m)) ≤ length (entries m) + length cs
few_merged [] m = omega arith
few_merged (c ∷ cs) m = omega (arith, few_merged cs (with_value m c.0 c.1), few_with m c.0 c.1)

-- ---- the draft
-- these changes are worked into it, and the trie's root stands for what it did
pub record IsDraft (u w : Arena) (first top draft : CountedRoot) (done : List Changing) (limits : Limits) : Type 0 where
  pub moved : IsMoved u w first.root top.root
  pub same : top.count ≡ first.count
  pub bounded : IsBounded limits
  pub made : IsChanged u w first.root draft.root (merged done (contents u first.root)) (merge_weight done)
  pub counted : draft.count ≡ length (entries (contents w draft.root))

pub draft_first : (u : Arena) (first : CountedRoot) (cs : List Changing) (limits : Limits) → IsLevel u first → IsBounded limits → IsDraft u u first first first (take 0 cs) limits
draft_first u first cs limits level bounded = subst (λ (done : List Changing). IsDraft u u first first first done limits) (sym (none_yet cs)) (record {
  moved = record { root = level.root; held = refl; debt = omega arith };
  same = refl;
  bounded = bounded;
  made = record { root = level.root; map = refl; cost = omega arith };
  counted = level.count;
})

pub few_top : (u w : Arena) (first top draft : CountedRoot) (cs : List Changing) (limits : Limits) → IsLevel u first → IsDraft u w first top draft cs limits → IsFew w top.root
few_top u w first top draft cs limits level d = few_moved u w first.root top.root (few_level u first level) d.moved

pub few_draft : (u w : Arena) (first top draft : CountedRoot) (n : ℕ) (cs : List Changing) (limits : Limits) → n ≤ length cs → AreShort cs → IsLevel u first → IsDraft u w first top draft (take n cs) limits → IsFew w draft.root
few_draft u w first top draft n cs limits within short level d =
    let same : length (entries (contents w draft.root)) ≡ length (entries (merged (take n cs) (contents u first.root))) = ap (λ (m : Contents). length (entries m)) d.made.map in
    let more : length (entries (merged (take n cs) (contents u first.root))) ≤ length (entries (contents u first.root)) + length (take n cs) = few_merged (take n cs) (contents u first.root) in
    record { root = d.made.root; few = omega (arith, level.sized.few, short.few, length-take-le n cs within) }

pub count_beside : (w x : Arena) (draft : CountedRoot) (mid : Option NodeId) → draft.count ≡ length (entries (contents w draft.root)) → IsMoved w x draft.root mid → draft.count ≡ length (entries (contents x mid))
count_beside w x draft mid e is = e ∙ ap (λ (m : Contents). length (entries m)) (sym is.held)

-- more changes, behind a trim
draft_on : (u w x y : Arena) (first top draft next : CountedRoot) (root mid : Option NodeId) (n k : ℕ) (cs : List Changing) (old limits : Limits)
    → IsDraft u w first top draft (take n cs) old
    → IsMoved w x top.root root → IsMoved w x draft.root mid → IsBounded limits
    → Keeps x y
    → IsChanged x y mid next.root (merged (take k (drop n cs)) (contents x mid)) (merge_weight (take k (drop n cs)))
    → next.count ≡ length (entries (contents y next.root))
    → IsDraft u y first (record { root = root; count = top.count }) next (take (n + k) cs) limits
draft_on u w x y first top draft next root mid n k cs old limits d here beside bounded keeps changed counted =
    subst (λ (done : List Changing). IsDraft u y first (record { root = root; count = top.count }) next done limits) (sym (take_add n k cs)) (record {
      moved = moved_kept u x y first.root root (both_moved u w x first.root top.root root d.moved here) keeps;
      same = d.same;
      bounded = bounded;
      made = record {
        root = changed.root;
        map = changed.map ∙ ap (merged (take k (drop n cs))) (beside.held ∙ d.made.map) ∙ sym (merged_append (take n cs) (take k (drop n cs)) (contents u first.root));
        cost = omega (arith, changed.cost, beside.debt, d.made.cost, weight_append (take n cs) (take k (drop n cs)));
      };
      counted = counted;
    })

pub draft_more : (u w x y : Arena) (first top draft next : CountedRoot) (root mid : Option NodeId) (n k : ℕ) (cs : List Changing) (old limits : Limits)
    → IsDraft u w first top draft (take n cs) old
    → IsMoved w x top.root root → IsMoved w x draft.root mid → IsBounded limits
    → Keeps x y
    → IsChanged x y mid next.root (merged (take k (take (length cs - n) (drop n cs))) (contents x mid)) (merge_weight (take k (take (length cs - n) (drop n cs))))
    → next.count ≡ length (entries (contents y next.root))
    → IsDraft u y first (record { root = root; count = top.count }) next (take (n + k) cs) limits
draft_more u w x y first top draft next root mid n k cs old limits d here beside bounded keeps changed counted =
    draft_on u w x y first top draft next root mid n k cs old limits d here beside bounded keeps
    (subst (λ (ds : List Changing). IsChanged x y mid next.root (merged (take k ds) (contents x mid)) (merge_weight (take k ds))) (rest_is n cs) changed) counted

pub draft_done : (u w : Arena) (first top draft : CountedRoot) (n : ℕ) (cs : List Changing) (limits : Limits) → length cs ≤ n → IsDraft u w first top draft (take n cs) limits → IsDraft u w first top draft cs limits
draft_done u w first top draft n cs limits le d = subst (λ (done : List Changing). IsDraft u w first top draft done limits) (take_all n cs le) d
