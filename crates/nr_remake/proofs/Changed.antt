-- The root of what is kept with new entries is that of the changed map.
use Rattle.std.proofs.Common.{◌≡◌, ℕ, List, [], ◌∷◌, Option, Result, Ok, Err, refl, ap, subst, ◌∙◌}
use Rattle.std.specs.Prelude.{IfOk}
use Rattle.std.specs.List.{AllByRecursion}
use Rattle.std.specs.FinMap.{entries}
use Rattle.std.specs.declared.alloc.AllocError.{AllocError}
use Rattle.nr_bytes.specs.Numbers.{IsBytes}
use Rattle.nr_ids.specs.declared.key.Hash32.{Hash32}
use Rattle.nr_triedef.specs.Node.{IsNibbles}
use Rattle.nr_triedef.specs.Root.{Contents, Paths, paths, root_of, summary_of}
use Rattle.nr_triedef.specs.declared.hash.Summary.{Summary}
use Rattle.nr_triedef.proofs.Parts.{nibbles_small}
use Rattle.nr_store.specs.Tries.{CanWalk, whole}
use Rattle.nr_store.proofs.Levels.{root_is}
use Rattle.nr_store.proofs.Listed.{walk_whole}
use Rattle.nr_columns.specs.declared.entry.Entry.{Entry}
use Rattle.nr_walk.specs.declared.searched.Searched.{Searched}
use Rattle.nr_walk.specs.declared.walking.Kept.{Kept}
use Rattle.nr_remake.specs.Marks.{Spreads}
use Rattle.nr_remake.specs.Merging.{IsKept, IsChanged, marks_of, marked, merge, pairs_of, remade, searched_in}
use Rattle.nr_remake.proofs.MarkedLevels.{marked_is}
use Rattle.nr_remake.proofs.MergedMarks.{kept_merged}

all_nibbles : (es : List (List ℕ × List ℕ)) → AllByRecursion (λ (e : List ℕ × List ℕ). IsBytes e.0) es → AllByRecursion (λ (p : List ℕ × List ℕ). IsNibbles p.0) (paths es)
all_nibbles [] h = tt
all_nibbles (e ∷ es) h = (nibbles_small e.0 h.0, all_nibbles es h.1)

pub one_root : (ks : List Kept) (es : List Entry) (searched : List Searched) (m new : Contents) → IsKept searched (paths (entries m)) ks → IsChanged searched m new es
    → remade ks es ≡ (root_of new).hash
one_root ks es searched m new h c =
    let ps = paths (entries new) in
    let order : CanWalk ps = walk_whole new ps refl (all_nibbles (entries new) c.bytes) in
    let spread : Spreads ps (merge (marks_of ks) (marked (searched_in searched ps))) ps = kept_merged searched ks (paths (entries m)) ps h order c.others in
    let spread_new : Spreads ps (merge (marks_of ks) (marked (paths (pairs_of es)))) ps = subst (λ (qs : Paths). Spreads ps (merge (marks_of ks) (marked qs)) ps) c.searched_are spread in
    ap (λ (o : Option Summary). (summary_of o).hash) (marked_is (merge (marks_of ks) (marked (paths (pairs_of es)))) ps order spread_new)
    ∙ ap (λ (s : Summary). s.hash) (root_is new ps (whole ps) refl refl)

pub changed_root : (ks : List Kept) (es given : List Entry) (r : Result Hash32 AllocError) → given ≡ es → IfOk r (λ hash. hash ≡ remade ks given)
    → IfOk r (λ hash. (searched : List Searched) (m n : Contents) → IsKept searched (paths (entries m)) ks → IsChanged searched m n es → hash ≡ (root_of n).hash)
changed_root ks es given (Ok hash) e h = λ searched m new k c. h ∙ ap (remade ks) e ∙ one_root ks es searched m new k c
changed_root ks es given (Err f) e h = tt
