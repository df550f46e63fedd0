-- What stands behind a false proof that was accepted.
use Rattle.std.proofs.Common.{◌≡◌, ◌≢◌, ℕ, ◌<◌, List, length, Some, None, Result, Ok, Err, sym, ap, subst, ◌∙◌, arith, inl, inr}
use Rattle.std.specs.Prelude.{IfOk}
use Rattle.std.specs.declared.alloc.AllocError.{AllocError}
use Rattle.std.specs.List.{slice_get}
use Rattle.std.proofs.lemmas.List.{length-map}
use Rattle.nr_ids.specs.declared.key.Hash32.{Hash32}
use Rattle.nr_records.specs.declared.chunk_result.ChunkResult.{ChunkResult}
use Rattle.nr_outproof.specs.declared.explaining.Explained.{Explained}
use Rattle.nr_outproof.specs.declared.explaining.Explained.TheVariants.{Same, Collision}
use Rattle.nr_words.specs.declared.kind.ProofKind.{ProofKind}
use Rattle.nr_outproof.specs.declared.levels.Side.{Side}
use Rattle.nr_outproof.specs.declared.proof.Proof.{Proof}
use Rattle.nr_outproof.specs.Items.{items}
use Rattle.nr_outproof.specs.Meeting.{Meets, MeetsAt}
use Rattle.nr_outproof.specs.Proofs.{Accepts, Collides, Explains, IsOf, SameRoot, root_of}
use Rattle.nr_outproof.specs.Tree.{climb, leaf_text, leaf_top, leaf_tops, path_of, way_of, IsOnWay}
use Rattle.nr_outproof.proofs.Climbing.{path_long, path_leads, path_inside}
use Rattle.nr_outproof.proofs.Differing.{tail_is}
use Rattle.nr_outproof.proofs.Places.{leaf_is, missing}

-- ---- the chunk has an item at the place, and another one
pub item_differs : (r : ChunkResult) (k : ProofKind) (p : Proof) (item : List ℕ) → (IsOf r k p → ⊥) → SameRoot r k p → slice_get (items k r) p.place ≡ Some item → p.item ≢ item
item_differs r k p item wrong same is e =
    wrong (record { of_kind = same.of_kind; height = same.height; shard = same.shard; count = same.count; item = is ∙ ap (λ (i : List ℕ). Some i) (sym e) })

pub within : (r : ChunkResult) (k : ProofKind) (p : Proof) → Accepts (root_of r k) p → SameRoot r k p → p.place < length (leaf_tops (items k r))
within r k p accepted same = omega (arith, accepted.within, same.count, length-map (items k r) leaf_top)

pub item_is_there : (r : ChunkResult) (k : ProofKind) (p : Proof) → Accepts (root_of r k) p → SameRoot r k p → slice_get (items k r) p.place ≡ None → ⊥
item_is_there r k p accepted same none = missing (items k r) p.place (omega (arith, accepted.within, same.count)) none

-- ---- the two paths
tops_long : (r : ChunkResult) (k : ProofKind) (p : Proof) → SameRoot r k p → p.count ≡ length (leaf_tops (items k r))
tops_long r k p same = same.count ∙ sym (length-map (items k r) leaf_top)

own_long : (r : ChunkResult) (k : ProofKind) (p : Proof) → Accepts (root_of r k) p → SameRoot r k p → length (path_of (leaf_tops (items k r)) p.place) ≡ length (way_of p.count p.place)
own_long r k p accepted same = path_long p.count (leaf_tops (items k r)) p.place (tops_long r k p same) accepted.within

own_leads : (r : ChunkResult) (k : ProofKind) (p : Proof) (item : List ℕ) → SameRoot r k p → slice_get (items k r) p.place ≡ Some item
    → climb (way_of p.count p.place) (leaf_top p.item) p.path ≡ climb (way_of p.count p.place) (leaf_top item) (path_of (leaf_tops (items k r)) p.place)
own_leads r k p item same is =
    same.top ∙ sym (path_leads p.count (leaf_tops (items k r)) p.place (leaf_top item) (tops_long r k p same) (leaf_is (items k r) p.place item is))

-- ---- texts that collide
pub leaf_collides : (r : ChunkResult) (k : ProofKind) (p : Proof) (item first second : List ℕ) → (IsOf r k p → ⊥) → SameRoot r k p → slice_get (items k r) p.place ≡ Some item
    → first ≡ leaf_text p.item → second ≡ leaf_text item → leaf_top p.item ≡ leaf_top item → Collides r k p first second
leaf_collides r k p item first second wrong same is one two e =
    let hash : (h : Hash32) → List ℕ = λ h. h.0 in
    record {
      false_proof = wrong;
      different = λ alike. item_differs r k p item wrong same is (tail_is 0 0 p.item item (sym one ∙ alike ∙ two));
      one_hash = rw (one, two) (ap hash e);
      checked = inr (inl one);
      hashed = inr (inl (p.place, item, is, two));
    }

way_collides : (r : ChunkResult) (k : ProofKind) (p : Proof) (item first second : List ℕ) → (IsOf r k p → ⊥) → SameRoot r k p → slice_get (items k r) p.place ≡ Some item
    → MeetsAt (way_of p.count p.place) (leaf_top p.item) p.path (leaf_top item) (path_of (leaf_tops (items k r)) p.place) first second → Collides r k p first second
way_collides r k p item first second wrong same is meets =
    let xs = items k r in
    let n : length xs ≡ length (leaf_tops xs) = sym (length-map xs leaf_top) in
    let on = subst (λ c. IsOnWay (way_of c p.place) (leaf_top item) (path_of (leaf_tops xs) p.place) second) same.count meets.second_way in
    record {
      false_proof = wrong;
      different = meets.different;
      one_hash = meets.one_hash;
      checked = inr (inr meets.first_way);
      hashed = inr (inr (path_inside (length xs) (leaf_tops xs) p.place (leaf_top item) second n (leaf_is xs p.place item is) on));
    }

explained_by_way : (r : ChunkResult) (k : ProofKind) (p : Proof) (item : List ℕ) (explained : Explained) → (IsOf r k p → ⊥) → SameRoot r k p → slice_get (items k r) p.place ≡ Some item
    → Meets (way_of p.count p.place) (leaf_top p.item) p.path (leaf_top item) (path_of (leaf_tops (items k r)) p.place) explained → Explains explained r k p
explained_by_way r k p item Same wrong same is meets = absurd meets
explained_by_way r k p item (Collision first second) wrong same is meets = way_collides r k p item first second wrong same is meets

-- ---- the same of values that are these
pub own_long_at : (r : ChunkResult) (k : ProofKind) (p : Proof) (way : List Side) (tops path : List Hash32) → Accepts (root_of r k) p → SameRoot r k p → way ≡ way_of p.count p.place → tops ≡ leaf_tops (items k r)
    → path ≡ path_of tops p.place → length path ≡ length way
own_long_at r k p way tops path accepted same way_is tops_are path_is = rw (path_is, tops_are, way_is) (own_long r k p accepted same)

pub own_leads_at : (r : ChunkResult) (k : ProofKind) (p : Proof) (item : List ℕ) (way : List Side) (tops path stated : List Hash32) (leaf own : Hash32) → SameRoot r k p → slice_get (items k r) p.place ≡ Some item
    → way ≡ way_of p.count p.place → tops ≡ leaf_tops (items k r) → path ≡ path_of tops p.place → stated ≡ p.path → leaf ≡ leaf_top p.item → own ≡ leaf_top item
    → climb way leaf stated ≡ climb way own path
own_leads_at r k p item way tops path stated leaf own same is way_is tops_are path_is stated_is stated_leaf own_is = rw (path_is, tops_are, way_is, stated_is, stated_leaf, own_is) (own_leads r k p item same is)

pub explained_at : (r : ChunkResult) (k : ProofKind) (p : Proof) (item : List ℕ) (way : List Side) (tops path stated : List Hash32) (leaf own : Hash32) (answer : Result Explained AllocError) → (IsOf r k p → ⊥) → SameRoot r k p → slice_get (items k r) p.place ≡ Some item
    → way ≡ way_of p.count p.place → tops ≡ leaf_tops (items k r) → path ≡ path_of tops p.place → stated ≡ p.path → leaf ≡ leaf_top p.item → own ≡ leaf_top item
    → IfOk answer (Meets way leaf stated own path) → IfOk answer (λ explained. Explains explained r k p)
explained_at r k p item way tops path stated leaf own (Ok explained) wrong same is way_is tops_are path_is stated_is stated_leaf own_is meets =
    explained_by_way r k p item explained wrong same is
    (subst (λ w. Meets w (leaf_top p.item) p.path (leaf_top item) (path_of (leaf_tops (items k r)) p.place) explained) way_is
    (subst (λ t. Meets way t p.path (leaf_top item) (path_of (leaf_tops (items k r)) p.place) explained) stated_leaf
    (subst (λ t. Meets way leaf p.path t (path_of (leaf_tops (items k r)) p.place) explained) own_is
    (subst (λ q. Meets way leaf q own (path_of (leaf_tops (items k r)) p.place) explained) stated_is
    (subst (λ q. Meets way leaf stated own q explained) (path_is ∙ ap (λ ts. path_of ts p.place) tops_are) meets)))))
explained_at r k p item way tops path stated leaf own (Err fault) wrong same is way_is tops_are path_is stated_is stated_leaf own_is meets = tt
