-- What holds of the proof of a chunk's item.
use Rattle.std.proofs.Common.{◌≡◌, ℕ, ◌<◌, List, length, Option, Some, None, Result, Ok, Err, refl, sym, ap, subst}
use Rattle.std.specs.declared.alloc.AllocError.{AllocError}
use Rattle.std.specs.Prelude.{IfOk, IfSome, IsSome, ◌↔◌, option_map}
use Rattle.std.specs.List.{slice_get}
use Rattle.std.proofs.lemmas.List.{length-map}
use Rattle.std.proofs.lemmas.Option.{slice_get_within}
use Rattle.nr_records.specs.declared.chunk_result.ChunkResult.{ChunkResult}
use Rattle.nr_words.specs.declared.kind.ProofKind.{ProofKind}
use Rattle.nr_outproof.specs.declared.proof.Proof.{Proof}
use Rattle.nr_outproof.specs.Items.{items}
use Rattle.nr_outproof.specs.Tree.{leaf_top, leaf_tops, path_of, digest}
use Rattle.nr_outproof.specs.Proofs.{Accepts, IsOf, proof_of, root_of, root_text}
use Rattle.nr_outproof.proofs.Climbing.{path_long, path_leads}
use Rattle.nr_outproof.proofs.Places.{leaf_is, missing}

abbrev proof_with : ChunkResult → ProofKind → ℕ → List ℕ → Proof
proof_with r k p item = record { kind = k; height = r.height; shard = r.shard; place = p; count = length (items k r); item = item; path = path_of (leaf_tops (items k r)) p }

accepted_with : (r : ChunkResult) (k : ProofKind) (p : ℕ) (item : List ℕ) → slice_get (items k r) p ≡ Some item → Accepts (root_of r k) (proof_with r k p item)
accepted_with r k p item e =
    let xs = items k r in
    let n : length xs ≡ length (leaf_tops xs) = sym (length-map xs leaf_top) in
    record {
      within = slice_get_within xs p item e;
      long = path_long (length xs) (leaf_tops xs) p n (slice_get_within xs p item e);
      leads = ap (λ t. digest (root_text k r.height.0 r.shard.0 (length xs) t)) (path_leads (length xs) (leaf_tops xs) p (leaf_top item) n (leaf_is xs p item e));
    }

of_with : (r : ChunkResult) (k : ProofKind) (p : ℕ) (item : List ℕ) → slice_get (items k r) p ≡ Some item → IsOf r k (proof_with r k p item)
of_with r k p item e = record { of_kind = refl; height = refl; shard = refl; count = refl; item = e }

proof_accepted : (r : ChunkResult) (k : ProofKind) (p : ℕ) → IfSome (proof_of r k p) (Accepts (root_of r k))
proof_accepted r k p =
    elim (slice_get (items k r) p) as (λ o. slice_get (items k r) p ≡ o → IfSome (option_map (proof_with r k p) o) (Accepts (root_of r k))) [
      | None ↦ λ e. tt
      | Some item ↦ λ e. accepted_with r k p item e
    ] refl

proof_so : (r : ChunkResult) (k : ProofKind) (p : ℕ) → IfSome (proof_of r k p) (IsOf r k)
proof_so r k p =
    elim (slice_get (items k r) p) as (λ o. slice_get (items k r) p ≡ o → IfSome (option_map (proof_with r k p) o) (IsOf r k)) [
      | None ↦ λ e. tt
      | Some item ↦ λ e. of_with r k p item e
    ] refl

proof_there : (r : ChunkResult) (k : ProofKind) (p : ℕ) → IsSome (proof_of r k p) ↔ (p < length (items k r))
proof_there r k p =
    elim (slice_get (items k r) p) as (λ o. slice_get (items k r) p ≡ o → IsSome (option_map (proof_with r k p) o) ↔ (p < length (items k r))) [
      | None ↦ λ e. (λ some. absurd (cc), λ lt. absurd (missing (items k r) p lt e))
      | Some item ↦ λ e. (λ some. slice_get_within (items k r) p item e, λ lt. refl)
    ] refl

-- ---- of an answer
pub answer_there : (answer : Result (Option Proof) AllocError) (r : ChunkResult) (k : ProofKind) (p : ℕ) → IfOk answer (λ proof. proof ≡ proof_of r k p) → IfOk answer (λ proof. IsSome proof ↔ (p < length (items k r)))
answer_there (Ok proof) r k p e = subst (λ (o : Option Proof). IsSome o ↔ (p < length (items k r))) (sym e) (proof_there r k p)
answer_there (Err fault) r k p e = tt

pub answer_so : (answer : Result (Option Proof) AllocError) (r : ChunkResult) (k : ProofKind) (p : ℕ) → IfOk answer (λ proof. proof ≡ proof_of r k p) → IfOk answer (λ proof. IfSome proof (IsOf r k))
answer_so (Ok proof) r k p e = subst (λ (o : Option Proof). IfSome o (IsOf r k)) (sym e) (proof_so r k p)
answer_so (Err fault) r k p e = tt

pub answer_accepted : (answer : Result (Option Proof) AllocError) (r : ChunkResult) (k : ProofKind) (p : ℕ) → IfOk answer (λ proof. proof ≡ proof_of r k p) → IfOk answer (λ proof. IfSome proof (Accepts (root_of r k)))
answer_accepted (Ok proof) r k p e = subst (λ (o : Option Proof). IfSome o (Accepts (root_of r k))) (sym e) (proof_accepted r k p)
answer_accepted (Err fault) r k p e = tt
