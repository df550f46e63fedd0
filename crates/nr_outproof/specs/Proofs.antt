-- The root of a chunk's items, what a proof states, and when it is accepted. This project's own.
use Rattle.std.specs.Prelude.{◌≡◌, ◌≢◌, ℕ, ◌<◌, ◌^◌, nat_lt, ◌==◌, ◌&&◌, Bool, List, ◌∷◌, ◌++◌, length, Option, Some}
use Rattle.std.specs.Prelude.{option_map, ◌⊎◌}
use Rattle.std.specs.List.{slice_get}
use Rattle.std.specs.Str.{bytes_eq}
use Rattle.sha2.specs.Sha256.{sha256}
use Rattle.nr_bytes.specs.Numbers.{little}
use Rattle.nr_ids.specs.declared.key.Hash32.{Hash32}
use Rattle.nr_records.specs.declared.chunk_result.ChunkResult.{ChunkResult}
use Rattle.nr_outproof.specs.declared.explaining.Explained.{Explained}
use Rattle.nr_outproof.specs.declared.explaining.Explained.TheVariants.{Same, Collision}
use Rattle.nr_words.specs.declared.kind.ProofKind.{ProofKind}
use Rattle.nr_words.specs.declared.kind.ProofKind.TheVariants.{Outcome, Receipt}
use Rattle.nr_outproof.specs.declared.proof.Proof.{Proof}
use Rattle.nr_outproof.specs.Items.{items}
use Rattle.nr_outproof.specs.Tree.{digest, leaf_text, leaf_top, leaf_tops, top_of, way_of, path_of, climb, IsOnWay}
use Rattle.nr_outproof.specs.Tree.{IsInside}

-- ---- roots
abbrev pub kind_byte : ProofKind → ℕ
kind_byte Outcome = 0
kind_byte Receipt = 1

-- the text that is hashed for a root: of a kind, a height, a shard, a count of items and their top
abbrev pub root_text : ProofKind → ℕ → ℕ → ℕ → Hash32 → List ℕ
root_text kind height shard count top =
    2 ∷ (kind_byte kind ∷ (little 8 height ++ (little 4 shard ++ (little 8 count ++ top.0))))

abbrev pub chunk_text : ChunkResult → ProofKind → List ℕ
chunk_text result kind =
    root_text kind result.height.0 result.shard.0 (length (items kind result))
    (top_of (leaf_tops (items kind result)))

-- the root of a chunk's items of a kind
abbrev pub root_of : ChunkResult → ProofKind → Hash32
root_of result kind = digest (chunk_text result kind)

-- its numbers fit their fields
abbrev pub FitsRoot : ℕ → ℕ → ℕ → Type 0
FitsRoot height shard count = (height < 256 ^ 8) × ((shard < 256 ^ 4) × (count < 256 ^ 8))

-- ---- proofs
-- the proof of a chunk's item, where there is one at the place
abbrev pub proof_of : ChunkResult → ProofKind → ℕ → Option Proof
proof_of result kind place =
    option_map (λ item. record {
      kind = kind;
      height = result.height;
      shard = result.shard;
      place = place;
      count = length (items kind result);
      item = item;
      path = path_of (leaf_tops (items kind result)) place;
    })
    (slice_get (items kind result) place)

-- the top that a proof leads to, and the text of the root with it
abbrev pub stated_top : Proof → Hash32
stated_top proof = climb (way_of proof.count proof.place) (leaf_top proof.item) proof.path

abbrev pub stated_text : Proof → List ℕ
stated_text proof = root_text proof.kind proof.height.0 proof.shard.0 proof.count (stated_top proof)

-- Its place is below its count, its path is as long as the way, and hashing up that way gives the root.
pub record Accepts (root : Hash32) (proof : Proof) : Type 0 where
  pub within : proof.place < proof.count
  pub long : length proof.path ≡ length (way_of proof.count proof.place)
  pub leads : digest (stated_text proof) ≡ root

-- the same as a test
unfoldable pub accepts : Hash32 → Proof → Bool
accepts root proof =
    nat_lt proof.place proof.count && ((length proof.path == length (way_of proof.count proof.place))
    && bytes_eq (digest (stated_text proof)).0 root.0)

-- What a proof states is so: of this chunk and kind, it has that item at that place.
pub record IsOf (result : ChunkResult) (kind : ProofKind) (proof : Proof) : Type 0 where
  pub of_kind : proof.kind ≡ kind
  pub height : proof.height ≡ result.height
  pub shard : proof.shard ≡ result.shard
  pub count : proof.count ≡ length (items kind result)
  pub item : slice_get (items kind result) proof.place ≡ Some proof.item

-- It states the chunk's root: all but the item and the path.
pub record SameRoot (result : ChunkResult) (kind : ProofKind) (proof : Proof) : Type 0 where
  pub of_kind : proof.kind ≡ kind
  pub height : proof.height ≡ result.height
  pub shard : proof.shard ≡ result.shard
  pub count : proof.count ≡ length (items kind result)
  pub top : stated_top proof ≡ top_of (leaf_tops (items kind result))

-- ---- which texts are hashed
-- in the check of a proof
abbrev pub IsChecked : Proof → List ℕ → Type 0
IsChecked proof text =
    (text ≡ stated_text proof) ⊎ ((text ≡ leaf_text proof.item)
    ⊎ IsOnWay (way_of proof.count proof.place) (leaf_top proof.item) proof.path text)

-- in the making of a chunk's root
abbrev pub IsLeaf : List (List ℕ) → List ℕ → Type 0
IsLeaf xs text = (place : ℕ) × (item : List ℕ) × (slice_get xs place ≡ Some item) × (text ≡ leaf_text item)

abbrev pub IsHashed : ChunkResult → ProofKind → List ℕ → Type 0
IsHashed result kind text =
    (text ≡ chunk_text result kind) ⊎ (IsLeaf (items kind result) text
    ⊎ IsInside (length (items kind result)) (leaf_tops (items kind result)) text)

-- What is said of a proof that was accepted against a chunk's root: it is so, or two different texts have one hash, of
-- which the first is hashed in the check and the second in the chunk's tree.
pub record Collides (result : ChunkResult) (kind : ProofKind) (proof : Proof) (first second : List ℕ) : Type 0 where
  pub false_proof : IsOf result kind proof → ⊥
  pub different : first ≢ second
  pub one_hash : sha256 first ≡ sha256 second
  pub checked : IsChecked proof first
  pub hashed : IsHashed result kind second

abbrev pub Explains : Explained → ChunkResult → ProofKind → Proof → Type 0
Explains Same result kind proof = IsOf result kind proof
Explains (Collision first second) result kind proof = Collides result kind proof first second
