-- Texts that differ: of pairs whose tops differ, and of roots that state something else.
use Rattle.std.proofs.Common.{◌≡◌, ◌≢◌, ℕ, ◌^◌, ◌<◌, List, ◌∷◌, ◌++◌, length, take, drop, refl, sym, ap, ◌∙◌, arith}
use Rattle.std.proofs.lemmas.List.{take_at, drop_at, length-append}
use Rattle.nr_bytes.specs.Numbers.{little, number}
use Rattle.nr_bytes.proofs.Numbers.{length-little, number-little}
use Rattle.nr_ids.specs.declared.key.Hash32.{Hash32}
use Rattle.nr_words.specs.declared.kind.ProofKind.{ProofKind}
use Rattle.nr_words.specs.declared.kind.ProofKind.TheVariants.{Outcome, Receipt}
use Rattle.nr_outproof.specs.declared.levels.Side.{Side}
use Rattle.nr_outproof.specs.declared.levels.Side.TheVariants.{Left, Right}
use Rattle.nr_ids.specs.declared.number.Height.{Height}
use Rattle.nr_ids.specs.declared.number.ShardId.{ShardId}
use Rattle.nr_records.specs.declared.chunk_result.ChunkResult.{ChunkResult}
use Rattle.nr_outproof.specs.declared.proof.Proof.{Proof}
use Rattle.nr_outproof.specs.Items.{items}
use Rattle.nr_outproof.specs.Tree.{joined_text, leaf_tops, top_of}
use Rattle.nr_outproof.specs.Proofs.{FitsRoot, SameRoot, chunk_text, kind_byte, stated_text, stated_top}

-- ---- parts of equal lists
pub front_is : (a b x y : List ℕ) → length a ≡ length b → a ++ x ≡ b ++ y → a ≡ b
front_is a b x y len e = sym (take_at a x (length a) refl) ∙ ap (take (length a)) e ∙ take_at b y (length a) (sym len)

pub rest_is : (a b x y : List ℕ) → length a ≡ length b → a ++ x ≡ b ++ y → x ≡ y
rest_is a b x y len e = sym (drop_at a x (length a) refl) ∙ ap (drop (length a)) e ∙ drop_at b y (length a) (sym len)

head_is : (a b : ℕ) (xs ys : List ℕ) → a ∷ xs ≡ b ∷ ys → a ≡ b
head_is a b xs ys e = cc

pub tail_is : (a b : ℕ) (xs ys : List ℕ) → a ∷ xs ≡ b ∷ ys → xs ≡ ys
tail_is a b xs ys e = cc

same_long : (k m n : ℕ) → length (little k m) ≡ length (little k n)
same_long k m n = length-little k m ∙ sym (length-little k n)

pub little_is : (k m n : ℕ) → m < 256 ^ k → n < 256 ^ k → little k m ≡ little k n → m ≡ n
little_is k m n low high e = sym (number-little k m low) ∙ ap number e ∙ number-little k n high

pub hash_is : (a b : Hash32) → a.0 ≡ b.0 → a ≡ b
hash_is a b e = let made : List ℕ → Hash32 = λ l. record { 0 = l } in ap made e

-- ---- pairs
beside_long : (a b x y : List ℕ) → length a ≡ length b → x ++ a ≡ y ++ b → length x ≡ length y
beside_long a b x y len e = omega (arith, len, ap length e, length-append x a, length-append y b)

pub joined_differ : (side : Side) (a b x y : Hash32) → length a.0 ≡ length b.0 → a ≢ b → joined_text side a x ≢ joined_text side b y
joined_differ Left a b x y len differ e = differ (hash_is a b (front_is a.0 b.0 x.0 y.0 len (tail_is 1 1 _ _ e)))
joined_differ Right a b x y len differ e =
    let tail = tail_is 1 1 (x.0 ++ a.0) (y.0 ++ b.0) e in
    differ (hash_is a b (rest_is x.0 y.0 a.0 b.0 (beside_long a.0 b.0 x.0 y.0 len tail) tail))

-- ---- roots
kind_is : (k l : ProofKind) → kind_byte k ≡ kind_byte l → k ≡ l
kind_is Outcome Outcome e = refl
kind_is Outcome Receipt e = absurd cc
kind_is Receipt Outcome e = absurd cc
kind_is Receipt Receipt e = refl

height_is : (a b : Height) → a.0 ≡ b.0 → a ≡ b
height_is a b e = let made : ℕ → Height = λ n. record { 0 = n } in ap made e

shard_is : (a b : ShardId) → a.0 ≡ b.0 → a ≡ b
shard_is a b e = let made : ℕ → ShardId = λ n. record { 0 = n } in ap made e

pub root_is : (r : ChunkResult) (k : ProofKind) (p : Proof) → FitsRoot r.height.0 r.shard.0 (length (items k r)) → FitsRoot p.height.0 p.shard.0 p.count → stated_text p ≡ chunk_text r k → SameRoot r k p
root_is r k p own stated e =
    let n = length (items k r) in
    let one = tail_is 2 2 _ _ e in
    let two = tail_is (kind_byte p.kind) (kind_byte k) _ _ one in
    let three = rest_is (little 8 p.height.0) (little 8 r.height.0) _ _ (same_long 8 p.height.0 r.height.0) two in
    let four = rest_is (little 4 p.shard.0) (little 4 r.shard.0) _ _ (same_long 4 p.shard.0 r.shard.0) three in
    record {
      of_kind = kind_is p.kind k (head_is (kind_byte p.kind) (kind_byte k) _ _ one);
      height = height_is p.height r.height (little_is 8 p.height.0 r.height.0 stated.0 own.0 (front_is (little 8 p.height.0) (little 8 r.height.0) _ _ (same_long 8 p.height.0 r.height.0) two));
      shard = shard_is p.shard r.shard (little_is 4 p.shard.0 r.shard.0 stated.1.0 own.1.0 (front_is (little 4 p.shard.0) (little 4 r.shard.0) _ _ (same_long 4 p.shard.0 r.shard.0) three));
      count = little_is 8 p.count n stated.1.1 own.1.1 (front_is (little 8 p.count) (little 8 n) _ _ (same_long 8 p.count n) four);
      top = hash_is (stated_top p) (top_of (leaf_tops (items k r))) (rest_is (little 8 p.count) (little 8 n) _ _ (same_long 8 p.count n) four);
    }
