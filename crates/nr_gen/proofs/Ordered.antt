-- The blocks of a generated chain have a chunk for each shard, and their heights count from 1.
use Rattle.std.proofs.Common.{◌≡◌, ℕ, zero, suc, ◌+◌, ◌≤◌, List, [], ◌∷◌, ◌++◌, length, Result, Ok, Err, refl, sym, ap, ◌∙◌, arith}
use Rattle.std.specs.Prelude.{if◌then◌else◌, replicate}
use Rattle.std.proofs.lemmas.Bool.{eq-eqb, le-leb}
use Rattle.std.proofs.lemmas.List.{length-append}
use Rattle.nr_bytes.specs.Reading.{◌>>=◌}
use Rattle.nr_blocks.specs.Judging.{Check, each, each_from, has_chunks, has_height, most_blocks, ordered}
use Rattle.nr_blocks.specs.declared.block.Block.{Block}
use Rattle.nr_blocks.specs.declared.fault.BlocksFault.TheVariants.{HeightOrder, ShardCount, TooMany}
use Rattle.nr_gen.specs.Chain.{State, block_of, chunk_of, generated_blocks}
use Rattle.nr_gen.specs.Turns.{in_turn}

-- ---- one item more
abbrev pub all_right : {F : Type 0} → Result (Unit {0}) F
all_right = Ok tt

rest_passes : {F : Type 0} (here others : Result (Unit {0}) F) → (here >>= λ (u : Unit {0}). others) ≡ all_right → (here ≡ all_right) × (others ≡ all_right)
rest_passes (Ok u) others h = (refl, h)
rest_passes (Err e) others h = absurd cc

pub passes_then : {F : Type 0} (here others : Result (Unit {0}) F) → here ≡ all_right → others ≡ all_right → (here >>= λ (u : Unit {0}). others) ≡ all_right
passes_then (Ok u) others h o = o
passes_then (Err e) others h o = absurd cc

one_passes_more : {X F : Type 0} (check : Check X F) (n k : ℕ) (xs : List X) (x : X) → k ≡ n + length xs → each_from check n xs ≡ all_right → check k x ≡ all_right → each_from check n (xs ++ x ∷ []) ≡ all_right
unfolding each_from
one_passes_more check n k [] x at pass last =
    let same : k ≡ n = omega arith in
    passes_then (check n x) all_right (ap (λ i. check i x) (sym same) ∙ last) refl
one_passes_more check n k (y ∷ ys) x at pass last =
    let two = rest_passes (check n y) (each_from check (n + 1) ys) pass in
    passes_then (check n y) (each_from check (n + 1) (ys ++ x ∷ [])) two.0 (one_passes_more check (n + 1) k ys x (omega arith) two.1 last)

pub length_turns : {S X : Type 0} (n : ℕ) (f : ℕ → S → X × S) (s : S) → length (in_turn n f s).0 ≡ n
unfolding in_turn
length_turns zero f s = refl
length_turns (suc n) f s =
    let before = in_turn n f s in
    omega (arith, length-append before.0 ((f n before.1).0 ∷ []), length_turns n f s)

-- ---- the blocks
abbrev blocks_in : ℕ → ℕ → State → List Block
blocks_in shards n s = (in_turn n (block_of shards) s).0

chunks_pass : (shards n : ℕ) (s : State) → each (has_chunks shards) (blocks_in shards n s) ≡ all_right
unfolding in_turn each_from block_of
chunks_pass shards zero s = refl
chunks_pass shards (suc n) s =
    let before = in_turn n (block_of shards) s in
    let whole = length_turns shards (chunk_of shards) before.1 in
    one_passes_more (has_chunks shards) 0 n before.0 (block_of shards n before.1).0 (omega (arith, length_turns n (block_of shards) s)) (chunks_pass shards n s)
    (ap (λ b. if b then all_right else Err (ShardCount (n + 1))) (eq-eqb _ _ whole))

heights_pass : (shards n : ℕ) (s : State) → each has_height (blocks_in shards n s) ≡ all_right
unfolding in_turn each_from block_of
heights_pass shards zero s = refl
heights_pass shards (suc n) s =
    let before = in_turn n (block_of shards) s in
    one_passes_more has_height 0 n before.0 (block_of shards n before.1).0 (omega (arith, length_turns n (block_of shards) s)) (heights_pass shards n s)
    (ap (λ b. if b then all_right else Err (HeightOrder (n + 1))) (eq-eqb (n + 1) (n + 1) refl))

pub blocks_ordered : (start shards n : ℕ) → n ≤ 256 → ordered shards (generated_blocks start shards n) ≡ all_right
unfolding ordered generated_blocks
blocks_ordered start shards n few =
    let s : State = (start, replicate shards 0) in
    let bs = blocks_in shards n s in
    let short : length bs ≤ most_blocks = omega (arith, length_turns n (block_of shards) s) in
    passes_then (each (has_chunks shards) bs) _ (chunks_pass shards n s)
    (passes_then (each has_height bs) _ (heights_pass shards n s) (ap (λ b. if b then all_right else Err TooMany) (le-leb _ _ short)))
