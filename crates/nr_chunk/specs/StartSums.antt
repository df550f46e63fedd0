-- The first worlds with what they carry have together the tokens of their start; and a genesis is a start.
use Rattle.std.proofs.Common.{◌≡◌, ℕ, zero, suc, ◌+◌, ◌<◌, List, [], ◌∷◌, length, map, refl, sym, ap, ◌∙◌, arith}
use Rattle.std.specs.Prelude.{replicate, slice_index_or, sum_by}
use Rattle.std.specs.List.{AllByRecursion, range_with_len}
use Rattle.std.proofs.lemmas.List.{length-replicate}
use Rattle.std.proofs.lemmas.List.FromFn.{length-map-range_with_len}
use Rattle.std.proofs.lemmas.List.Sums.{sum_by-cons}
use Rattle.nr_overlap.proofs.Sums.{sum_front}
use Rattle.nr_blocks.proofs.ValidFirst.{first_valid}
use Rattle.nr_blocks.specs.Genesis.{AreSoundEntries, IsSoundGenesis, entries_of, genesis_world, supply}
use Rattle.nr_blocks.specs.declared.genesis.Genesis.{Genesis}
use Rattle.nr_chunk.specs.GenesisSums.{first_tokens, genesis_small}
use Rattle.nr_chunk.specs.Goodness.{AreGood, IsSmall}
use Rattle.nr_chunk.specs.Start.{IsStart, Start, genesis_start, shards_in, start_list, start_tokens, start_world}
use Rattle.nr_config.specs.Config.{Config}
use Rattle.nr_overlap.specs.Balance.{sum_below}
use Rattle.nr_state.specs.Tokens.{list_tokens, world_tokens}
use Rattle.nr_state.specs.Valid.{IsValidWorld}
use Rattle.nr_state.specs.World.{World, no_world}

-- ---- sums by number, and sums of a list
pub sum_of : {A : Type 0} (f : A → ℕ) (xs : List A) (d : A) (n : ℕ) → length xs ≡ n
    → sum_below n (λ s. f (slice_index_or xs s d)) ≡ sum_by f xs
sum_of f [] d zero e = refl
sum_of f [] d (suc n) e = absurd (omega (arith, e))
sum_of f (x ∷ xs) d zero e = absurd (omega (arith, e))
sum_of f (x ∷ xs) d (suc n) e =
    sum_front n (λ s. f (slice_index_or (x ∷ xs) s d)) ∙ ap (λ t. f x + t) (sum_of f xs d n (omega (arith, e)))
    ∙ sym (sum_by-cons f x xs)

pub sum_both : (n : ℕ) (f g : ℕ → ℕ) → sum_below n (λ s. f s + g s) ≡ sum_below n f + sum_below n g
sum_both zero f g = refl
sum_both (suc n) f g = omega (arith, sum_both n f g)

-- ---- what holds of each
pub each_at : {A : Type 0} (P : A → Type 0) (xs : List A) (n : ℕ) (d : A) → AllByRecursion P xs → n < length xs
    → P (slice_index_or xs n d)
each_at P [] n d all l = absurd (omega (arith, l))
each_at P (x ∷ xs) zero d all l = all.0
each_at P (x ∷ xs) (suc n) d all l = each_at P xs n d all.1 (omega (arith, l))

-- ---- a start
module _ (c : Config) (s : Start) (is : IsStart c s) where
  abbrev world_part : ℕ → ℕ
  world_part shard = world_tokens c (start_world s shard)

  abbrev list_part : ℕ → ℕ
  list_part shard = list_tokens c (start_list s shard)

  pub start_sum : sum_below (shards_in s) (λ shard. world_part shard + list_part shard) ≡ start_tokens c s
  start_sum =
      sum_both (shards_in s) world_part list_part
      ∙ (λ i. sum_of (world_tokens c) s.worlds no_world (shards_in s) is.worlds i
      + sum_of (list_tokens c) s.carried [] (shards_in s) is.lists i)

  pub start_valid : (shard : ℕ) → shard < shards_in s → IsValidWorld c (start_world s shard)
  start_valid shard l = each_at (IsValidWorld c) s.worlds shard no_world is.valid (omega (arith, l, is.worlds))

  pub start_small : (shard : ℕ) → shard < shards_in s → IsSmall (start_world s shard)
  start_small shard l = each_at IsSmall s.worlds shard no_world is.small (omega (arith, l, is.worlds))

  pub start_good : (shard : ℕ) → shard < shards_in s → AreGood c (start_list s shard)
  start_good shard l = each_at (AreGood c) s.carried shard [] is.good (omega (arith, l, is.lists))

-- ---- a genesis is one
each_mapped : {B : Type 0} (P : B → Type 0) (g : ℕ → B) → ((n : ℕ) → P (g n)) → (ns : List ℕ)
    → AllByRecursion P (map g ns)
each_mapped P g all [] = tt
each_mapped P g all (n ∷ ns) = (all n, each_mapped P g all ns)

each_empty : (c : Config) (n : ℕ) → AllByRecursion (AreGood c) (replicate n [])
each_empty c zero = tt
each_empty c (suc n) = (tt, each_empty c n)

none_carried : (c : Config) (n : ℕ) → sum_by (list_tokens c) (replicate n []) ≡ 0
none_carried c zero = refl
none_carried c (suc n) = sum_by-cons (list_tokens c) [] (replicate n []) ∙ ap (λ t. 0 + t) (none_carried c n)

sum_map : (f : World → ℕ) (g : ℕ → World) (n a : ℕ)
    → sum_by f (map g (range_with_len a n)) ≡ sum_below n (λ s. f (g (a + s)))
sum_map f g zero a = refl
sum_map f g (suc n) a =
    let first : a + 0 ≡ a = omega arith in
    let later : (s : ℕ) → (a + 1) + s ≡ a + suc s = λ s. omega arith in
    sum_by-cons f (g a) (map g (range_with_len (a + 1) n))
    ∙ ap (λ t. f (g a) + t) (sum_map f g n (a + 1) ∙ (λ i. sum_below n (λ s. f (g (later s i)))))
    ∙ (λ i. f (g (sym first i)) + sum_below n (λ s. f (g (a + suc s))))
    ∙ sym (sum_front n (λ s. f (g (a + s))))

pub genesis_tokens : (c : Config) (g : Genesis) → AreSoundEntries c g.entries
    → start_tokens c (genesis_start g) ≡ supply g.entries
genesis_tokens c g sound =
    let n : ℕ = length g.layout + 1 in
    let zero_on : (s : ℕ) → 0 + s ≡ s = λ s. omega arith in
    let worlds : sum_by (world_tokens c)
    (map (λ s. genesis_world (entries_of g.layout s g.entries)) (range_with_len 0 n)) ≡ supply g.entries =
    sum_map (world_tokens c) (λ s. genesis_world (entries_of g.layout s g.entries)) n 0
    ∙ (λ i. sum_below n (λ s. world_tokens c (genesis_world (entries_of g.layout (zero_on s i) g.entries))))
    ∙ first_tokens g.layout c g.entries sound in
    omega (arith, worlds, none_carried c n)

pub supply_is : (c : Config) (g : Genesis) → IsSoundGenesis c g → g.supply ≡ start_tokens c (genesis_start g)
supply_is c g sound = sound.tokens ∙ sym (genesis_tokens c g sound.entries)

pub genesis_is : (c : Config) (g : Genesis) → AreSoundEntries c g.entries → IsStart c (genesis_start g)
genesis_is c g sound = record {
  worlds = length-map-range_with_len (λ s. genesis_world (entries_of g.layout s g.entries)) 0 (length g.layout + 1);
  lists = length-replicate (length g.layout + 1) [];
  valid = each_mapped (IsValidWorld c) (λ s. genesis_world (entries_of g.layout s g.entries))
      (λ s. first_valid c g.entries sound g.layout s) (range_with_len 0 (length g.layout + 1));
  small = each_mapped IsSmall (λ s. genesis_world (entries_of g.layout s g.entries))
      (λ s. genesis_small (entries_of g.layout s g.entries)) (range_with_len 0 (length g.layout + 1));
  good = each_empty c (length g.layout + 1);
  few = omega (arith, genesis_tokens c g sound, sound.bounded);
}
