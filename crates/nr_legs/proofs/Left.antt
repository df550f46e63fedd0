-- The lists that no chunk takes, of a chain whose last block has each chunk: those that the last block's chunks sent.
use Rattle.std.proofs.Common.{◌≡◌, ℕ, zero, suc, ◌+◌, ◌-◌, ◌<◌, inl, inr, cond, List, [], ◌∷◌, ◌++◌, map, length}
use Rattle.std.proofs.Common.{Option, Some, None, refl, sym, ap, ◌∙◌, arith}
use Rattle.std.specs.Prelude.{nat_lt, slice_get, unwrap_or}
use Rattle.std.specs.List.{flat_map, range_with_len}
use Rattle.std.specs.Option.{option_map, option_to_list}
use Rattle.std.proofs.lemmas.List.{append-nil, map-append}
use Rattle.std.proofs.lemmas.Option.{slice_get_cases}
use Rattle.nr_chunk.specs.Chain.{Chain, IsChain, rules_of}
use Rattle.nr_chunk.specs.Lawful.{one_each}
use Rattle.nr_chunk.specs.Views.{Kept, Working}
use Rattle.nr_legs.proofs.Ends.{due_last}
use Rattle.nr_legs.specs.Legs.{CanGoOn, last_lists, left_of, sent_from, sent_to}
use Rattle.nr_overlap.proofs.Basics.{is_lt, not_lt}
use Rattle.nr_overlap.proofs.SerialLemmas.{sealing_there}
use Rattle.nr_overlap.specs.Outcome.{left_at, left_by_height, left_by_source, left_list, lists_left}
use Rattle.nr_overlap.specs.Rules.{Rules}
use Rattle.nr_overlap.specs.Serial.{due_after, heights_between, list_to, sealing_at, shard_numbers, work}
use Rattle.nr_records.specs.declared.chunk_result.ChunkResult.{ChunkResult}
use Rattle.nr_records.specs.declared.receipt.Receipt.{Receipt}

-- ---- lists of lists
map_flat : {A B : Type 0} (g : A → B) (f : ℕ → List A) (ns : List ℕ) → map g (flat_map f ns)
    ≡ flat_map (λ s. map g (f s)) ns
map_flat g f [] = refl
map_flat g f (n ∷ ns) = map-append g (f n) (flat_map f ns) ∙ ap (λ t. map g (f n) ++ t) (map_flat g f ns)

flat_same : {A : Type 0} (f g : ℕ → List A) (n a : ℕ) → ((s : ℕ) → s < a + n → f s ≡ g s)
    → flat_map f (range_with_len a n) ≡ flat_map g (range_with_len a n)
flat_same f g zero a all = refl
flat_same f g (suc n) a all = λ i. all a (omega arith) i ++ flat_same f g n (a + 1) (λ s l. all s (omega (arith, l))) i

flat_none : {A : Type 0} (f : ℕ → List A) (n a : ℕ) → ((s : ℕ) → s < a + n → f s ≡ [])
    → flat_map f (range_with_len a n) ≡ []
flat_none f zero a none = refl
flat_none f (suc n) a none = λ i. none a (omega arith) i ++ flat_none f n (a + 1) (λ s l. none s (omega (arith, l))) i

flat_last : {A : Type 0} (f : ℕ → List A) (k a : ℕ) → ((h : ℕ) → h < a + k → f h ≡ [])
    → flat_map f (range_with_len a (suc k)) ≡ f (a + k)
flat_last f zero a none =
    let same : a ≡ a + 0 = omega arith in
    append-nil (f a) ∙ ap f same
flat_last f (suc k) a none =
    let same : (a + 1) + k ≡ a + suc k = omega arith in
    (λ i. none a (omega arith) i ++ flat_map f (range_with_len (a + 1) (suc k)))
    ∙ flat_last f k (a + 1) (λ h l. none h (omega (arith, l)))
    ∙ ap f same

flat_one : {A : Type 0} (g : ℕ → A) (ns : List ℕ) → flat_map (λ s. g s ∷ []) ns ≡ map g ns
flat_one g [] = refl
flat_one g (n ∷ ns) = ap (λ t. g n ∷ t) (flat_one g ns)

within_some : {A : Type 0} (xs : List A) (i : ℕ) → i < length xs → (a : A) × (slice_get xs i ≡ Some a)
within_some xs i l = elim ((slice_get_cases xs i).1) [ inl p ↦ (p.0, p.2) | inr p ↦ absurd (omega (arith, p.0, l)) ]

of_left : (s h d : ℕ) (o : Option (List Receipt))
    → map left_of (option_to_list (option_map
    (λ list. (record { 0 = s }, record { 0 = h }, record { 0 = d }, list)) o)) ≡ option_to_list o
of_left s h d None = refl
of_left s h d (Some list) = refl

module _ (x : Chain) (is : IsChain x) (can : CanGoOn x) where
  abbrev r : Rules Kept Working (List Receipt) ChunkResult
  r = rules_of x

  abbrev hs : ℕ
  hs = r.heights

  abbrev n : ℕ
  n = r.shards

  back : hs - 1 + 1 ≡ hs
  back = omega (arith, can.some)

  left_is : (s h d : ℕ) → d < n → left_list r s h d ≡ cond (nat_lt h hs) None (list_to r (sealing_at r s h) d)
  left_is s h d l = ap (λ t. cond (nat_lt h t) None (list_to r (sealing_at r s h) d)) (due_last x is can d l)

  some_last : (s d : ℕ) → s < n → d < n → (list : List Receipt) × (list_to r (sealing_at r s hs) d ≡ Some list)
  some_last s d sl dl =
      let k : Working = work r s (hs - 1) (length (due_after r s (hs - 1))) in
      let sealed : sealing_at r s hs ≡ Some (r.seals k) = ap (sealing_at r s) (sym back)
      ∙ sealing_there r s (hs - 1) (ap (r.present s) back ∙ can.there s sl) in
      let some = within_some (r.seals k).lists d (omega (arith, dl, one_each x is k)) in
      (some.0, ap (λ o. list_to r o d) sealed ∙ some.1)

  at_none : (s h d : ℕ) → d < n → h < hs → map left_of (left_at r s h d) ≡ []
  at_none s h d l m =
      of_left s h d (left_list r s h d)
      ∙ ap option_to_list (left_is s h d l ∙ ap (λ b. cond b None (list_to r (sealing_at r s h) d)) (is_lt h hs m))

  at_last : (s d : ℕ) → s < n → d < n → map left_of (left_at r s hs d) ≡ sent_to x s d ∷ []
  at_last s d sl dl =
      let some = some_last s d sl dl in
      of_left s hs d (left_list r s hs d)
      ∙ ap option_to_list (left_is s hs d dl
      ∙ ap (λ b. cond b None (list_to r (sealing_at r s hs) d)) (not_lt hs hs (omega arith)) ∙ some.1)
      ∙ ap (λ o. unwrap_or o [] ∷ []) (sym some.1)

  height_none : (s h : ℕ) → h < hs → map left_of (left_by_height r s h) ≡ []
  height_none s h m =
      map_flat left_of (left_at r s h) (shard_numbers r)
      ∙ flat_none (λ d. map left_of (left_at r s h d)) n 0 (λ d l. at_none s h d (omega (arith, l)) m)

  height_last : (s : ℕ) → s < n → map left_of (left_by_height r s hs) ≡ sent_from x s
  height_last s sl =
      map_flat left_of (left_at r s hs) (shard_numbers r)
      ∙ flat_same (λ d. map left_of (left_at r s hs d)) (λ d. sent_to x s d ∷ []) n 0
      (λ d l. at_last s d sl (omega (arith, l)))
      ∙ flat_one (sent_to x s) (shard_numbers r)

  source_last : (s : ℕ) → s < n → map left_of (left_by_source r s) ≡ sent_from x s
  source_last s sl =
      let count : (hs + 1) - 1 ≡ suc (hs - 1) = omega (arith, can.some) in
      let end : 1 + (hs - 1) ≡ hs = omega (arith, can.some) in
      map_flat left_of (left_by_height r s) (heights_between r 1 hs)
      ∙ ap (λ m. flat_map (λ h. map left_of (left_by_height r s h)) (range_with_len 1 m)) count
      ∙ flat_last (λ h. map left_of (left_by_height r s h)) (hs - 1) 1
      (λ h m. height_none s h (omega (arith, m, can.some)))
      ∙ ap (λ h. map left_of (left_by_height r s h)) end
      ∙ height_last s sl

  pub leaves_last : map left_of (lists_left r) ≡ last_lists x
  leaves_last =
      map_flat left_of (left_by_source r) (shard_numbers r)
      ∙ flat_same (λ s. map left_of (left_by_source r s)) (sent_from x) n 0 (λ s l. source_last s (omega (arith, l)))
