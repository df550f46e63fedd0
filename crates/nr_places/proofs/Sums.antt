-- The sums of any amount with heights from 1; and tokens, as the tallies of a moment have them, add up.
use Rattle.std.proofs.Common.{◌≡◌, ℕ, ◌+◌, Bool, true, false, cond, List, Option, Some, None, refl, sym, ap, ◌∙◌, arith}
use Rattle.std.specs.Prelude.{nat_le}
use Rattle.std.specs.Option.{option_map}
use Rattle.nr_chunk.specs.Amounts.{tokens}
use Rattle.nr_chunk.specs.Chain.{Chain, IsChain, rules_of}
use Rattle.nr_chunk.specs.Start.{start_tokens}
use Rattle.nr_chunk.specs.StartSums.{start_sum}
use Rattle.nr_chunk.specs.Views.{Kept, Working}
use Rattle.nr_chunk.specs.declared.tally.Tally.{Tally}
use Rattle.nr_overlap.specs.Balance.{AddsUp, Amount, held_in_all, held_by as holding, if_some, made_by, made_in_all, making, sealed_by as sealing, sum_below}
use Rattle.nr_overlap.specs.Moment.{took, shown, world_in, working_in, working_at, report_at, flight_at}
use Rattle.nr_overlap.specs.Positions.{at, top}
use Rattle.nr_overlap.specs.Rules.{Rules, Sealing}
use Rattle.nr_overlap.specs.Serial.{list_to, work, world_after}
use Rattle.nr_overlap.specs.declared.position.Position.{Position}
use Rattle.nr_overlap.specs.declared.position.Stage.{Stage}
use Rattle.nr_overlap.specs.declared.position.Stage.TheVariants.{Idle, Opened, Sealed}
use Rattle.nr_overlap.proofs.SerialLemmas.{sealing_first}
use Rattle.nr_overlap.proofs.Sums.{sum_none, sum_same}
use Rattle.nr_places.proofs.Adding.{IsAdditive, additive_at}
use Rattle.nr_places.proofs.Counting.{sum_add, sum_from_one}
use Rattle.nr_places.specs.Totals.{shard_tally, report_tally, list_tally, tally_at}
use Rattle.nr_records.specs.declared.chunk_result.ChunkResult.{ChunkResult}
use Rattle.nr_records.specs.declared.receipt.Receipt.{Receipt}
use Rattle.nr_state.specs.Tokens.{list_tokens, waiting_tokens}
use Rattle.nr_state.specs.World.{accounts_tokens}

both_none : (a b : ℕ) → a ≡ 0 → b ≡ 0 → a + b ≡ 0
both_none a b e f = omega (arith, e, f)

-- ---- the sums of any amount
module _ {W K L R : Type 0} (r : Rules W K L R) (m : Amount W K L R) (ps : List Position) where
  -- at height 0 nothing is sealed
  none_shown : (s : ℕ) → shown r s (at ps s) 0 ≡ None
  none_shown s = ap (λ o. cond (nat_le 0 (top (at ps s))) o None) (sealing_first r s) ∙ by (nat_le 0 (top (at ps s)))
    where
      by : (b : Bool) → ◌≡◌ {A = Option (Sealing W L R)} (cond b None None) None
      by true = refl
      by false = refl

  none_reported : (s : ℕ) → report_at r ps s 0 ≡ None
  none_reported s = ap (option_map (λ z. z.report)) (none_shown s)

  none_flies : (s d : ℕ) → flight_at r ps s 0 d ≡ None
  none_flies s d = ap (λ o. cond (took r d (at ps d) 0 s) None (list_to r o d)) (none_shown s) ∙ by (took r d (at ps d) 0 s)
    where
      by : (b : Bool) → ◌≡◌ {A = Option L} (cond b None None) None
      by true = refl
      by false = refl

  none_sealed : (s : ℕ) → sealing r m ps s 0 ≡ 0
  none_sealed s =
      both_none (if_some (m.report s 0) (report_at r ps s 0)) (sum_below r.shards (λ d. if_some m.list (flight_at r ps s 0 d)))
      (ap (if_some (m.report s 0)) (none_reported s)) (sum_none r.shards (λ d. if_some m.list (flight_at r ps s 0 d)) (λ d l. ap (if_some m.list) (none_flies s d)))

  pub held_from_one : held_in_all r m ps ≡ sum_below r.shards (λ s. holding r m ps s + sum_below r.heights (λ h. sealing r m ps s (h + 1)))
  held_from_one =
      ap (λ t. sum_below r.shards (holding r m ps) + t)
      (sum_same r.shards (λ s. sum_below r.heights (λ h. sealing r m ps s (h + 1))) (λ s. sum_below (r.heights + 1) (sealing r m ps s)) (λ s l. sum_from_one r.heights (sealing r m ps s) (none_sealed s)))
      ∙ sym (sum_add r.shards (holding r m ps) (λ s. sum_below r.heights (λ h. sealing r m ps s (h + 1))))

  pub made_from_one : made_in_all r m ps ≡ sum_below r.shards (λ s. making r m ps s + sum_below r.heights (λ h. made_by r m ps s (h + 1)))
  made_from_one =
      ap (λ t. sum_below r.shards (making r m ps) + t)
      (sum_same r.shards (λ s. sum_below r.heights (λ h. made_by r m ps s (h + 1))) (λ s. sum_below (r.heights + 1) (made_by r m ps s)) (λ s l.
      sum_from_one r.heights (made_by r m ps s) (ap (if_some (m.made s 0)) (none_reported s))))
      ∙ sym (sum_add r.shards (making r m ps) (λ s. sum_below r.heights (λ h. made_by r m ps s (h + 1))))

no_part : {A : Type 0} (o : Option A) → if_some (λ a. 0) o ≡ 0
no_part None = refl
no_part (Some a) = refl

-- ---- tokens
abbrev pub total : Tally → ℕ
total t = t.accounts + t.receipts + t.burnt

adds_total : IsAdditive total
adds_total = record { none = refl; both = λ a b. six a.accounts a.receipts a.burnt b.accounts b.receipts b.burnt }
  where
    six : (a b c d e f : ℕ) → (a + d) + (b + e) + (c + f) ≡ (a + b + c) + (d + e + f)
    six a b c d e f = omega arith

module _ (x : Chain) (ps : List Position) where
  abbrev r : Rules Kept Working (List Receipt) ChunkResult
  r = rules_of x

  abbrev m : Amount Kept Working (List Receipt) ChunkResult
  m = tokens x

  between : (a w l : ℕ) → a + (w + l) + 0 ≡ ((a + w) + l) + 0
  between a w l = omega arith

  held_in : (s : ℕ) (t : Stage) (n k : ℕ) → total (shard_tally x.config (world_in r s t n) (working_in r s t n k)) ≡ if_some m.world (world_in r s t n) + if_some (m.working s n k) (working_in r s t n k)
  held_in s Idle n k = let w : Kept = world_after r s n in between (accounts_tokens w.world) (waiting_tokens x.config w.world) (list_tokens x.config w.carried)
  held_in s Opened n k = let w : Working = work r s n k in parts (accounts_tokens w.world) (waiting_tokens x.config w.world) (list_tokens x.config w.outgoing) w.burnt
    where
      parts : (a w o b : ℕ) → a + (w + o) + b ≡ 0 + (((a + w) + o) + b)
      parts a w o b = omega arith
  held_in s Sealed n k = let w : Kept = world_after r s (n + 1) in between (accounts_tokens w.world) (waiting_tokens x.config w.world) (list_tokens x.config w.carried)

  reported : (s h : ℕ) (o : Option ChunkResult) → total (report_tally o) ≡ if_some (m.report s h) o
  reported s h None = refl
  reported s h (Some y) = alone y.burnt
    where
      alone : (b : ℕ) → 0 + 0 + b ≡ b
      alone b = omega arith

  listed : (o : Option (List Receipt)) → total (list_tally x.config o) ≡ if_some m.list o
  listed None = refl
  listed (Some list) = alone (list_tokens x.config list)
    where
      alone : (t : ℕ) → 0 + t + 0 ≡ t
      alone t = omega arith

  tally_total : total (tally_at x ps) ≡ held_in_all r m ps
  tally_total =
      additive_at total adds_total x ps (holding r m ps) (λ s h. if_some (m.report s (h + 1)) (report_at r ps s (h + 1))) (λ s h d. if_some m.list (flight_at r ps s (h + 1) d))
      (λ s l. held_in s (at ps s).stage (at ps s).number (at ps s).taken) (λ s h l below. reported s (h + 1) (report_at r ps s (h + 1))) (λ s h d. listed (flight_at r ps s (h + 1) d))
      ∙ sym (held_from_one r m ps)

  none_made : made_in_all r m ps ≡ 0
  none_made =
      made_from_one r m ps
      ∙ sum_none r.shards (λ s. making r m ps s + sum_below r.heights (λ h. made_by r m ps s (h + 1))) (λ s l.
      both_none (making r m ps s) (sum_below r.heights (λ h. made_by r m ps s (h + 1))) (no_part (working_at r s (at ps s))) (sum_none r.heights (λ h. made_by r m ps s (h + 1)) (λ h j. no_part (report_at r ps s (h + 1)))))

  pub tokens_add_up : IsChain x → AddsUp r m ps → total (tally_at x ps) ≡ start_tokens x.config x.start
  tokens_add_up is adds =
      as_first (total (tally_at x ps)) (held_in_all r m ps) (sum_below r.shards (λ s. m.world (r.begins s))) (made_in_all r m ps) (start_tokens x.config x.start)
      tally_total adds none_made (start_sum x.config x.start is.start)
    where
      as_first : (total all first made supply : ℕ) → total ≡ all → all ≡ first + made → made ≡ 0 → first ≡ supply → total ≡ supply
      as_first total all first made supply e f g h = omega (arith, e, f, g, h)
