-- The first chunk of a shard can be opened, and sealed as soon as it is.
use Rattle.std.proofs.Common.{◌≡◌, ◌<◌, ℕ, true, List, [], length, refl, ap, subst, ◌∙◌, arith}
use Rattle.std.specs.Prelude.{is_some}
use Rattle.nr_chunk.specs.Chain.{Chain, CanOpen, CanSeal, IsChain, chunk_at, rules_of, shards_of}
use Rattle.nr_chunk.specs.Lawful.{laws_of}
use Rattle.nr_chunk.specs.Views.{Kept, Working}
use Rattle.nr_chunk.proofs.Started.{chunk_below}
use Rattle.nr_overlap.specs.Rules.{Rules}
use Rattle.nr_overlap.specs.Serial.{due_after, last_work, past_after, work, world_after}
use Rattle.nr_records.specs.declared.chunk_result.ChunkResult.{ChunkResult}
use Rattle.nr_records.specs.declared.receipt.Receipt.{Receipt}

abbrev Ledger : Type 0
Ledger = Rules Kept Working (List Receipt) ChunkResult

begins_is : (r : Ledger) (s : ℕ) → world_after r s 0 ≡ r.begins s
unfolding past_after
begins_is r s = refl

none_due : (r : Ledger) (s : ℕ) → due_after r s 0 ≡ []
unfolding due_after
none_due r s = refl

first_work : (r : Ledger) (s : ℕ) → work r s 0 0 ≡ r.opens s 1 (world_after r s 0)
unfolding work
first_work r s = refl

last_is : (r : Ledger) (s : ℕ) → last_work r s 0 ≡ r.opens s 1 (r.begins s)
last_is r s = ap (λ dues. work r s 0 (length dues)) (none_due r s) ∙ first_work r s ∙ ap (r.opens s 1) (begins_is r s)

module _ (x : Chain) (is : IsChain x) (s : ℕ) (l : s < shards_of x) (there : is_some (chunk_at x s 1) ≡ true) where
  below : 0 < length x.blocks
  below = omega (arith, chunk_below x s 1 there)

  pub can_open : CanOpen x s 1 ((rules_of x).begins s)
  can_open = subst (CanOpen x s 1) (begins_is (rules_of x) s) ((laws_of x is).opens s 0 l below there)

  pub can_seal : CanSeal x ((rules_of x).opens s 1 ((rules_of x).begins s))
  can_seal = subst (CanSeal x) (last_is (rules_of x) s) ((laws_of x is).seals s 0 l below there)
