-- Where every shard has published all heights: the positions are the ending, and what stands there is the whole serial run.
use Rattle.std.proofs.Common.{◌≡◌, ℕ, zero, suc, ◌<◌, cond, List, [], ◌∷◌, None, length, refl, ap, ◌∙◌, arith}
use Rattle.std.specs.Prelude.{nat_lt, replicate}
use Rattle.std.specs.Option.{option_map}
use Rattle.std.proofs.lemmas.List.{get_or-replicate}
use Rattle.nr_overlap.specs.Rules.{Rules}
use Rattle.nr_overlap.specs.Serial.{first_due, list_to, sealing_at}
use Rattle.nr_overlap.specs.Positions.{at, start, end_at}
use Rattle.nr_overlap.specs.Moment.{took, shown, world_at}
use Rattle.nr_overlap.specs.Run.{ending}
use Rattle.nr_overlap.specs.Whole.{IsWholeRun}
use Rattle.nr_overlap.specs.declared.position.Position.{Position}
use Rattle.nr_overlap.proofs.Basics.{is_le}

same_places : (n : ℕ) (ps : List Position) (p : Position) → length ps ≡ n → ((s : ℕ) → s < n → at ps s ≡ p) → ps ≡ replicate n p
same_places zero [] p e f = refl
same_places zero (q ∷ qs) p e f = absurd (omega (arith, e))
same_places (suc n) [] p e f = absurd (omega (arith, e))
same_places (suc n) (q ∷ qs) p e f = (λ i. f 0 (omega arith) i ∷ same_places n qs p (omega (arith, e)) (λ s l. f (suc s) (omega (arith, l))) i)

module _ {W K L R : Type 0} (r : Rules W K L R) where
  -- every shard has published all heights
  abbrev pub AreEnded : List Position → Type 0
  AreEnded ps = (s : ℕ) → s < r.shards → at ps s ≡ end_at r.heights

  pub is_ending : (ps : List Position) → length ps ≡ r.shards → AreEnded ps → ps ≡ ending r
  is_ending ps count are = same_places r.shards ps (end_at r.heights) count are

  are_ended : (ps : List Position) → ps ≡ ending r → AreEnded ps
  are_ended ps e s l = ap (λ qs. at qs s) e ∙ get_or-replicate r.shards s (end_at r.heights) start l

  pub whole_run : (ps : List Position) → ps ≡ ending r → IsWholeRun r ps
  whole_run ps e = record {
    world = λ s l. ap (world_at r s) (are_ended ps e s l);
    report = λ s h l small. ap (λ (q : Position). option_map (λ z. z.report) (shown r s q h)) (are_ended ps e s l)
        ∙ ap (λ b. option_map (λ z. z.report) (cond b (sealing_at r s h) None)) (is_le h r.heights small);
    list = λ s h d l m small. (λ j. cond (took r d (are_ended ps e d m j) h s) None (list_to r (shown r s (are_ended ps e s l j) h) d))
        ∙ ap (λ b. cond (nat_lt h (first_due r d r.heights)) None (list_to r (cond b (sealing_at r s h) None) d)) (is_le h r.heights small);
  }
