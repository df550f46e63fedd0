-- The lists of a plan are the serial run's, and a chunk sends one to each shard. This project's own.
use Rattle.std.proofs.Common.{◌≡◌, ℕ, ◌+◌, ◌-◌, ◌<◌, true, length, ap, sym, ◌∙◌, subst, arith}
use Rattle.nr_overlap.specs.Rules.{Rules}
use Rattle.nr_overlap.specs.Serial.{last_work}
use Rattle.nr_overlap.specs.Lawful.{AreLawful}
use Rattle.nr_overlap.proofs.SerialLemmas.{sealing_there}
use Rattle.nr_exchange.specs.Plan.{plan_of, lists_in}

module _ {W K L R : Type 0} (r : Rules W K L R) where
  pub lists_there : (s h : ℕ) → r.present s (h + 1) ≡ true → (plan_of r).lists s (h + 1)
      ≡ (r.seals (last_work r s h)).lists
  lists_there s h there = ap lists_in (sealing_there r s h there)

  pub one_each : {can_open : ℕ → ℕ → W → Type 0} {can_take : K → L → Type 0} {can_seal : K → Type 0}
      → AreLawful r can_open can_take can_seal
      → (s h : ℕ) → 0 < h → r.present s h ≡ true → length ((plan_of r).lists s h) ≡ r.shards
  one_each laws s h above there =
      let is : h ≡ (h - 1) + 1 = omega arith in
      subst (λ (k : ℕ). length ((plan_of r).lists s k) ≡ r.shards) (sym is)
      (ap length (lists_there s (h - 1) (subst (λ (k : ℕ). r.present s k ≡ true) is there)) ∙ laws.one_each
      (last_work r s (h - 1)))
