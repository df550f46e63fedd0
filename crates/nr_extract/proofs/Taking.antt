-- The receipts that a chunk takes: which heights and shards their lists come from.
use Rattle.std.proofs.Common.{◌≡◌, ℕ, ◌+◌, ◌<◌, ◌≤◌, List, Some, subst, arith}
use Rattle.std.specs.Prelude.{slice_get}
use Rattle.nr_overlap.specs.Rules.{Rules}
use Rattle.nr_overlap.specs.Serial.{due_after, first_due}
use Rattle.nr_overlap.proofs.DueLemmas.{due_at, first_small}

module _ {W K L R : Type 0} (r : Rules W K L R) where
  pub due_inside : (shard below n : ℕ) (dues : List (ℕ × ℕ)) (due : ℕ × ℕ) → dues ≡ due_after r shard below → slice_get dues n ≡ Some due → (first_due r shard below ≤ due.0) × ((due.0 ≤ below) × (due.1 < r.shards))
  due_inside shard below n dues due all e =
      let is = due_at r shard below n due (first_small r shard below) (subst (λ (ds : List (ℕ × ℕ)). slice_get ds n ≡ Some due) all e) in
      let to : due.0 < below + 1 = is.to in
      (is.from, (omega (arith, to), is.source))
