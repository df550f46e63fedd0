-- In the serial run a working state and the list that it takes hold no more than there was at first, of an amount that is never made.
use Rattle.std.proofs.Common.{◌≡◌, ℕ, zero, suc, ◌+◌, ◌<◌, ◌≤◌, false, List, Option, Some, None, length, inl, inr, sym, refl, ap, ◌∙◌, arith}
use Rattle.std.specs.Prelude.{slice_get}
use Rattle.std.proofs.lemmas.Option.{slice_get_within}
use Rattle.std.proofs.lemmas.Bool.{cases_eq}
use Rattle.nr_overlap.specs.Rules.{Rules}
use Rattle.nr_overlap.specs.Serial.{EachTaken, due_after, list_to, sealing_at}
use Rattle.nr_overlap.specs.Balance.{held_at, Amount, IsKeptBy, AddsUp, sum_below, if_some, held_by, sealed_by, making, made_by}
use Rattle.nr_overlap.specs.Positions.{at, top, top_at}
use Rattle.nr_overlap.specs.Moment.{took, working_at, flight_at, report_at}
use Rattle.nr_overlap.specs.declared.position.Stage.{Stage}
use Rattle.nr_overlap.specs.declared.position.Stage.TheVariants.{Idle, Opened, Sealed}
use Rattle.nr_overlap.specs.declared.position.Position.{Position}
use Rattle.nr_overlap.proofs.DueLemmas.{due_at, first_small}
use Rattle.nr_overlap.proofs.Claims.{took_not}
use Rattle.nr_overlap.proofs.Founding.{at_replicate}
use Rattle.nr_overlap.proofs.Sums.{sum_none, keeps_sums, first_sums}
use Rattle.nr_overlap.proofs.Flights.{flight_due}
use Rattle.nr_overlap.specs.Run.{opening}
use Rattle.nr_overlap.proofs.Along.{opened_at, at_work}

-- ---- sums and slowest shards
sum_part : (n i : ℕ) (f : ℕ → ℕ) → i < n → f i ≤ sum_below n f
sum_part zero i f l = absurd (omega arith)
sum_part (suc n) i f l = elim (cases_eq i n) [
  | inl e ↦ let a : f i ≡ f n = ap f e in omega arith
  | inr ne ↦ let a : f i ≤ sum_below n f = sum_part n i f (omega (arith, ne)) in omega arith
]

nothing : {A : Type 0} {f : A → ℕ} → ((x : A) → f x ≡ 0) → (o : Option A) → if_some f o ≡ 0
nothing e None = refl
nothing e (Some x) = e x

module _ {W K L R : Type 0} (r : Rules W K L R) (m : Amount W K L R) where
  -- what there was at first
  abbrev pub first_sum : ℕ
  first_sum = sum_below r.shards (λ s. m.world (r.begins s))

  -- none of it is made
  pub record IsNeverMade : Type 0 where
    pub so_far : (s h n : ℕ) (k : K) → m.made_so_far s h n k ≡ 0
    pub whole : (s h : ℕ) (x : R) → m.made s h x ≡ 0

  none_making : IsNeverMade → (ps : List Position) → sum_below r.shards (making r m ps) ≡ 0
  none_making never ps = sum_none r.shards (making r m ps) (λ t _. nothing (never.so_far t (at ps t).number (at ps t).taken) (working_at r t (at ps t)))

  none_made : IsNeverMade → (ps : List Position) → sum_below r.shards (λ s. sum_below (r.heights + 1) (made_by r m ps s)) ≡ 0
  none_made never ps = sum_none r.shards (λ s. sum_below (r.heights + 1) (made_by r m ps s)) (λ t _. sum_none (r.heights + 1) (made_by r m ps t) (λ u _. nothing (never.whole t u) (report_at r ps t u)))

  -- a shard holds no more than there was at first
  pub held_small : IsNeverMade → (ps : List Position) (s : ℕ) → AddsUp r m ps → s < r.shards → held_by r m ps s ≤ first_sum
  held_small never ps s sums l =
      whole_one (held_by r m ps s) (sum_below r.shards (held_by r m ps)) (sum_below r.shards (λ s. sum_below (r.heights + 1) (sealed_by r m ps s))) (sum_below r.shards (making r m ps))
      (sum_below r.shards (λ s. sum_below (r.heights + 1) (made_by r m ps s))) first_sum (sum_part r.shards s (held_by r m ps) l) (none_making never ps) (none_made never ps) sums
    where
      whole_one : (held A B C D F : ℕ) → held ≤ A → C ≡ 0 → D ≡ 0 → A + B ≡ F + (C + D) → held ≤ F
      whole_one held A B C D F c g k s = omega arith

  -- nor with the list that is the next due one
  pub room : IsNeverMade → (ps : List Position) (s h n : ℕ) (pair : ℕ × ℕ) (list : L) → AddsUp r m ps → s < r.shards → h < r.heights → at ps s ≡ opened_at h n → pair.0 ≤ (at ps pair.1).number
      → slice_get (due_after r s h) n ≡ Some pair → list_to r (sealing_at r pair.1 pair.0) s ≡ Some list → held_at r m s h n + m.list list ≤ first_sum
  room never qs s h n pair list sums l below here published next list_is =
      let due = due_at r s h n pair (first_small r s h) next in
      let free : took r s (at qs s) pair.0 pair.1 ≡ false = ap (λ (q : Position). took r s q pair.0 pair.1) here ∙ took_not r s h n pair next in
      let flies : flight_at r qs pair.1 pair.0 s ≡ Some list = flight_due r qs s pair.1 pair.0 free (omega (arith, published, high_top (at qs pair.1))) ∙ list_is in
      let a : if_some (m.working s (at qs s).number (at qs s).taken) (working_at r s (at qs s)) ≡ held_at r m s h n = ap (λ (q : Position). if_some (m.working s q.number q.taken) (working_at r s q)) here in
      let b : if_some m.list (flight_at r qs pair.1 pair.0 s) ≡ m.list list = ap (if_some m.list) flies in
      let c : held_by r m qs s ≤ sum_below r.shards (held_by r m qs) = sum_part r.shards s (held_by r m qs) l in
      let d : if_some m.list (flight_at r qs pair.1 pair.0 s) ≤ sum_below r.shards (λ d. if_some m.list (flight_at r qs pair.1 pair.0 d)) = sum_part r.shards s (λ d. if_some m.list (flight_at r qs pair.1 pair.0 d)) l in
      let e : sealed_by r m qs pair.1 pair.0 ≤ sum_below (r.heights + 1) (sealed_by r m qs pair.1) = sum_part (r.heights + 1) pair.0 (sealed_by r m qs pair.1) (omega (arith, due.to, below)) in
      let f : sum_below (r.heights + 1) (sealed_by r m qs pair.1) ≤ sum_below r.shards (λ s. sum_below (r.heights + 1) (sealed_by r m qs s)) = sum_part r.shards pair.1 (λ s. sum_below (r.heights + 1) (sealed_by r m qs s)) due.source in
      whole (held_at r m s h n) (m.list list) (if_some (m.working s (at qs s).number (at qs s).taken) (working_at r s (at qs s))) (if_some m.list (flight_at r qs pair.1 pair.0 s)) (held_by r m qs s) (sealed_by r m qs pair.1 pair.0) (sum_below r.shards (λ d. if_some m.list (flight_at r qs pair.1 pair.0 d))) (sum_below (r.heights + 1) (sealed_by r m qs pair.1))
      (sum_below r.shards (held_by r m qs)) (sum_below r.shards (λ s. sum_below (r.heights + 1) (sealed_by r m qs s))) (sum_below r.shards (making r m qs)) (sum_below r.shards (λ s. sum_below (r.heights + 1) (made_by r m qs s))) first_sum
      (sym a) (sym b) (omega arith) (omega arith) c d e f (none_making never qs) (none_made never qs) sums
    where
      high_top : (p : Position) → p.number ≤ top p
      high_top p = by p.stage
        where
          by : (t : Stage) → p.number ≤ top_at t p.number
          by Idle = omega arith
          by Opened = omega arith
          by Sealed = omega arith

      whole : (a b a' b' held row lists rows A B C D F : ℕ) → a ≡ a' → b ≡ b' → a' ≤ held → b' ≤ row → held ≤ A → b' ≤ lists → row ≤ rows → rows ≤ B → C ≡ 0 → D ≡ 0 → A + B ≡ F + (C + D) → a + b ≤ F
      whole a b a' b' held row lists rows A B C D F x y p q c d e f g k s = omega arith

  -- in the serial run a working state and the list that it takes hold no more than there was at first
  pub bound : ((k : K) → length (r.seals k).lists ≡ r.shards) → IsKeptBy r m → IsNeverMade → EachTaken r (λ s h n list. held_at r m s h n + m.list list ≤ first_sum)
  bound one_each laws never s h n pair list l below there next list_is =
      let due = due_at r s h n pair (first_small r s h) next in
      let taken = at_work r (AddsUp r m) (λ ps e is inside none was. keeps_sums r m ps e is inside none one_each laws was) (first_sums r m (opening r) (at_replicate r.shards)) s h n l below there (omega (arith, slice_get_within (due_after r s h) n pair next)) in
      room never taken.0 s h n pair list taken.1.sound.kept l below taken.1.here (omega (arith, due.to, taken.1.others pair.1 due.source)) next list_is
