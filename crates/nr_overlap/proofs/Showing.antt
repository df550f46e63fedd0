-- What a core shows is the serial run's.
use Rattle.std.proofs.Common.{◌≡◌, ℕ, ◌<◌, ◌≤◌, List, [], Option, Some, None, length, inl, inr, sym, refl, ap, ◌∙◌, arith}
use Rattle.std.specs.Prelude.{get_or, Vec, nat_lt, unwrap_or}
use Rattle.std.specs.Option.{option_map}
use Rattle.std.specs.declared.alloc.Global.{Global}
use Rattle.std.proofs.lemmas.Option.{slice_get_read, slice_get_past}
use Rattle.std.proofs.lemmas.List.{get_or_past}
use Rattle.std.specs.Global.{Box}
use Rattle.nr_overlap.specs.Rules.{Rules}
use Rattle.nr_overlap.specs.Positions.{at, start}
use Rattle.nr_overlap.specs.Moment.{shown, world_at, world_in, working_at, working_in, report_at, flight_at}
use Rattle.nr_overlap.specs.Held.{IsKept, IsSerial, IsHeld, held_world, held_working, row_entry, row_slot, row_report, entry}
use Rattle.nr_overlap.specs.declared.shards.Held.{Held}
use Rattle.nr_overlap.specs.declared.shards.Held.TheVariants.{World, Working, Nothing}
use Rattle.nr_overlap.specs.declared.shards.Row.{Row}
use Rattle.nr_overlap.specs.declared.shards.Shards.{Shards}
use Rattle.nr_overlap.specs.declared.position.Stage.{Stage}
use Rattle.nr_overlap.specs.declared.position.Stage.TheVariants.{Idle, Opened, Sealed}
use Rattle.nr_overlap.specs.declared.position.Position.{Position}
use Rattle.nr_overlap.proofs.Basics.{true_or_false, lt_of, ge_of}
use Rattle.nr_overlap.proofs.Founding.{shown_first}
use Rattle.nr_overlap.proofs.Serially.{row_read}

module _ {W K L R : Type 0} (r : Rules W K L R) where
  no_world : (s n m : ℕ) (t : Stage) (k : K) → working_in r s t n m ≡ Some k → None ≡ world_in r s t n
  no_world s n m Idle k e = absurd (none k e)
    where
      none : (k : K) → ◌≡◌ {A = Option K} None (Some k) → ⊥
      none k e = cc
  no_world s n m Opened k e = refl
  no_world s n m Sealed k e = absurd (none k e)
    where
      none : (k : K) → ◌≡◌ {A = Option K} None (Some k) → ⊥
      none k e = cc

  no_working : (s n m : ℕ) (t : Stage) (w : W) → world_in r s t n ≡ Some w → None ≡ working_in r s t n m
  no_working s n m Idle w e = refl
  no_working s n m Opened w e = absurd (none w e)
    where
      none : (w : W) → ◌≡◌ {A = Option W} None (Some w) → ⊥
      none w e = cc
  no_working s n m Sealed w e = refl

  world_held : (s : ℕ) (p : Position) (v : Held W K) → IsHeld r s p v → held_world v ≡ world_at r s p
  world_held s p (World w) is = sym is
  world_held s p (Working k) is = no_world s p.number p.taken p.stage k is
  world_held s p Nothing is = elim is [ ]

  working_held : (s : ℕ) (p : Position) (v : Held W K) → IsHeld r s p v → held_working v ≡ working_at r s p
  working_held s p (World w) is = no_working s p.number p.taken p.stage w is
  working_held s p (Working k) is = sym is
  working_held s p Nothing is = elim is [ ]

  pub world_shown : (x : Shards W K L R) (s : ℕ) (v : Held W K) (o : Option W) (ps : List Position) → IsSerial r x → s < r.shards → v ≡ get_or x.held.items s v → o ≡ held_world v → x.positions.items ≡ ps → o ≡ world_at r s (at ps s)
  world_shown x s v o ps is l v_at o_is same = o_is ∙ world_held s (at x.positions.items s) v (is.values s v (slice_get_read x.held.items (length x.held.items) s v refl (omega (arith, l, is.kept.held)) v_at)) ∙ ap (λ t. world_at r s (at t s)) same

  pub working_shown : (x : Shards W K L R) (s : ℕ) (v : Held W K) (o : Option K) (ps : List Position) → IsSerial r x → s < r.shards → v ≡ get_or x.held.items s v → o ≡ held_working v → x.positions.items ≡ ps → o ≡ working_at r s (at ps s)
  working_shown x s v o ps is l v_at o_is same = o_is ∙ working_held s (at x.positions.items s) v (is.values s v (slice_get_read x.held.items (length x.held.items) s v refl (omega (arith, l, is.kept.held)) v_at)) ∙ ap (λ t. working_at r s (at t s)) same

  -- a shard that isn't there has no report
  outside : (x : Shards W K L R) (s h : ℕ) → IsKept r x → r.shards ≤ s → row_report (entry x.rows.items s h) ≡ report_at r x.positions.items s h
  outside x s h is past =
      ap (λ (o : Option (Vec (Option (Box (Row L R))) Global)). row_report (row_entry (unwrap_or (option_map (λ row. row.items) o) []) h)) (slice_get_past x.rows.items s (omega (arith, past, is.rows)))
      ∙ sym (ap (λ (q : Position). option_map (λ z. z.report) (shown r s q h)) (get_or_past x.positions.items s start (omega (arith, past, is.reached.count)))
      ∙ ap (option_map (λ z. z.report)) (shown_first r s h))

  pub report_shown : (x : Shards W K L R) (s h : ℕ) (o : Option R) (ps : List Position) → IsKept r x → o ≡ row_report (entry x.rows.items s h) → x.positions.items ≡ ps → o ≡ report_at r ps s h
  report_shown x s h o ps is o_is same = o_is ∙ elim (true_or_false (nat_lt s r.shards)) [
    | inl e ↦ is.reports s h (lt_of s r.shards e)
    | inr e ↦ outside x s h is (ge_of s r.shards e)
  ] ∙ ap (λ t. report_at r t s h) same

  pub flight_shown : (x : Shards W K L R) (s h d : ℕ) (v : Vec (Option (Box (Row L R))) Global)
      (row : List (Option (Box (Row L R)))) (o : Option L) (ps : List Position) → IsSerial r x → s < r.shards
      → d < r.shards → v ≡ get_or x.rows.items s v → row ≡ v.items → o ≡ row_slot (row_entry row h) d
      → x.positions.items ≡ ps → o ≡ flight_at r ps s h d
  flight_shown x s h d v row o ps is l m v_at row_is o_is same = o_is ∙ ap (λ t. row_slot (row_entry t h) d) (row_is ∙ sym (row_read x.rows.items s v (slice_get_read x.rows.items (length x.rows.items) s v refl (omega (arith, l, is.kept.rows)) v_at)))
      ∙ is.lists s h d l m ∙ ap (λ t. flight_at r t s h d) same
