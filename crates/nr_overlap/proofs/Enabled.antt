-- What a step that is enabled has.
use Rattle.std.proofs.Common.{◌≡◌, ℕ, ◌+◌, ◌<◌, ◌≤◌, Bool, true, false, cond, List, Option, Some, None, inl, inr, ◌⊎◌, refl}
use Rattle.std.specs.Prelude.{nat_le, nat_lt, ◌==◌, ◌&&◌, ◌||◌, not}
use Rattle.nr_bytes.proofs.Basics.{left_true, right_true}
use Rattle.nr_overlap.specs.Rules.{Rules}
use Rattle.nr_overlap.specs.Positions.{at, stage_number, is_idle, is_opened, is_sealed}
use Rattle.nr_overlap.specs.Moves.{named, wrong_list, left_over, next_due, fits, list_refusal, refusal_at, refusal, is_pair}
use Rattle.nr_overlap.specs.declared.event.Event.{Event}
use Rattle.nr_overlap.specs.declared.event.Event.TheVariants.{OpenChunk, TakeList, SealChunk, PublishLists}
use Rattle.nr_overlap.specs.declared.event.Why.TheVariants as why
use Rattle.nr_ids.specs.declared.number.ShardId.{ShardId}
use Rattle.nr_ids.specs.declared.number.Height.{Height}
use Rattle.nr_overlap.specs.declared.position.Stage.{Stage}
use Rattle.nr_overlap.specs.declared.position.Stage.TheVariants.{Idle, Opened, Sealed}
use Rattle.nr_overlap.specs.declared.position.Position.{Position}
use Rattle.nr_overlap.proofs.Basics.{gt_of, ge_of, eq_of}

nothing : {A : Type 0} (x : A) → ◌≡◌ {A = Option A} (Some x) None → ⊥
nothing x e = cc

idle_is : (t : Stage) → is_idle t ≡ true → t ≡ Idle
idle_is Idle e = refl
idle_is Opened e = cc
idle_is Sealed e = cc

pub opened_is : (t : Stage) → is_opened t ≡ true → t ≡ Opened
opened_is Idle e = cc
opened_is Opened e = refl
opened_is Sealed e = cc

module _ {W K L R : Type 0} (r : Rules W K L R) where
  pub record Fits (ps : List Position) (s : ℕ) (p : Position) (e : Event) : Type 0 where
    pub below : p.number < r.heights
    pub stage : fits r s p e ≡ true
    pub lists : list_refusal r ps s p e ≡ None

  pub fits_of : (ps : List Position) (s : ℕ) (p : Position) (e : Event) → refusal_at r ps s p e ≡ None → Fits ps s p e
  fits_of ps s p e n = by (nat_le r.heights p.number) (fits r s p e) refl refl n
    where
      by : (a b : Bool) → nat_le r.heights p.number ≡ a → fits r s p e ≡ b → cond a (Some (why.Ended r.heights)) (cond b (list_refusal r ps s p e) (Some (why.Stage (stage_number p.stage)))) ≡ None → Fits ps s p e
      by true b x y z = absurd (nothing _ z)
      by false true x y z = record { below = gt_of r.heights p.number x; stage = y; lists = z }
      by false false x y z = absurd (nothing _ z)

  pub record CanOpen (s : ℕ) (p : Position) : Type 0 where
    pub below : p.number < r.heights
    pub stage : p.stage ≡ Idle
    pub there : r.present s (p.number + 1) ≡ true

  pub can_open : (ps : List Position) (s : ShardId) → refusal r ps (OpenChunk s) ≡ None → CanOpen s.0 (at ps s.0)
  can_open ps s n = let f = fits_of ps s.0 (at ps s.0) (OpenChunk s) n in record {
    below = f.below;
    stage = idle_is (at ps s.0).stage (left_true (is_idle (at ps s.0).stage) (r.present s.0 ((at ps s.0).number + 1)) f.stage);
    there = right_true (is_idle (at ps s.0).stage) (r.present s.0 ((at ps s.0).number + 1)) f.stage;
  }

  pub record CanTake (ps : List Position) (d s h : ℕ) : Type 0 where
    pub below : (at ps d).number < r.heights
    pub stage : (at ps d).stage ≡ Opened
    pub pair : ℕ × ℕ
    pub next : next_due r d (at ps d) ≡ Some pair
    pub height : pair.0 ≡ h
    pub source : pair.1 ≡ s
    pub published : h ≤ (at ps s).number

  right_list : (o : Option (ℕ × ℕ)) (h s : ℕ) (q : Position) → wrong_list o h s q ≡ None → (pair : ℕ × ℕ) × (o ≡ Some pair) × (pair.0 ≡ h) × (pair.1 ≡ s) × (h ≤ q.number)
  right_list None h s q e = absurd (nothing _ e)
  right_list (Some pair) h s q e = by (is_pair h s pair) (nat_lt q.number h) refl refl e
    where
      by : (a b : Bool) → is_pair h s pair ≡ a → nat_lt q.number h ≡ b → cond a (cond b (Some (why.Published q.number)) None) (Some (named (Some pair))) ≡ None
          → (other : ℕ × ℕ) × (◌≡◌ {A = Option (ℕ × ℕ)} (Some pair) (Some other)) × (other.0 ≡ h) × (other.1 ≡ s) × (h ≤ q.number)
      by true true x y z = absurd (nothing _ z)
      by true false x y z = (pair, refl, eq_of pair.0 h (left_true (pair.0 == h) (pair.1 == s) x), eq_of pair.1 s (right_true (pair.0 == h) (pair.1 == s) x), ge_of q.number h y)
      by false b x y z = absurd (nothing _ z)

  pub can_take : (ps : List Position) (d s : ShardId) (h : Height) → refusal r ps (TakeList d s h) ≡ None → CanTake ps d.0 s.0 h.0
  can_take ps d s h n =
      let f = fits_of ps d.0 (at ps d.0) (TakeList d s h) n in
      let q = right_list (next_due r d.0 (at ps d.0)) h.0 s.0 (at ps s.0) f.lists in
      record { below = f.below; stage = opened_is (at ps d.0).stage f.stage; pair = q.0; next = q.1; height = q.2; source = q.3; published = q.4 }

  pub record CanSeal (s : ℕ) (p : Position) : Type 0 where
    pub below : p.number < r.heights
    pub stage : p.stage ≡ Opened
    pub none_left : next_due r s p ≡ None

  no_list : (o : Option (ℕ × ℕ)) → left_over o ≡ None → o ≡ None
  no_list None e = refl
  no_list (Some pair) e = absurd (nothing _ e)

  pub can_seal : (ps : List Position) (s : ShardId) → refusal r ps (SealChunk s) ≡ None → CanSeal s.0 (at ps s.0)
  can_seal ps s n = let f = fits_of ps s.0 (at ps s.0) (SealChunk s) n in
      record { below = f.below; stage = opened_is (at ps s.0).stage f.stage; none_left = no_list (next_due r s.0 (at ps s.0)) f.lists }

  pub record CanPublish (s : ℕ) (p : Position) : Type 0 where
    pub below : p.number < r.heights
    pub stage : (p.stage ≡ Sealed) ⊎ ((p.stage ≡ Idle) × (r.present s (p.number + 1) ≡ false))

  sealed_or_missing : (t : Stage) (b : Bool) → (is_sealed t || (is_idle t && not b)) ≡ true → (t ≡ Sealed) ⊎ ((t ≡ Idle) × (b ≡ false))
  sealed_or_missing Idle true e = cc
  sealed_or_missing Idle false e = inr (refl, refl)
  sealed_or_missing Opened b e = cc
  sealed_or_missing Sealed b e = inl refl

  pub can_publish : (ps : List Position) (s : ShardId) → refusal r ps (PublishLists s) ≡ None → CanPublish s.0 (at ps s.0)
  can_publish ps s n = let f = fits_of ps s.0 (at ps s.0) (PublishLists s) n in
      record { below = f.below; stage = sealed_or_missing (at ps s.0).stage (r.present s.0 ((at ps s.0).number + 1)) f.stage }
