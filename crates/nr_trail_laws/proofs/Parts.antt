-- Parts of a sequence, and instructions inside instructions.
use Rattle.std.proofs.Common.{◌≡◌, ℕ, ◌+◌, Bool, true, false, cond, List, [], ◌∷◌, refl, subst, arith}
use Rattle.std.specs.Prelude.{sum_by}
use Rattle.std.proofs.lemmas.List.Sums.{sum_by-cons}
use mathlib.Core.Logic.{inl, inr}
use Rattle.nr_wasmtypes.specs.Code.{Code, End, Then, Block, Loop, Choice, after, count_of}
use Rattle.nr_trace.specs.Trail.{behind, second_of}
use Rattle.nr_trace.specs.declared.trail.Level.{Level}
use Rattle.nr_trace.specs.declared.trail.Level.TheVariants as level
use Rattle.nr_trail_laws.specs.Placed.{IsAt}

pub at_here : (whole : Code) → IsAt whole 0 whole
at_here End = (refl, refl)
at_here (Then o rest) = inl (refl, refl)
at_here (Block ty body rest) = inl (refl, refl)
at_here (Loop ty body rest) = inl (refl, refl)
at_here (Choice ty one other rest) = inl (refl, refl)

-- the same behind none, whatever equals it
at_this : (whole mid at : Code) (n k : ℕ) → n ≡ 0 → mid ≡ whole → IsAt mid k at → IsAt whole (n + k) at
at_this whole mid at n k e f h =
    subst (λ (j : ℕ). IsAt whole j at) (let same : k ≡ n + k = omega arith in same) (subst (λ (c : Code). IsAt c k at) f h)

pub at_trans : (whole mid at : Code) (n k : ℕ) → IsAt whole n mid → IsAt mid k at → IsAt whole (n + k) at
at_trans End mid at n k (e, f) h = at_this End mid at n k e f h
at_trans (Then o rest) mid at n k (inl (e, f)) h = at_this (Then o rest) mid at n k e f h
at_trans (Then o rest) mid at n k (inr (j, e, g)) h = inr (j + k, omega arith, at_trans rest mid at j k g h)
at_trans (Block ty body rest) mid at n k (inl (e, f)) h = at_this (Block ty body rest) mid at n k e f h
at_trans (Block ty body rest) mid at n k (inr (inl (j, e, g))) h = inr (inl (j + k, omega arith, at_trans body mid at j k g h))
at_trans (Block ty body rest) mid at n k (inr (inr (j, e, g))) h = inr (inr (j + k, omega arith, at_trans rest mid at j k g h))
at_trans (Loop ty body rest) mid at n k (inl (e, f)) h = at_this (Loop ty body rest) mid at n k e f h
at_trans (Loop ty body rest) mid at n k (inr (inl (j, e, g))) h = inr (inl (j + k, omega arith, at_trans body mid at j k g h))
at_trans (Loop ty body rest) mid at n k (inr (inr (j, e, g))) h = inr (inr (j + k, omega arith, at_trans rest mid at j k g h))
at_trans (Choice ty one other rest) mid at n k (inl (e, f)) h = at_this (Choice ty one other rest) mid at n k e f h
at_trans (Choice ty one other rest) mid at n k (inr (inl (j, e, g))) h = inr (inl (j + k, omega arith, at_trans one mid at j k g h))
at_trans (Choice ty one other rest) mid at n k (inr (inr (inl (j, e, g)))) h = inr (inr (inl (j + k, omega arith, at_trans other mid at j k g h)))
at_trans (Choice ty one other rest) mid at n k (inr (inr (inr (j, e, g)))) h = inr (inr (inr (j + k, omega arith, at_trans rest mid at j k g h)))

-- ---- a part of a sequence: what is left behind some of its instructions
pub record Part (whole part : Code) : Type 0 where
  pub before : ℕ
  pub counted : before + count_of part ≡ count_of whole
  pub stands : IsAt whole before part

pub part_here : (whole : Code) → Part whole whole
part_here whole = record { before = 0; counted = omega arith; stands = at_here whole }

after_at : (c : Code) → (n : ℕ) × (n + count_of (after c) ≡ count_of c) × IsAt c n (after c)
after_at End = (0, omega arith, at_here End)
after_at (Then o rest) = (1, omega arith, inr (0, omega arith, at_here rest))
after_at (Block ty body rest) = (1 + count_of body, omega arith, inr (inr (0, omega arith, at_here rest)))
after_at (Loop ty body rest) = (1 + count_of body, omega arith, inr (inr (0, omega arith, at_here rest)))
after_at (Choice ty one other rest) = (1 + count_of one + count_of other, omega arith, inr (inr (inr (0, omega arith, at_here rest))))

pub part_after : (whole part : Code) → Part whole part → Part whole (after part)
part_after whole part p =
    let a = after_at part in
    let counted : (p.before + a.0) + count_of (after part) ≡ count_of whole = omega (arith, p.counted, a.1) in
    record { before = p.before + a.0; counted = counted; stands = at_trans whole part (after part) p.before a.0 p.stands a.2 }

-- ---- inside an instruction
abbrev pub side : Bool → Code → Code
side second End = End
side second (Then o rest) = End
side second (Block ty body rest) = body
side second (Loop ty body rest) = body
side second (Choice ty one other rest) = cond second other one

-- an instruction that holds others stands first
abbrev pub holds : Code → Bool
holds End = false
holds (Then o rest) = false
holds (Block ty body rest) = true
holds (Loop ty body rest) = true
holds (Choice ty one other rest) = true

-- a side with what stands behind it
pub side_at : (second : Bool) (c : Code) → holds c ≡ true
    → (n : ℕ) × (n + (count_of (side second c) + (cond second 0 (count_of (second_of c)) + count_of (after c))) ≡ count_of c)
    × ((k : ℕ) (at : Code) → IsAt (side second c) k at → IsAt c (n + k) at)
side_at second End e = absurd cc
side_at second (Then o rest) e = absurd cc
side_at true (Block ty body rest) e = (1, omega arith, λ k at h. inr (inl (k, refl, h)))
side_at false (Block ty body rest) e = (1, omega arith, λ k at h. inr (inl (k, refl, h)))
side_at true (Loop ty body rest) e = (1, omega arith, λ k at h. inr (inl (k, refl, h)))
side_at false (Loop ty body rest) e = (1, omega arith, λ k at h. inr (inl (k, refl, h)))
side_at true (Choice ty one other rest) e = (1 + count_of one, omega arith, λ k at h. inr (inr (inl (k, refl, h))))
side_at false (Choice ty one other rest) e = (1, omega arith, λ k at h. inr (inl (k, refl, h)))

-- ---- the blocks of a frame
abbrev pub Own : Code → List Level → Code → Type 0
Own whole [] at = Part whole at
Own whole (level.Block c second ∷ ls) at = Part whole c × (holds c ≡ true) × Own (side second c) ls at
Own whole (level.Call f b ∷ ls) at = ⊥

pub own_at : (whole : Code) (ls : List Level) (at : Code) → Own whole ls at
    → (n : ℕ) × (n + (count_of at + sum_by behind ls) ≡ count_of whole) × IsAt whole n at
own_at whole [] at p = (p.before, omega (arith, p.counted), p.stands)
own_at whole (level.Call f b ∷ ls) at p = absurd p
own_at whole (level.Block c second ∷ ls) at (p, b, inner) =
    let i = own_at (side second c) ls at inner in
    let s = side_at second c b in (
      p.before + (s.0 + i.0),
      omega (arith, p.counted, i.1, s.1, sum_by-cons behind (level.Block c second) ls),
      at_trans whole c at p.before (s.0 + i.0) p.stands (s.2 i.0 at i.2),
    )
