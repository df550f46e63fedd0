-- What contracts see of a core: its phases, where each shard stands, and whether want of memory was met. This
-- project's own.
use Rattle.std.specs.Prelude.{◌≡◌, ℕ, zero, suc, Bool, List, refl}
use Rattle.std.specs.Coded.{Coded, code_by, coded×, coded_ℕ, coded_bool, coded_list}
use Rattle.nr_overlap.specs.Positions.{stage_number}
use Rattle.nr_overlap.specs.declared.position.Stage.{Stage}
use Rattle.nr_overlap.specs.declared.position.Stage.TheVariants.{Idle, Opened, Sealed}
use Rattle.nr_overlap.specs.declared.position.Position.{Position}

pub record CoreView (P : Type 0) : Type 0 where
  pub phases : P
  pub positions : List Position
  pub lost : Bool

abbrev pub stage_of : ℕ → Stage
stage_of zero = Idle
stage_of (suc zero) = Opened
stage_of (suc (suc n)) = Sealed

abbrev pub stage_back : (s : Stage) → stage_of (stage_number s) ≡ s
stage_back Idle = refl
stage_back Opened = refl
stage_back Sealed = refl

abbrev pub position_code : Coded Position
position_code =
    code_by (ℕ × (ℕ × ℕ)) (coded× coded_ℕ (coded× coded_ℕ coded_ℕ)) (λ p. (p.number, (stage_number p.stage, p.taken)))
    (λ q. record { number = q.0; stage = stage_of q.1.0; taken = q.1.1 })
    (λ p i. record { number = p.number; stage = stage_back p.stage i; taken = p.taken })

abbrev pub core_code : {P : Type 0} → Coded P → Coded (CoreView P)
core_code {P} p =
    code_by (P × (List Position × Bool)) (coded× p (coded× (coded_list position_code) coded_bool))
    (λ v. (v.phases, (v.positions, v.lost))) (λ q. record { phases = q.0; positions = q.1.0; lost = q.1.1 }) (λ _. refl)
