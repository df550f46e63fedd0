-- What a worker that has done all comes to. This project's own.
use Rattle.std.specs.Prelude.{◌≡◌, ℕ, List}
use Rattle.nr_overlap.specs.Rules.{Rules}
use Rattle.nr_overlap.specs.Serial.{first_due, world_after}
use Rattle.nr_exchange.specs.declared.planned.Serial.{Serial}
use Rattle.nr_exchange.specs.Views.{ExchangeView}
use Rattle.nr_overlap.specs.Outcome.{reports_to}
use Rattle.nr_workers.specs.Outcome.{HasDoneAll}
use Rattle.nr_workers.specs.Left.{HasLeft}
use Rattle.nr_workers.specs.Each.{Each}
use Rattle.nr_workers.specs.declared.left.Left.{Left}
use Rattle.nr_workers.specs.declared.done.Share.{Share}

pub record IsShareOf {P W K L R : Type 0} (rules : P → Rules W K L R) (e : ExchangeView (Serial P W K L R)) (s : ℕ)
    (share : Share P W K L R) : Type 0 where
  pub port_is : HasDoneAll rules e s share.port
  pub world_is : share.world ≡ world_after (rules e.run.0) s (rules e.run.0).heights
  pub reports_are : share.reports ≡ reports_to (rules e.run.0) s (rules e.run.0).heights
  pub left_is : HasLeft (rules e.run.0) s (first_due (rules e.run.0) s (rules e.run.0).heights)
      (rules e.run.0).heights 0 share.left

-- the lists of all shards that no chunk takes, in order of number
abbrev pub HaveLeft : {W K L R : Type 0} → Rules W K L R → List (Left L) → Type 0
HaveLeft r lefts = Each (λ s left. HasLeft r s (first_due r s r.heights) r.heights 0 left) lefts
