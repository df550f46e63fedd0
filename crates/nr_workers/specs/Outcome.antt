-- The ports of workers that have done all. This project's own.
use Rattle.std.specs.Prelude.{◌≡◌, ℕ, ◌<◌, List, Some, length, slice_get}
use Rattle.nr_overlap.specs.Rules.{Rules}
use Rattle.nr_overlap.specs.Serial.{last_present}
use Rattle.nr_exchange.specs.declared.planned.Serial.{Serial}
use Rattle.nr_exchange.specs.SerialPlan.{serial_plan}
use Rattle.nr_exchange.specs.Notes.{link}
use Rattle.nr_exchange.specs.Views.{ExchangeView, PortView}
use Rattle.nr_exchange.specs.Ports.{IsPortOf}

module _ {P W K L R : Type 0} (rules : P → Rules W K L R) (e : ExchangeView (Serial P W K L R)) where
  -- the port of a shard that has published every height, and has claimed the last list of every source
  pub record HasDoneAll (s : ℕ) (port : PortView (Serial P W K L R)) : Type 0 where
    pub port_of : IsPortOf (serial_plan rules) e port
    pub shard_is : port.note.shard ≡ s
    pub published : port.note.number ≡ (rules e.run.0).heights
    pub claimed : (t : ℕ) → t < (rules e.run.0).shards → (link port.note t).claimed
        ≡ last_present (rules e.run.0) t (rules e.run.0).heights

  -- the ports of all shards, in order of number
  pub record HaveDoneAll (ports : List (PortView (Serial P W K L R))) : Type 0 where
    pub all : length ports ≡ (rules e.run.0).shards
    pub each : (s : ℕ) (port : PortView (Serial P W K L R)) → slice_get ports s ≡ Some port → HasDoneAll s port
