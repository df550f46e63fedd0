-- The workers of all shards, in order of number. This project's own.
use Rattle.std.specs.Prelude.{◌≡◌, List, box_value}
use Rattle.std.specs.Global.{Box}
use Rattle.nr_overlap.specs.Rules.{Rules}
use Rattle.nr_exchange.specs.declared.planned.Serial.{Serial}
use Rattle.nr_exchange.specs.Views.{ExchangeView, PortView}
use Rattle.nr_workers.specs.Each.{Each}
use Rattle.nr_workers.specs.Stages.{IsFresh, IsWorkerOf}
use Rattle.nr_workers.specs.declared.worker.Worker.{Worker}

module _ {P W K L R : Type 0} (rules : P → Rules W K L R) (e : ExchangeView (Serial P W K L R)) where
  abbrev pub AreFresh : List (PortView (Serial P W K L R)) → Type 0
  AreFresh ports = Each (λ s port. IsFresh rules e port × (port.note.shard ≡ s)) ports

  abbrev pub AreWorkers : List (Box (Worker P W K L R)) → Type 0
  AreWorkers ws = Each (λ s w. IsWorkerOf rules e s (box_value w)) ws
