-- Workers in threads or not. This project's own.
use Rattle.std.specs.Prelude.{◌≡◌, ℕ, box_value}
use Rattle.nr_overlap.specs.Rules.{Rules}
use Rattle.nr_exchange.specs.declared.planned.Serial.{Serial}
use Rattle.nr_exchange.specs.Views.{ExchangeView}
use Rattle.nr_workers.specs.Stages.{IsWorkerOf}
use Rattle.nr_workers.specs.declared.crew.Started.{Started}
use Rattle.nr_workers.specs.declared.crew.Started.TheVariants.{Thread, Here}

module _ {P W K L R : Type 0} (rules : P → Rules W K L R) (e : ExchangeView (Serial P W K L R)) where
  -- the worker of shard s, or the thread that promises it
  abbrev pub IsStartedAs : ℕ → Started P W K L R → Type 0
  IsStartedAs s (Thread handle) = (handle.promise.exchange.value ≡ e) × (handle.promise.shard ≡ s)
  IsStartedAs s (Here worker) = IsWorkerOf rules e s (box_value worker)
