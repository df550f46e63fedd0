-- The plan of a serial run, by the rules of its phases. After the Nomicon, Chain Specification (Chunks and
-- cross-shard receipts).
use Rattle.nr_overlap.specs.Rules.{Rules}
use Rattle.nr_exchange.specs.declared.planned.Serial.{Serial}
use Rattle.nr_exchange.specs.Plan.{Plan, plan_of}

abbrev pub serial_plan : {P W K L R : Type 0} → (P → Rules W K L R) → Serial P W K L R → Plan L
serial_plan rules run = plan_of (rules run.0)
