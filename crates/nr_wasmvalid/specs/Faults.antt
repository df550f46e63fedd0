-- Of this project's own: which fault names a refusal at a place.
use Rattle.std.specs.Prelude.{ℕ}
use Rattle.nr_wasmvalid.specs.declared.refusal.Refusal.{Refusal}
use Rattle.nr_wasmvalid.specs.declared.refusal.Refusal.TheVariants as refusal
use Rattle.nr_wasmvalid.specs.declared.refusal.BodyFault.{BodyFault}
use Rattle.nr_wasmvalid.specs.declared.refusal.BodyFault.TheVariants as fault

abbrev pub fault_at : ℕ → Refusal → BodyFault
fault_at place refusal.Types = fault.Types place
fault_at place refusal.Index = fault.Index place
fault_at place refusal.Label = fault.Label place
fault_at place refusal.Limit = fault.Limit place
fault_at place refusal.Memory = fault.Memory
