-- The number by which the kind of a breach is told, and its function and place. This project's own.
use Rattle.std.specs.Prelude.{ℕ}
use Rattle.nr_wasmvalid.specs.declared.fault.ValidFault.{ValidFault}
use Rattle.nr_wasmvalid.specs.declared.fault.ValidFault.TheVariants as fault

abbrev pub valid_kind : ValidFault → ℕ
valid_kind (fault.Types func place) = 11
valid_kind (fault.Index func place) = 12
valid_kind (fault.Label func place) = 13
valid_kind (fault.Limit func place) = 14
valid_kind (fault.Import func place) = 15
valid_kind fault.Memory = 0

abbrev pub valid_func : ValidFault → ℕ
valid_func (fault.Types func place) = func
valid_func (fault.Index func place) = func
valid_func (fault.Label func place) = func
valid_func (fault.Limit func place) = func
valid_func (fault.Import func place) = func
valid_func fault.Memory = 0

abbrev pub valid_place : ValidFault → ℕ
valid_place (fault.Types func place) = place
valid_place (fault.Index func place) = place
valid_place (fault.Label func place) = place
valid_place (fault.Limit func place) = place
valid_place (fault.Import func place) = place
valid_place fault.Memory = 0
