-- WebAssembly Core 1.0, "Functions": what is seen of a function's body.
use Rattle.std.specs.Prelude.{List}
use Rattle.nr_wasmtypes.specs.declared.instr.ValType.{ValType}
use Rattle.nr_wasmtypes.specs.Code.{Code}

pub record Body : Type 0 where
  pub locals : List ValType
  pub code : Code
