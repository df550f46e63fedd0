-- The reading function and the grammar.
use Rattle.std.proofs.Common.{◌≡◌, ℕ, List, length, Result, Ok, arith}
use Rattle.nr_wasmbin.proofs.ModuleLaws.{is_decoded}
use Rattle.nr_wasmbin.specs.Grammar.{IsModule}
use Rattle.nr_wasmbin.specs.Modules.{decoded}
use Rattle.nr_wasmbin.specs.declared.fault.DecodeFault.{DecodeFault}
use Rattle.nr_wasmtypes.specs.declared.module.Module.{Module}

same : (m n : Module) (r : Result Module DecodeFault) → r ≡ Ok m → r ≡ Ok n → m ≡ n
same m n r a b = cc

pub one : (bytes : List ℕ) (m n : Module) → IsModule bytes m → IsModule bytes n → m ≡ n
one bytes m n a b =
    let most = length bytes in
    same m n (decoded most bytes) (is_decoded most bytes m (omega arith) a) (is_decoded most bytes n (omega arith) b)
