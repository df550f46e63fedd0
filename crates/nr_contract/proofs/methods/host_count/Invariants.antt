-- What holds at the loops of `methods::host_count`.
use Rattle.std.proofs.Common.{◌≡◌, ◌≤◌, ◌+◌, drop, length}
use Rattle.nr_wasmexec.specs.Functions.{links}
use Rattle.nr_contract.proofs.methods.host_count.Given as goal

abbrev pub invariant-loop-import : goal.invariant-loop-import
invariant-loop-import l =
    (l.count + length (links (drop l.import-index l.imports)) ≡ length (links l.imports)) × (l.count ≤ l.import-index)
