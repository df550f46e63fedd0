-- What holds at the loops of `count::count_code`.
use Rattle.std.proofs.Common.{◌≡◌, ◌+◌, drop}
use Rattle.nr_wasmtypes.specs.Code.{code_of, count_of}
use Rattle.nr_trace.proofs.count.count_code.Given as goal

abbrev pub invariant-loop-index : goal.invariant-loop-index
invariant-loop-index l =
    l.count + count_of (code_of (drop l.index l.code)) ≡ l.so_far + count_of (code_of l.code)
