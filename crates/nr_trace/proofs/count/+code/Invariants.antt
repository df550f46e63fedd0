-- What holds at the loops of `count::code`.
use Rattle.std.proofs.Common.{◌≡◌, ◌+◌, drop}
use Rattle.nr_wasmtypes.specs.Code.{code_of, count_of}
use Rattle.nr_trace.proofs.count.+code.Given as goal

abbrev pub invariant-count_body-loop-index : goal.invariant-count_body-loop-index
invariant-count_body-loop-index l =
    l.count + count_of (code_of (drop l.index l.code.items)) ≡ l.so_far + count_of (code_of l.code.items)
