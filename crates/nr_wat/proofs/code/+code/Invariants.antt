-- What holds at the loops of `code::code`.
use Rattle.std.proofs.Common.{◌≡◌, ◌++◌, string_bytes, drop}
use Rattle.nr_wasmtypes.specs.Code.{code_of}
use Rattle.nr_wat.specs.Instructions.{code_text}
use Rattle.nr_wat.proofs.code.+code.Given as goal

abbrev pub invariant-print_code-loop-index : goal.invariant-print_code-loop-index
invariant-print_code-loop-index l =
    string_bytes l.text ++ code_text l.margin (code_of (drop l.index l.code.items))
    ≡ string_bytes l.fn.text ++ code_text l.margin (code_of l.code.items)
