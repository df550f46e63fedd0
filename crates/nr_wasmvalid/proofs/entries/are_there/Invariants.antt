-- What holds at the loops of `entries::are_there`.
use Rattle.std.proofs.Common.{◌≡◌, drop, is_some, slice_get}
use Rattle.std.specs.List.{list_all}
use Rattle.nr_wasmvalid.proofs.entries.are_there.Given as goal

abbrev pub invariant-loop-func : goal.invariant-loop-func
invariant-loop-func l =
    list_all (λ f. is_some (slice_get l.funcs f)) (drop l.func-index l.wanted) ≡ list_all (λ f. is_some (slice_get l.funcs f)) l.wanted
