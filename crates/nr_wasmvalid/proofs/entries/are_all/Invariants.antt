-- What holds at the loops of `entries::are_all`.
use Rattle.std.proofs.Common.{◌≡◌, drop}
use Rattle.std.specs.List.{list_all}
use Rattle.nr_wasmvalid.specs.Rules.{same_type}
use Rattle.nr_wasmvalid.proofs.entries.are_all.Given as goal

abbrev pub invariant-loop-one : goal.invariant-loop-one
invariant-loop-one l =
    list_all (λ k. same_type k l.kind) (drop l.one-index l.kinds) ≡ list_all (λ k. same_type k l.kind) l.kinds
