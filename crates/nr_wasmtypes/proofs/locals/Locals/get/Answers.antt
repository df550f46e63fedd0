-- Answers for `locals::Locals::get`.
use Rattle.std.proofs.Common.{rules, leb, subst, sym, ap, ◌∙◌, List, arith}
use Rattle.std.specs.Prelude.{slice_get}
use Rattle.std.proofs.lemmas.List.Sorted.{IsPartitionPoint-from_clause, IsPartitionedBy-leb}
use Rattle.std.specs.List.Sorted.{IsPartitionedBy}
use Rattle.nr_wasmtypes.specs.declared.instr.ValType.{ValType}
use Rattle.nr_wasmtypes.specs.declared.locals.Run.{Run}
use Rattle.nr_wasmtypes.proofs.OnRuns.{ascending, found_at, lost_at}
use Rattle.nr_wasmtypes.proofs.locals.Locals.get.Goals as goal

pub returns : goal.returns
returns c =
    let rs = c.self.inside.runs.items in
    let parted : IsPartitionedBy (λ (r : Run). leb r.end c.args.number) c.deref.result.now =
    subst (IsPartitionedBy (λ (r : Run). leb r.end c.args.number)) (sym c.deref.ensures.value)
    (IsPartitionedBy-leb (λ (r : Run). r.end) rs c.args.number (ascending 0 c.self.inside.count rs c.self.invariant)) in
    let point = IsPartitionPoint-from_clause (λ (r : Run). leb r.end c.args.number) _ _ c.partition_point-place.ensures.partitioned parted (λ a r q k. search rules) in
    lost_at c.self.inside.count rs c.partition_point-place.result c.args.number c.self.invariant (omega (arith, c.len.ensures, c.if-place-len.false)) (rw (sym c.deref.ensures.value) point.0)
    ∙ ap (λ (ts : List ValType). slice_get ts c.args.number) c.self.view_is

pub returns-then-place-len : goal.returns-then-place-len
returns-then-place-len c =
    let rs = c.self.inside.runs.items in
    let parted : IsPartitionedBy (λ (r : Run). leb r.end c.args.number) c.deref.result.now =
    subst (IsPartitionedBy (λ (r : Run). leb r.end c.args.number)) (sym c.deref.ensures.value)
    (IsPartitionedBy-leb (λ (r : Run). r.end) rs c.args.number (ascending 0 c.self.inside.count rs c.self.invariant)) in
    let point = IsPartitionPoint-from_clause (λ (r : Run). leb r.end c.args.number) _ _ c.partition_point-place.ensures.partitioned parted (λ a r q k. search rules) in
    let place = c.partition_point-place.result in
    found_at c.self.inside.count rs place c.args.number c.index.result.now c.self.invariant (omega (arith, c.len.ensures, c.if-place-len.true)) (rw (sym c.deref.ensures.value) point.0) (rw (sym c.deref.ensures.value) point.1) c.index.ensures
    ∙ ap (λ (ts : List ValType). slice_get ts c.args.number) c.self.view_is
