-- The goals of `reading::boundaries_of` that no tactic closes.
use Rattle.std.proofs.Common.{None}
use Rattle.std.proofs.lemmas.Result.{err_from_is_err_and}
use Rattle.nr_layout.specs.Reading.{boundaries_at}
use Rattle.nr_layout.proofs.Boundaries.{goes_on, ends, is_done, last_of}
use Rattle.nr_layout.proofs.reading.boundaries_of.Goals as goal

pub returns-in_err-boundary : goal.returns-in_err-boundary
returns-in_err-boundary c =
    let p = err_from_is_err_and c.from_residual.result c.from_residual.ensures.1 in
    rw (p.1, p.2) (λ other. ends c.loop.boundaries.items c.deref.result.now c.args.count c.loop.counter c.loop.reader c.in_err-boundary.field-0.0 (boundaries_at None c.args.count c.args.reader.now) c.deref.ensures.value c.loop-test.true (c.in_err-boundary.ensures other) c.loop.invariant)

pub loop-preserved : goal.loop-preserved
loop-preserved c =
    rw c.in_ok-push.ensures.items (goes_on c.loop.boundaries.items c.deref.result.now c.args.count c.loop.counter c.loop.reader c.in_ok-boundary.boundary c.boundary_of.new.reader (boundaries_at None c.args.count c.args.reader.now) c.deref.ensures.value c.loop-test.true c.in_ok-boundary.ensures c.loop.invariant)

pub returns : goal.returns
returns c = is_done c.loop.boundaries.items (last_of c.loop.boundaries.items) c.args.count c.loop.counter c.loop.reader (boundaries_at None c.args.count c.args.reader.now) c.loop-test.false c.loop.invariant
