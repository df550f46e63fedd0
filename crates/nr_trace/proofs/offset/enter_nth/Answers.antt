-- The goals of `offset::enter_nth` that no tactic closes.
use Rattle.std.proofs.Common.{sym, subst}
use Rattle.std.proofs.lemmas.Result.{err_from_is_err_and}
use Rattle.nr_bytes.specs.Reading.{Input}
use Rattle.nr_wasmbin.specs.Fields.{Gives, Read}
use Rattle.nr_trace.specs.Offsets.{nth_at}
use Rattle.nr_trace.proofs.OnOffsets.{nth_goes_on, nth_is, nth_stops}
use Rattle.nr_trace.proofs.offset.enter_nth.Goals as goal

pub returns-in_err-pass_body : goal.returns-in_err-pass_body
returns-in_err-pass_body c =
    let p = err_from_is_err_and c.from_residual.result c.from_residual.ensures.1 in
    rw (p.1, p.2) (λ other. nth_stops c.args.number c.loop.counter c.loop.cursor _ (nth_at c.args.number c.args.cursor.now) c.loop-test.true (c.in_err-pass_body.ensures other) c.loop.invariant)

pub loop-preserved : goal.loop-preserved
loop-preserved c = nth_goes_on c.args.number c.loop.counter c.loop.cursor c.pass_body.new.cursor (nth_at c.args.number c.args.cursor.now) c.loop-test.true c.in_ok-pass_body.ensures c.loop.invariant

pub returns : goal.returns
returns c =
    let is = nth_is c.args.number c.loop.counter c.loop.cursor (nth_at c.args.number c.args.cursor.now) c.loop-test.false c.loop.invariant in
    subst (λ (r : Read Input). Gives c.sized.result c.sized.new.self r) (sym is) c.sized.ensures.gives
