-- The goals of `running::run_all` that no tactic closes.
use Rattle.std.proofs.Common.{◌<◌, ◌≤◌, length, sym, ◌∙◌, arith}
use Rattle.std.proofs.lemmas.Result.{err_from_is_err_and}
use Rattle.nr_receipt.proofs.Stepping.{fails_all, run_out, runs_on, stands_at}
use Rattle.nr_receipt.proofs.running.run_all.Goals as goal

pub returns-in_err-step : goal.returns-in_err-step
returns-in_err-step g c =
    let inside : c.loop-index.index < length c.loop-index.frame.act.actions = rw c.loop-index.invariant.act (omega (arith, c.loop-index-test.true, c.requires.count)) in
    let p = err_from_is_err_and c.from_residual.result c.from_residual.ensures.1 in
    rw (p.1, p.2)
    (fails_all c.args.config.now (g.C.Caller.meaning c.args.caller.now) c.args.state.now c.args.frame.now c.loop-index.index c.loop-index.state c.step.new.state c.loop-index.frame c.step.new.frame inside c.loop-index.invariant.runs c.loop-index.invariant.stands c.args.count c.in_err-step.field-0.0 c.in_err-step.ensures.steps)

pub loop-index-preserved : goal.loop-index-preserved
loop-index-preserved g c =
    let inside : c.loop-index.index < length c.loop-index.frame.act.actions = rw c.loop-index.invariant.act (omega (arith, c.loop-index-test.true, c.requires.count)) in
    record {
      can = c.in_ok-step.ensures.can;
      runs = runs_on c.args.config.now (g.C.Caller.meaning c.args.caller.now) c.args.state.now c.args.frame.now c.loop-index.index c.loop-index.state c.step.new.state c.loop-index.frame c.step.new.frame inside c.loop-index.invariant.runs c.loop-index.invariant.stands
          (record { can = c.in_ok-step.ensures.can; same = c.in_ok-step.ensures.same }) c.in_ok-step.ensures.steps;
      stands = stands_at c.args.config.now (g.C.Caller.meaning c.args.caller.now) c.args.state.now c.args.frame.now c.loop-index.index c.loop-index.state c.step.new.state c.loop-index.frame c.step.new.frame inside c.loop-index.invariant.runs c.loop-index.invariant.stands c.in_ok-step.ensures.steps;
      act = c.in_ok-step.ensures.same ∙ c.loop-index.invariant.act;
    }

pub returns : goal.returns
returns g c =
    let past : length c.loop-index.frame.act.actions ≤ c.loop-index.index = rw c.loop-index.invariant.act (omega (arith, c.loop-index-test.false, c.requires.count)) in (
      sym c.loop-index.invariant.runs ∙ run_out c.args.config.now (g.C.Caller.meaning c.args.caller.now) c.loop-index.index c.loop-index.state.world c.loop-index.frame c.loop-index.frame.act.actions past,
      c.loop-index.invariant.stands,
      rw c.loop-index.invariant.act (sym c.requires.count),
    )
