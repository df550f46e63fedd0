-- The goals of `running::row` that no tactic closes.
use Rattle.std.proofs.Common.{◌+◌, ◌*◌, sym, subst, arith}
use Rattle.nr_wasmexec.specs.Place.{Place}
use Rattle.nr_wasmexec.specs.Machine.{rules_of}
use Rattle.nr_wasmexec.specs.Rows.{IsRow}
use Rattle.nr_wasmexec.proofs.Paying.{more_due, row_none, row_on, row_cut}
use Rattle.nr_wasmexec.proofs.Room.{keeps_none, keeps_more, not_large}
use Rattle.nr_wasmexec.proofs.running.row.Goals as goal

pub steps-init : goal.steps-init
steps-init g c = record {
  few = omega arith;
  row = row_none (rules_of g.H.Host.meaning c.args.program.now c.args.limits) g.met.H.Host.law c.args.guest.now
      (c.args.limits.cost * 0) c.args.thread.now (omega arith);
  room = keeps_none c.args.thread.now;
}

pub returns-in-None-clause-rows : goal.returns-in-None-clause-rows
returns-in-None-clause-rows g c =
    let w = rules_of g.H.Host.meaning c.args.program.now c.args.limits in
    subst (λ (q : Place). IsRow w c.args.guest.now (c.args.limits.cost * c.steps.ran) c.args.thread.now q)
    (sym c.in-None.ensures.quiet) c.steps.invariant.row

pub steps-preserved : goal.steps-preserved
steps-preserved g c =
    let w = rules_of g.H.Host.meaning c.args.program.now c.args.limits in
    let small = not_large c.args.limits.max_frames c.args.limits.max_values c.args.thread.now c.steps.thread
    c.room-fit.result c.steps.ran c.room-fit.ensures.frames c.room-fit.ensures.held c.steps-test.true c.steps.invariant.room in
    record {
      few = omega (arith, c.steps-test.true);
      row = row_on w g.met.H.Host.law c.args.guest.now (c.args.limits.cost * c.steps.ran)
          (c.args.limits.cost * (c.steps.ran + 1)) c.args.thread.now c.steps.thread c.next_quiet.new.thread
          (more_due c.args.limits.cost c.steps.ran) c.requires c.steps.invariant.row small
          c.in-Some-Ok.ensures.begun (rw c.in-Some-Ok.field-0-is at c.in-Some-Ok.ensures.quiet);
      room = keeps_more c.args.program.now c.args.guest.now c.args.thread.now c.steps.thread c.next_quiet.new.thread
          c.steps.ran c.steps.invariant.room c.in-Some-Ok.ensures.calm
          (rw c.in-Some-Ok.field-0-is at c.in-Some-Ok.ensures.quiet);
    }

pub returns-in-Some-Err-clause-rows : goal.returns-in-Some-Err-clause-rows
returns-in-Some-Err-clause-rows g c =
    let w = rules_of g.H.Host.meaning c.args.program.now c.args.limits in
    let small = not_large c.args.limits.max_frames c.args.limits.max_values c.args.thread.now c.steps.thread
    c.room-fit.result c.steps.ran c.room-fit.ensures.frames c.room-fit.ensures.held c.steps-test.true c.steps.invariant.room in
    row_cut w g.met.H.Host.law c.args.guest.now (c.args.limits.cost * c.steps.ran)
    (c.args.limits.cost * (c.steps.ran + 1)) c.args.thread.now c.steps.thread c.next_quiet.new.thread
    c.in-Some-Err.stop (more_due c.args.limits.cost c.steps.ran) c.requires c.steps.invariant.row small
    c.in-Some-Err.ensures.begun (rw c.in-Some-Err.field-0-is at c.in-Some-Err.ensures.quiet)

pub returns-clause-rows : goal.returns-clause-rows
returns-clause-rows g c = c.steps.invariant.row
