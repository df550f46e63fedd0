-- The goals of `running::ride` that no tactic closes.
use Rattle.std.proofs.Common.{◌*◌, arith}
use Rattle.std.proofs.lemmas.Nat.{mul-le}
use Rattle.nr_wasmexec.specs.Machine.{rules_of}
use Rattle.nr_wasmexec.proofs.Paying.{rides, calms}
use Rattle.nr_wasmexec.proofs.running.ride.Goals as goal

pub pay-requires-clause-fits : goal.pay-requires-clause-fits
pay-requires-clause-fits g c =
    let cost = c.args.limits.cost in
    let below = mul-le cost c.row-ran.result.0 cost c.most_of-most.result (omega arith) c.row-ran.ensures.few in
    omega (arith, below, c.most_of-most.ensures)

pub returns-clause-rides : goal.returns-clause-rides
returns-clause-rides g c =
    rides (rules_of g.H.Host.meaning c.args.program.now c.args.limits) g.met.H.Host.law c.args.guest.now
    (c.args.limits.cost * c.row-ran.result.0) c.args.thread.now c.row-ran.new.thread c.row-ran.result.1 c.pay.result
    (g.H.Host.state c.args.host.now) (g.H.Host.state c.pay.new.host) c.row-ran.ensures.rows c.pay.ensures.pays

pub returns-clause-falls : goal.returns-clause-falls
returns-clause-falls g c =
    calms (rules_of g.H.Host.meaning c.args.program.now c.args.limits) g.met.H.Host.law c.args.guest.now
    (c.args.limits.cost * c.row-ran.result.0) c.args.thread.now c.row-ran.new.thread c.row-ran.result.1 c.pay.result
    (g.H.Host.state c.args.host.now) (g.H.Host.state c.pay.new.host) c.row-ran.ensures.rows c.pay.ensures.pays
