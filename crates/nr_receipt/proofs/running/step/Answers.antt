-- The goals of `running::step` that no tactic closes.
use Rattle.nr_receipt.proofs.Stepping.{room_at, goes_on_at}
use Rattle.nr_receipt.proofs.Underway.{laws_for}
use Rattle.nr_receipt.proofs.running.step.Goals as goal

pub apply-requires-clause-room : goal.apply-requires-clause-room
apply-requires-clause-room g c = room_at c.args.config.now c.args.index c.args.state.now.world c.args.frame.now c.requires.can (λ id deposit h. c.action_laws.ensures.room c.args.config.now c.args.state.now.world id deposit h)

pub returns-in-Ok-clause-can : goal.returns-in-Ok-clause-can
returns-in-Ok-clause-can g c =
    let laws = laws_for c.args.config.now (g.C.Caller.config c.args.caller.now) (g.C.Caller.meaning c.args.caller.now) c.requires.caller (g.met.C.Caller.law c.args.caller.now) c.action_laws.ensures.done c.action_laws.ensures.failed in
    (goes_on_at c.args.config.now (g.C.Caller.meaning c.args.caller.now) laws c.args.index c.args.state.now.world c.args.frame.now c.requires.can c.apply.new.state.world c.apply.new.frame c.attached_at-gas.result c.attached_at-gas.type_inv
    c.args.state.now c.apply.new.state c.requires.index c.in-Ok.ensures c.attached_at-gas.ensures).can

pub returns-in-Ok-clause-same : goal.returns-in-Ok-clause-same
returns-in-Ok-clause-same g c =
    let laws = laws_for c.args.config.now (g.C.Caller.config c.args.caller.now) (g.C.Caller.meaning c.args.caller.now) c.requires.caller (g.met.C.Caller.law c.args.caller.now) c.action_laws.ensures.done c.action_laws.ensures.failed in
    (goes_on_at c.args.config.now (g.C.Caller.meaning c.args.caller.now) laws c.args.index c.args.state.now.world c.args.frame.now c.requires.can c.apply.new.state.world c.apply.new.frame c.attached_at-gas.result c.attached_at-gas.type_inv
    c.args.state.now c.apply.new.state c.requires.index c.in-Ok.ensures c.attached_at-gas.ensures).same
