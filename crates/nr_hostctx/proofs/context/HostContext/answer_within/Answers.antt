-- The goals of `context::HostContext::answer_within` that no tactic closes.
use Rattle.nr_hostctx.proofs.Answering.{leaves_gas}
use Rattle.nr_hostctx.proofs.context.HostContext.answer_within.Goals as goal

pub returns-clause-gas : goal.returns-clause-gas
returns-clause-gas g c =
    leaves_gas {S = g.row.S.Denot} {G = g.S.Store} c.args.f c.args.args.now c.answer.result
    c.args.self.now c.answer.new.self c.answer.ensures.does
