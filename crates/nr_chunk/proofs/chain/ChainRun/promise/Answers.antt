-- The goals of `chain::ChainRun::promise` that no tactic closes.
use Rattle.nr_chunk.proofs.chain.ChainRun.promise.Goals as goal

pub returns : goal.returns
returns g c =
    let config = c.args.self.now.config in
    let laws = c.execution_laws.ensures in
    record {
      executed = λ w r act inputs place valid is bounded room. laws.executed config (g.C.Caller.meaning c.args.self.now.caller) w r act inputs place c.known.ensures.config c.known.ensures.caller valid is bounded room;
      settled = λ r act place is bounded. laws.settled config r act place is bounded;
      offered = λ w r after o valid bounded room is. c.joining_laws.ensures.offered config w r after o valid bounded room is;
      delayed = λ w r valid bounded room. c.joining_laws.ensures.delayed config w r valid bounded room;
      served = λ w r valid first. c.joining_laws.ensures.served config w r valid first;
    }
