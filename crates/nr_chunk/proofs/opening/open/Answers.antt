-- The goals of `opening::open` that no tactic closes.
use Rattle.std.proofs.Common.{ap, ◌∙◌}
use Rattle.nr_chunk.specs.Chunk.{convert_all}
use Rattle.nr_chunk.specs.Views.{Working}
use Rattle.nr_chunk.specs.Works.{working_of}
use Rattle.nr_chunk.proofs.Converted.{opens, with_local}
use Rattle.nr_chunk.proofs.opening.open.Goals as goal

pub returns-clause-opened : goal.returns-clause-opened
returns-clause-opened g c =
    let config = c.args.chain.now.config in
    opens config (g.C.Caller.meaning c.args.chain.now.caller) _ c.args.txs.now
    (record { working = working_of c.convert_all.new.work; local = c.of.result }) (working_of c.serve_all.new.work) _
    (ap (with_local (working_of c.convert_all.new.work)) c.of.ensures ∙ c.in_ok-local.ensures.converted ∙ ap (λ (k : Working). convert_all config k c.args.txs.now) c.begin-work.ensures.begun)
    (c.in_ok-serve_all.ensures.served) c.in_ok-serve_delayed.ensures.served
