-- The goals of `top::serve_call` that no tactic closes.
use Rattle.nr_shell.specs.Plans.{Answer}
use Rattle.nr_module.specs.Command.{call_in, named_request}
use Rattle.nr_module.specs.Plans.{call_plan, tried_in}
use Rattle.nr_module.proofs.Ending.{told_end}
use Rattle.nr_module.proofs.top.serve_call.Goals as goal

pub returns-in-Ok-clause-serves : goal.returns-in-Ok-clause-serves
returns-in-Ok-clause-serves g c =
    told_end (call_plan (call_in c.args.names.now)) (g.S.Shelf.held c.args.shelf.now) (g.S.Shelf.asked c.args.shelf.now) (g.S.Shelf.asked c.loaded_of.new.shelf)
    (g.K.Sink.taken c.args.sink.now) (g.K.Sink.taken c.tell.new.sink) (Answer (tried_in (named_request c.args.names.now) c.in-Ok.loaded)) c.call_line.result c.tell.result
    c.in-Ok.ensures.answers c.call_line.ensures c.tell.ensures.told
