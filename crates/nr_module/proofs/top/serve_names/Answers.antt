-- The goals of `top::serve_names` that no tactic closes.
use Rattle.nr_shell.specs.Plans.{Answer}
use Rattle.nr_module.specs.Command.{names_in}
use Rattle.nr_module.specs.Plans.{due_in, module_plan}
use Rattle.nr_module.proofs.Ending.{told_end}
use Rattle.nr_module.proofs.top.serve_names.Goals as goal

pub returns-in-Ok-clause-serves : goal.returns-in-Ok-clause-serves
returns-in-Ok-clause-serves g c =
    told_end (module_plan (names_in c.args.names.now)) (g.S.Shelf.held c.args.shelf.now) (g.S.Shelf.asked c.args.shelf.now) (g.S.Shelf.asked c.question_of.new.shelf)
    (g.K.Sink.taken c.args.sink.now) (g.K.Sink.taken c.tell.new.sink) (Answer (due_in c.in-Ok.question)) c.verdict_line.result c.tell.result
    c.in-Ok.ensures.answers c.verdict_line.ensures c.tell.ensures.told
