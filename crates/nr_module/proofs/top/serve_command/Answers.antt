-- The goals of `top::serve_command` that no tactic closes.
use Rattle.nr_shell.proofs.Leading.{stays}
use Rattle.nr_module.proofs.Ending.{told_end}
use Rattle.nr_module.proofs.top.serve_command.Goals as goal

pub returns-in-Text-clause-serves : goal.returns-in-Text-clause-serves
returns-in-Text-clause-serves g c =
    rw c.in-Text.is (told_end _ (g.S.Shelf.held c.args.shelf.now) (g.S.Shelf.asked c.args.shelf.now) (g.S.Shelf.asked c.args.shelf.now)
    (g.K.Sink.taken c.args.sink.now) (g.K.Sink.taken c.tell.new.sink) _ c.text_line.result c.tell.result
    (stays _ _ _) c.text_line.ensures c.tell.ensures.told)
