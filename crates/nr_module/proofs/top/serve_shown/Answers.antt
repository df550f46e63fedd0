-- The goals of `top::serve_shown` that no tactic closes.
use Rattle.nr_shell.specs.Plans.{Answer}
use Rattle.nr_module.specs.Plans.{shown_in, shown_plan}
use Rattle.nr_module.proofs.Ending.{told_end}
use Rattle.nr_module.proofs.top.serve_shown.Goals as goal

pub returns-in-Ok-clause-serves : goal.returns-in-Ok-clause-serves
returns-in-Ok-clause-serves g c =
    told_end (shown_plan c.args.view c.args.file.now) (g.S.Shelf.held c.args.shelf.now) (g.S.Shelf.asked c.args.shelf.now) (g.S.Shelf.asked c.shown_of.new.shelf)
    (g.K.Sink.taken c.args.sink.now) (g.K.Sink.taken c.tell.new.sink) (Answer (shown_in c.in-Ok.shown)) c.shown_line.result c.tell.result
    c.in-Ok.ensures.answers c.shown_line.ensures c.tell.ensures.told
