-- The goals of `top::serve_words` that no tactic closes.
use Rattle.std.proofs.Common.{Option, refl, subst}
use Rattle.nr_files.specs.Answers.{Serves}
use Rattle.nr_shell.proofs.Leading.{begun}
use Rattle.nr_words.specs.Command.{Names}
use Rattle.nr_words.specs.Words.{texts}
use Rattle.nr_jsonrun.specs.Plans.{plan, plan_by}
use Rattle.nr_jsonrun.proofs.top.serve_words.Goals as goal

pub returns-in-Ok-clause-serves : goal.returns-in-Ok-clause-serves
returns-in-Ok-clause-serves g c =
    subst (λ (found : Option Names). Serves c.serve_found.result (plan_by (texts c.args.words.now) found) (g.S.Shelf.held c.args.shelf.now) (g.S.Shelf.asked c.args.shelf.now) (g.S.Shelf.asked c.serve_found.new.shelf) (g.K.Sink.taken c.args.sink.now) (g.K.Sink.taken c.serve_found.new.sink))
    c.in-Ok.ensures c.serve_found.ensures.serves

pub returns-in-Err-clause-serves : goal.returns-in-Err-clause-serves
returns-in-Err-clause-serves g c = (begun (g.S.Shelf.held c.args.shelf.now) (g.S.Shelf.asked c.args.shelf.now) (plan (texts c.args.words.now)), refl)
