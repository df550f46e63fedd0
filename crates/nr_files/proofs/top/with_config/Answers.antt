-- The goals of `top::with_config` that no tactic closes.
use Rattle.std.proofs.Common.{sym, subst, Result}
use Rattle.nr_shell.specs.Answers.{Follows}
use Rattle.nr_shell.specs.declared.stop.Stop.{Stop}
use Rattle.nr_files.specs.Answers.{output_in, refuses}
use Rattle.nr_files.specs.Command.{request_in}
use Rattle.nr_files.specs.Plans.{by_config}
use Rattle.nr_files.specs.declared.output.Output.{Output}
use Rattle.nr_files.specs.declared.status.Status.{Status}
use Rattle.nr_files.proofs.Asking.{by_config_asks}
use Rattle.nr_files.proofs.Last.{file_last, unread}
use Rattle.nr_files.proofs.top.with_config.Goals as goal

pub returns-clause-follows : goal.returns-clause-follows
returns-clause-follows g c =
    let plan = by_config (request_in c.args.request.now) c.args.config.now in
    subst (λ (r : Result Output (Stop Status)). Follows refuses output_in (g.S.Shelf.held c.args.shelf.now) (g.S.Shelf.held c.loaded.new.shelf) (g.S.Shelf.asked c.args.shelf.now) (g.S.Shelf.asked c.loaded.new.shelf) (g.S.Shelf.faults c.args.shelf.now) (g.S.Shelf.faults c.loaded.new.shelf) r plan)
    (sym c.at_file.ensures.same) c.loaded.ensures

pub returns-clause-names : goal.returns-clause-names
returns-clause-names g c =
    let held = g.S.Shelf.held c.args.shelf.now in
    let old = g.S.Shelf.asked c.args.shelf.now in
    let new = g.S.Shelf.asked c.loaded.new.shelf in
    let plan = by_config (request_in c.args.request.now) c.args.config.now in
    c.at_file.ensures.names new
    (λ e. file_last held old new c.args.request.now.file.now plan (by_config_asks (request_in c.args.request.now) c.args.config.now) (unread refuses output_in held old new plan c.loaded.result c.loaded.ensures.answers e))
