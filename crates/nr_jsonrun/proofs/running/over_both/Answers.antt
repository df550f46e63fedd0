-- The goals of `running::over_both` that no tactic closes.
use Rattle.std.proofs.Common.{ℕ, List, sym, subst, Result}
use Rattle.nr_files.proofs.Last.{unread}
use Rattle.nr_files.specs.Answers.{EndsIn, output_in, refuses}
use Rattle.nr_files.specs.declared.output.Output.{Output}
use Rattle.nr_files.specs.declared.status.Status.{Status}
use Rattle.nr_shell.specs.Answers.{Follows}
use Rattle.nr_shell.specs.declared.stop.Stop.{Stop}
use Rattle.nr_jsonrun.proofs.Asking.{over_both_asks}
use Rattle.nr_jsonrun.proofs.Steps.{schedule_last}
use Rattle.nr_jsonrun.specs.Plans.{over_both}
use Rattle.nr_words.specs.Words.{names_in}
use Rattle.nr_jsonrun.proofs.running.over_both.Goals as goal

pub returns-clause-follows : goal.returns-clause-follows
returns-clause-follows g c =
    let plan = over_both (names_in c.args.names.now) c.args.config c.args.genesis c.args.blocks in
    subst (λ (r : Result Output (Stop Status)). Follows refuses output_in (g.S.Shelf.held c.args.shelf.now) (g.S.Shelf.held c.ran_shown.new.shelf) (g.S.Shelf.asked c.args.shelf.now) (g.S.Shelf.asked c.ran_shown.new.shelf) (g.S.Shelf.faults c.args.shelf.now) (g.S.Shelf.faults c.ran_shown.new.shelf) r plan)
    (sym c.at_file.ensures.same) c.ran_shown.ensures

pub returns-clause-names : goal.returns-clause-names
returns-clause-names g c =
    let held = g.S.Shelf.held c.args.shelf.now in
    let old = g.S.Shelf.asked c.args.shelf.now in
    let new = g.S.Shelf.asked c.ran_shown.new.shelf in
    let names = names_in c.args.names.now in
    let plan = over_both names c.args.config c.args.genesis c.args.blocks in
    c.at_file.ensures.names new
    (λ e. subst (λ (name : List ℕ). EndsIn new name) (sym c.last_name.ensures)
    (schedule_last held names.schedule old new plan (over_both_asks names c.args.config c.args.genesis c.args.blocks) (unread refuses output_in held old new plan c.ran_shown.result c.ran_shown.ensures.answers e)))
