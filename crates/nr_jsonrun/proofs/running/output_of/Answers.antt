-- The goals of `running::output_of` that no tactic closes.
use Rattle.std.proofs.Common.{Err, ap}
use Rattle.nr_config.specs.Config.{Config as Configuration}
use Rattle.nr_configfile.specs.Plans.{config_plan}
use Rattle.nr_configfile.proofs.Asking.{config_asks}
use Rattle.nr_shell.proofs.Leading.{stop_follows, then_follows}
use Rattle.nr_shell.specs.declared.stop.Stop.{Stop}
use Rattle.nr_words.specs.Command.{is_free}
use Rattle.nr_words.specs.Words.{names_in}
use Rattle.nr_files.specs.Answers.{refuses}
use Rattle.nr_files.specs.declared.status.Status.{Status}
use Rattle.nr_files.specs.declared.status.Status.TheVariants.{Config}
use Rattle.nr_files.proofs.Last.{unread, word_last}
use Rattle.nr_jsonrun.specs.Plans.{over_config}
use Rattle.nr_jsonrun.proofs.running.output_of.Goals as goal

pub returns-in-Ok-clause-follows : goal.returns-in-Ok-clause-follows
returns-in-Ok-clause-follows g c = then_follows (over_config (names_in c.args.names.now)) c.in-Ok.ensures c.over_config.ensures.follows

pub returns-in-Err-clause-follows : goal.returns-in-Err-clause-follows
returns-in-Err-clause-follows g c = stop_follows (over_config (names_in c.args.names.now)) c.in-Err.ensures

pub returns-in-Err-clause-names : goal.returns-in-Err-clause-names
returns-in-Err-clause-names g c = λ e.
    let held = g.S.Shelf.held c.args.shelf.now in
    let old = g.S.Shelf.asked c.args.shelf.now in
    let new = g.S.Shelf.asked c.config_of.new.shelf in
    let word = c.args.names.now.config.now in
    let plan = config_plan Config word in
    word_last held (is_free word) old new word plan (config_asks Config word) (unread refuses (λ (config : Configuration). config) held old new plan (Err c.in-Err.stop) c.in-Err.ensures.answers (ap (λ (s : Stop Status). Err s) e))
