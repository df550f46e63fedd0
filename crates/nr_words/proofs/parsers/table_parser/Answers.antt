-- The goals of `parsers::table_parser` that no tactic closes.
use Rattle.std.proofs.Common.{◌∙◌, ◌+◌, List, ap, drop, fold, sym}
use Rattle.std.proofs.lemmas.List.{at_drop_more}
use Rattle.clap.specs.Words.{App, app_of, with_subcommand}
use Rattle.nr_words.specs.Parsing.{with_form}
use Rattle.nr_words.specs.Words.{table_in}
use Rattle.nr_words.specs.declared.forms.Form.{Form}
use Rattle.nr_words.proofs.parsers.table_parser.Goals as goal

pub loop-form-preserved : goal.loop-form-preserved
loop-form-preserved c =
    let at = c.loop-form in
    let table = c.args.table.now in
    let added = c.in_ok-command.ensures.form _ _ c.in_ok-parser.ensures ∙ ap (λ (a : App). with_subcommand (app_of at.parser) a.top) c.in_ok-command.ensures.app in
    ap (λ (a : App). fold with_form a (table_in (drop (at.form-index + 1) table))) added
    ∙ sym (at_drop_more (λ (forms : List Form). fold with_form (app_of at.parser) (table_in forms)) table at.form-index _ c.loop-form-test.true)
    ∙ at.invariant
