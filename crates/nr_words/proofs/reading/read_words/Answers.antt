-- The goals of `reading::read_words` that no tactic closes.
use Rattle.std.proofs.Common.{◌≡◌, ◌∙◌, ap, sym, true, false, option_map, subst, rules, [], IfSome}
use Rattle.std.specs.List.{list_all}
use Rattle.std.proofs.lemmas.Result.{IfOk-weaker}
use Rattle.clap.specs.Faults.{fault_of}
use Rattle.clap.specs.Words.{app_of, subcommand_of, subcommand_rows_of}
use Rattle.nr_words.specs.Forms.{FitsForm, is_plain}
use Rattle.nr_words.specs.Words.{found_in, table_in, texts}
use Rattle.nr_words.proofs.Fits.{read_fits}
use Rattle.nr_words.proofs.Parsed.{all-texts, none_read, not_plain, parsed, simple, simple_and_free}
use Rattle.nr_words.proofs.reading.read_words.Goals as goal

pub returns-then-not-are_plain-clause-found : goal.returns-then-not-are_plain-clause-found
returns-then-not-are_plain-clause-found c =
    let words = c.args.words.now in
    let told : c.are_plain.result ≡ false = first_of (cc, search rules) in
    let dashed : list_all is_plain (texts words) ≡ false = sym (all-texts words) ∙ sym c.are_plain.ensures ∙ told in
    not_plain (table_in c.args.table.now) (texts words) dashed

pub returns-in-Ok-clause-found : goal.returns-in-Ok-clause-found
returns-in-Ok-clause-found c =
    let words = c.args.words.now in
    let table = table_in c.args.table.now in
    let app = app_of c.in_ok-parser.parser in
    let is = c.in_ok-parser.ensures in
    let told : c.are_plain.result ≡ true = first_of (cc, search rules) in
    let plain : list_all is_plain (texts words) ≡ true = sym (all-texts words) ∙ sym c.are_plain.ensures ∙ told in
    let none : fault_of app (texts words) ≡ [] = c.in-Ok.ensures.kinds (simple_and_free c.args.program.now table (texts words) app is) in
    let rows : subcommand_rows_of c.in-Ok.matches ≡ subcommand_of app (texts words) = (c.in-Ok.ensures.matches (simple c.args.program.now table (texts words) app is)).1 in
    let meant = parsed c.args.program.now table (texts words) app is (subcommand_rows_of c.in-Ok.matches) c.requires plain rows none in
    IfOk-weaker c.matched.result _ _ (λ found h. h ∙ meant) c.matched.ensures

pub returns-in-Ok-clause-fits : goal.returns-in-Ok-clause-fits
returns-in-Ok-clause-fits c =
    let table = table_in c.args.table.now in
    IfOk-weaker c.matched.result _ _ (λ found h. subst (λ o. IfSome o (FitsForm table)) (sym h) (read_fits table (texts c.args.words.now))) (returns-in-Ok-clause-found c)

pub returns-in-Err-clause-found : goal.returns-in-Err-clause-found
returns-in-Err-clause-found c =
    let words = c.args.words.now in
    let table = table_in c.args.table.now in
    let app = app_of c.in_ok-parser.parser in
    let is = c.in_ok-parser.ensures in
    let told : c.are_plain.result ≡ true = first_of (cc, search rules) in
    let plain : list_all is_plain (texts words) ≡ true = sym (all-texts words) ∙ sym c.are_plain.ensures ∙ told in
    let failed = c.in-Err.ensures.kinds (simple_and_free c.args.program.now table (texts words) app is) in
    IfOk-weaker c.refused.result _ _ (λ read h. ap (option_map found_in) h.0 ∙ sym (none_read c.args.program.now table (texts words) app is _ _ c.requires plain h.1 failed)) c.refused.ensures
