-- The goals of `reading::matched` that no tactic closes.
use Rattle.std.proofs.Common.{◌≡◌, ◌∙◌, option_map}
use Rattle.std.proofs.lemmas.Result.{IfOk-weaker}
use Rattle.clap.specs.Words.{subcommand_rows_of}
use Rattle.clap.specs.Matches.{subcommand_name_of}
use Rattle.nr_words.specs.Parsing.{found_by}
use Rattle.nr_words.specs.Words.{table_in}
use Rattle.nr_words.proofs.Subcommands.{map-map, missing, there}
use Rattle.nr_words.proofs.reading.matched.Goals as goal

pub returns-in-Some : goal.returns-in-Some
returns-in-Some c =
    let m = c.args.matches.now in
    let named : subcommand_name_of m ≡ option_map (λ p. p.0) (subcommand_rows_of m) = map-map _ _ _ in
    IfOk-weaker c.named.result _ _ (λ read h. h ∙ there (found_by (table_in c.args.table.now)) (subcommand_rows_of m) _ _ (c.in-Some.ensures.name ∙ named) c.in-Some.ensures.rows) c.named.ensures

pub returns-in-None : goal.returns-in-None
returns-in-None c =
    let m = c.args.matches.now in
    let named : subcommand_name_of m ≡ option_map (λ p. p.0) (subcommand_rows_of m) = map-map _ _ _ in
    missing (found_by (table_in c.args.table.now)) (subcommand_rows_of m) (c.in-None.ensures.name ∙ named)
