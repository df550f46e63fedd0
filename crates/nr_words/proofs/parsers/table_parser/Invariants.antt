-- What holds at the loops of `parsers::table_parser`.
use Rattle.std.proofs.Common.{◌≡◌, drop, fold}
use Rattle.clap.specs.Words.{app_of}
use Rattle.nr_words.specs.Parsing.{table_app, with_form}
use Rattle.nr_words.specs.Words.{table_in}
use Rattle.nr_words.proofs.parsers.table_parser.Given as goal

-- with the forms that are left, the parser comes to that of the table
abbrev pub invariant-loop-form : goal.invariant-loop-form
invariant-loop-form l = fold with_form (app_of l.parser) (table_in (drop l.form-index l.table)) ≡ table_app l.program (table_in l.table)
