-- What holds at the loops of `parsers::form_parser`.
use Rattle.std.proofs.Common.{◌≡◌, false, take}
use Rattle.clap.specs.Words.{app_of}
use Rattle.clap.specs.declared.builder.command.Command.TheViews.{out-Command}
use Rattle.nr_words.specs.Parsing.{rules_of, words_app}
use Rattle.nr_words.specs.Words.{places_in}
use Rattle.nr_words.proofs.parsers.form_parser.Given as goal

-- the parser has the places so far, and no argument that each form has
abbrev pub invariant-loop-place : goal.invariant-loop-place
invariant-loop-place l =
    (app_of l.parser ≡ words_app l.form.verb.now (rules_of (places_in (take l.place-index l.place-items)))) × ((out-Command l.parser).has_globals ≡ false)
