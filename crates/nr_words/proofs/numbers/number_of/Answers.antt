-- The goals of `numbers::number_of` that no tactic closes.
use Rattle.std.proofs.Common.{◌≡◌, true, arith}
use Rattle.nr_words.specs.Numbers.{is_numeral}
use Rattle.nr_words.proofs.Numerals.{too_large}
use Rattle.nr_words.proofs.numbers.number_of.Goals as goal

pub returns-in-Err-clause-number : goal.returns-in-Err-clause-number
returns-in-Err-clause-number c =
    let numeral : is_numeral c.args.word.now ≡ true = cc in
    too_large c.args.least c.args.most c.args.word.now numeral (omega arith) c.in-Err.ensures.value.0
