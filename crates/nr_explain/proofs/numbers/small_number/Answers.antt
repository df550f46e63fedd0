-- The goals of `numbers::small_number` that no tactic closes.
use Rattle.std.proofs.Common.{◌≡◌, ◌^◌, true}
use Rattle.nr_words.specs.Numbers.{is_numeral}
use Rattle.nr_words.proofs.Numerals.{not_read}
use Rattle.nr_explain.proofs.numbers.small_number.Goals as goal

pub returns-in-Err : goal.returns-in-Err
returns-in-Err c =
    let numeral : is_numeral c.args.word.now ≡ true = cc in
    not_read (2 ^ 64) c.args.word.now numeral c.in-Err.ensures.value.0
