-- The goals of `numbers::number_of` that no tactic closes.
use Rattle.std.proofs.Common.{◌^◌}
use Rattle.nr_words.proofs.Numerals.{no_text_below}
use Rattle.nr_explain.proofs.numbers.number_of.Goals as goal

pub returns-in-Err : goal.returns-in-Err
returns-in-Err c = no_text_below (2 ^ 64) c.args.word.now c.in-Err.ensures.cases.0
