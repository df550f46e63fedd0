-- The goals of `numbers::amount_of` that no tactic closes.
use Rattle.std.proofs.Common.{◌^◌}
use Rattle.nr_words.proofs.Numerals.{no_text_below}
use Rattle.nr_explain.proofs.numbers.amount_of.Goals as goal

pub returns-in-Err : goal.returns-in-Err
returns-in-Err c = no_text_below (2 ^ 128) c.args.word.now c.in-Err.ensures.cases.0
