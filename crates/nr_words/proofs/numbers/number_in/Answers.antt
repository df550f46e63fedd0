-- The goals of `numbers::number_in` that no tactic closes.
use Rattle.nr_words.proofs.Numerals.{no_text}
use Rattle.nr_words.proofs.numbers.number_in.Goals as goal

pub returns-in-Err : goal.returns-in-Err
returns-in-Err c = no_text c.args.least c.args.most c.args.word.now c.in-Err.ensures.cases.0
