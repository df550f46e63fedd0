-- What holds at the loops of `sentences::put_sentence`.
use Rattle.std.proofs.Common.{length}
use Rattle.nr_explain.proofs.sentences.+put_sentence.Given as goal

abbrev pub decreases-put_sentence : goal.decreases-put_sentence
decreases-put_sentence l = length l.form.now
