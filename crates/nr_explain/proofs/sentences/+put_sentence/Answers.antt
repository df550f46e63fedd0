-- The goals of `sentences::put_sentence` that no tactic closes.
use Rattle.nr_explain.specs.Coded.{field_of}
use Rattle.nr_explain.proofs.Rows.{phrases_put}
use Rattle.nr_explain.proofs.sentences.+put_sentence.Goals as goal

pub returns-in_ok-put_phrase-in-Some : goal.returns-in_ok-put_phrase-in-Some
returns-in_ok-put_phrase-in-Some t c =
    phrases_put c.put_sentence.result field_of c.args.form.now _ c.args.line.now c.in-Some.word.now c.in-Some.words.now c.args.out.now.items
    c.put_phrase-in-Some.new.out.items c.put_sentence.new.out.items c.in-len1-up.len_at_least c.in-Some.ensures.pieces
    c.in_ok-put_phrase-in-Some.ensures c.put_sentence.ensures
