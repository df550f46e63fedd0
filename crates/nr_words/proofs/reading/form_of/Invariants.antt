-- What holds at the loops of `reading::form_of`.
use Rattle.std.proofs.Common.{◌≡◌, drop}
use Rattle.nr_words.specs.Forms.{form_of}
use Rattle.nr_words.specs.Words.{table_in}
use Rattle.nr_words.proofs.reading.form_of.Given as goal

-- the form is among those that are left
abbrev pub invariant-loop-form : goal.invariant-loop-form
invariant-loop-form l = form_of (table_in (drop l.form-index l.table)) l.verb ≡ form_of (table_in l.table) l.verb
