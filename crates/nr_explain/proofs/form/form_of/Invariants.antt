-- What holds at the loops of `form::form_of`.
use Rattle.std.proofs.Common.{◌≡◌, map, drop}
use Rattle.nr_explain.specs.Words.{pieces}
use Rattle.nr_explain.specs.Forms.{form_of}
use Rattle.nr_explain.specs.Coded.{form_in}
use Rattle.nr_explain.proofs.form.form_of.Given as goal

-- none of the forms so far
abbrev pub invariant-loop-form : goal.invariant-loop-form
invariant-loop-form l =
    form_of (map (λ f. form_in f.now) (drop l.form-index l.forms)) (pieces 32 l.line) ≡ form_of (map (λ f. form_in f.now) l.forms) (pieces 32 l.line)
