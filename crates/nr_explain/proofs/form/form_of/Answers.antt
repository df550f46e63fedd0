-- The goals of `form::form_of` that no tactic closes.
use Rattle.std.proofs.Common.{sym, ◌∙◌, arith}
use Rattle.nr_explain.specs.Words.{pieces}
use Rattle.nr_explain.specs.Coded.{form_in}
use Rattle.nr_explain.proofs.FirstForm.{form_found, form_skipped, no_form}
use Rattle.nr_explain.proofs.form.form_of.Goals as goal

pub loop-form-preserved : goal.loop-form-preserved
loop-form-preserved c =
    form_skipped (λ f. form_in f.now) c.args.forms.now c.loop-form.form-index _ (pieces 32 c.args.line.now) _ (omega arith) (sym c.if-fits.false ∙ c.fits.ensures) c.loop-form.invariant

pub returns-then-fits : goal.returns-then-fits
returns-then-fits c =
    form_found (λ f. form_in f.now) c.args.forms.now c.loop-form.form-index _ (pieces 32 c.args.line.now) _ (omega arith) (sym c.if-fits.true ∙ c.fits.ensures) c.loop-form.invariant

pub returns : goal.returns
returns c = no_form (λ f. form_in f.now) c.args.forms.now c.loop-form.form-index (pieces 32 c.args.line.now) _ (omega arith) c.loop-form.invariant
