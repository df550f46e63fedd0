-- The goals of `top::tell` that no tactic closes.
use Rattle.std.proofs.Common.{ℕ, List, refl, sym, subst}
use Rattle.nr_shell.specs.Plans.{Answer}
use Rattle.nr_files.specs.Answers.{output_in}
use Rattle.nr_files.specs.Due.{IsWritten}
use Rattle.nr_files.proofs.top.tell.Goals as goal

pub returns-in_default-clause-serves : goal.returns-in_default-clause-serves
returns-in_default-clause-serves g c = λ p held asked asks comes. (record { rest = Answer (output_in c.args.output); comes = comes }, refl)

pub returns-in-Ok-write_all-clause-serves : goal.returns-in-Ok-write_all-clause-serves
returns-in-Ok-write_all-clause-serves g c = λ p held asked asks comes.
    (output_in c.args.output, c.inner.result.now, comes, subst (λ (b : List ℕ). IsWritten (output_in c.args.output) b) (sym c.inner.ensures) c.in-Ok.ensures, c.in-Ok-write_all.ensures.ok)

pub returns-clause-serves : goal.returns-clause-serves
returns-clause-serves g c = λ p held asked asks comes.
    (output_in c.args.output, c.inner.result.now, comes, subst (λ (b : List ℕ). IsWritten (output_in c.args.output) b) (sym c.inner.ensures) c.in-Ok.ensures, c.in-Err.ensures.err)
