-- The goals of `columns::Columns::new` that no tactic closes.
use Rattle.std.proofs.Common.{sym, ap, ◌∙◌, subst}
use Rattle.std.specs.List.{AllByRecursion}
use Rattle.nr_columns.specs.View.{IsLaid, columns_in}
use Rattle.nr_columns.proofs.Empty.{no_columns_in, is_laid_empty}
use Rattle.nr_columns.proofs.columns.Columns.new.Goals as goal

pub invariant_of-result : goal.invariant_of-result
invariant_of-result g c = record { here = subst IsLaid (sym c.requires.empty) is_laid_empty; marks = subst (AllByRecursion IsLaid) (sym c.requires.marks) tt }

pub returns-clause-columns : goal.returns-clause-columns
returns-clause-columns g c = ap columns_in c.requires.empty ∙ no_columns_in
