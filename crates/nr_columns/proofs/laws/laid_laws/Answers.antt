-- The goals of `laws::laid_laws` that no tactic closes.
use Rattle.std.proofs.Common.{◌≡◌, List, [], ◌∷◌, ap, map, subst}
use Rattle.std.specs.List.{AllByRecursion}
use Rattle.nr_triedef.specs.Root.{Contents}
use Rattle.nr_columns.specs.Columns.{laid_columns}
use Rattle.nr_columns.specs.View.{columns_in, IsLaid}
use Rattle.nr_columns.proofs.laws.laid_laws.Goals as goal

saved_back : (cs : List Contents) → AllByRecursion IsLaid cs → AllByRecursion (λ k. columns_in (laid_columns k) ≡ k) (map columns_in cs)
saved_back [] all = tt
saved_back (c ∷ cs) all = (ap columns_in all.0, saved_back cs all.1)

pub returns-clause-here : goal.returns-clause-here
returns-clause-here g c = subst (λ v. columns_in (laid_columns v.columns) ≡ v.columns) c.columns.view_is (ap columns_in c.columns.invariant.here)

pub returns-clause-marks : goal.returns-clause-marks
returns-clause-marks g c = subst (λ v. AllByRecursion (λ k. columns_in (laid_columns k) ≡ k) v.marks) c.columns.view_is (saved_back _ c.columns.invariant.marks)
