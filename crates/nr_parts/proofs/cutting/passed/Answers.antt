-- The goals of `cutting::passed` that no tactic closes.
use Rattle.std.proofs.Common.{ap, ◌∙◌, drop, add-one}
use Rattle.nr_parts.proofs.Passing.{drop_suc}
use Rattle.nr_parts.proofs.cutting.passed.Goals as goal

pub returns-then-index-entries : goal.returns-then-index-entries
returns-then-index-entries c = ap (λ n. drop n c.args.entries.now) (add-one c.args.index) ∙ drop_suc c.args.index c.args.entries.now
