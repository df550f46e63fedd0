-- The goals of `laws::asked_law` that no tactic closes.
use Rattle.nr_shell.proofs.Ends.{answer_asks, way_asks}
use Rattle.nr_jsonrun.specs.Plans.{files_of, plan}
use Rattle.nr_jsonrun.proofs.Asking.{plan_asks}
use Rattle.nr_jsonrun.proofs.laws.asked_law.Goals as goal

pub returns-clause-front : goal.returns-clause-front
returns-clause-front c = λ held words names q leads. way_asks held names (files_of words) (plan words) q (plan_asks words) leads

pub returns-clause-all : goal.returns-clause-all
returns-clause-all c = λ held words names o leads. answer_asks held names (files_of words) (plan words) o (plan_asks words) leads
