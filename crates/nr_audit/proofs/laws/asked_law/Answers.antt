-- The goals of `laws::asked_law` that no tactic closes.
use Rattle.nr_shell.proofs.Ends.{answer_asks, way_asks}
use Rattle.nr_audit.specs.Plans.{files_of, plan}
use Rattle.nr_audit.proofs.Asking.{plan_asks}
use Rattle.nr_audit.proofs.laws.asked_law.Goals as goal

pub returns-clause-front : goal.returns-clause-front
returns-clause-front c = λ held asked names q leads. way_asks held names (files_of asked) (plan asked) q (plan_asks asked) leads

pub returns-clause-all : goal.returns-clause-all
returns-clause-all c = λ held asked names text leads. answer_asks held names (files_of asked) (plan asked) text (plan_asks asked) leads
