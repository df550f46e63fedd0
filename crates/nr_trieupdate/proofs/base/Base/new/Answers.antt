-- The goals of `base::Base::new` that no tactic closes.
use Rattle.nr_trieupdate.proofs.Counting.{held_none, cost_none, level_none}
use Rattle.nr_trieupdate.proofs.base.Base.new.Goals as goal

pub invariant_of-result : goal.invariant_of-result
invariant_of-result c = record { level = level_none c.new.result c.none.result c.none.ensures.none (c.none.ensures.root c.new.result) (c.none.ensures.count c.new.result); bounded = c.first_limits.ensures.bounded }

pub returns-clause-contents : goal.returns-clause-contents
returns-clause-contents c = held_none c.new.result c.none.result c.none.ensures.none

pub returns-clause-unhashed : goal.returns-clause-unhashed
returns-clause-unhashed c = cost_none c.new.result c.none.result c.none.ensures.none
