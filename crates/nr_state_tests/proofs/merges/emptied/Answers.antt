-- The goals of `merges::emptied` that no tactic closes.
use Rattle.nr_state_tests.proofs.merges.emptied.Goals as goal

pub find-requires : goal.find-requires
find-requires c = c.merge-2.ensures.kept.root c.in_ok-one.one.root c.in_ok-one.ensures.merged.root
