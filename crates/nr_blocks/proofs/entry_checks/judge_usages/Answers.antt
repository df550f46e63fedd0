-- The goals of `entry_checks::judge_usages` that no tactic closes.
use Rattle.nr_blocks.proofs.entry_checks.judge_usages.Goals as goal

pub returns-then-branch : goal.returns-then-branch
returns-then-branch c = c.in_ok-usages_stand.ensures c.if-branch.true
