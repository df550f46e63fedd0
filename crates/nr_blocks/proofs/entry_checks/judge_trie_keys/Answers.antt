-- The goals of `entry_checks::judge_trie_keys` that no tactic closes.
use Rattle.nr_blocks.proofs.entry_checks.judge_trie_keys.Goals as goal

pub returns-then-branch : goal.returns-then-branch
returns-then-branch c = c.in_ok-are_apart.ensures c.if-branch.true
