-- The goals of `sums::everything_adds_up` that no tactic closes.
use Rattle.nr_overlap_tests.specs.Amounts.{tokens, receipts}
use Rattle.nr_overlap_tests.specs.SmallLaws.{tokens_kept, receipts_kept}
use Rattle.nr_overlap_tests.proofs.sums.everything_adds_up.Goals as goal

pub returns-clause-tokens : goal.returns-clause-tokens
returns-clause-tokens c = c.adds_up.ensures tokens (tokens_kept c.args.core.now.phases)

pub returns-clause-receipts : goal.returns-clause-receipts
returns-clause-receipts c v = c.adds_up.ensures (receipts v) (receipts_kept c.args.core.now.phases v)
