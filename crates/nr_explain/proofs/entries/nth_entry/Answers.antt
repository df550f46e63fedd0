-- The goals of `entries::nth_entry` that no tactic closes.
use Rattle.std.proofs.Common.{arith}
use Rattle.nr_explain.specs.Coded.{bounds_in}
use Rattle.nr_explain.proofs.NthEntry.{an_entry, past_entries}
use Rattle.nr_explain.proofs.entries.nth_entry.Goals as goal

pub returns-then-number-le75 : goal.returns-then-number-le75
returns-then-number-le75 c = an_entry bounds_in c.entries.result.now c.args.number _ c.entries.ensures (omega arith) (omega arith)

pub returns-else-number-le75 : goal.returns-else-number-le75
returns-else-number-le75 c = past_entries c.args.number c.if-number-le75.false
