-- The goals of `laws::meeting_offsets` that no tactic closes.
use Rattle.nr_parts.proofs.Shares.{met, meeting}
use Rattle.nr_parts.proofs.laws.meeting_offsets.Goals as goal

pub returns-clause-some : goal.returns-clause-some
returns-clause-some c = λ share at usage whole count is. meeting share at usage whole count is

pub returns-clause-only : goal.returns-clause-only
returns-clause-only c = λ share at usage whole count m. met share at usage m.0 whole count m.1 m.2 m.3
