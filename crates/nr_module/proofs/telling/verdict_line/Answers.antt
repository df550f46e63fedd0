-- The goals of `telling::verdict_line` that no tactic closes.
use Rattle.nr_module.proofs.telling.verdict_line.Goals as goal

pub returns : goal.returns
returns c = (c.in_ok-verdict.verdict, c.in_ok-verdict.ensures, c.in_ok-text.ensures, c.rated.ensures)
