-- The goals of `files::write_part` that no tactic closes.
use Rattle.nr_parts.proofs.Filed.{part_again, sure}
use Rattle.nr_parts.proofs.files.write_part.Goals as goal

pub returns-clause-again : goal.returns-clause-again
returns-clause-again c = sure _ (part_again c.args.part.now c.in_ok-put_part.ensures.filed)
