-- The goals of `files::write_gathered` that no tactic closes.
use Rattle.nr_gathered.proofs.Filed.{gathered_again, sure}
use Rattle.nr_gathered.proofs.files.write_gathered.Goals as goal

pub returns-clause-again : goal.returns-clause-again
returns-clause-again c = sure _ (gathered_again c.args.gathered.now c.in_ok-put_chunk.ensures.fits)

pub returns-clause-fits : goal.returns-clause-fits
returns-clause-fits c = sure _ c.in_ok-put_chunk.ensures.fits
