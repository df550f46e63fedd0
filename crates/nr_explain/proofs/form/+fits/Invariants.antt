-- What holds at the loops of `form::fits`.
use Rattle.std.proofs.Common.{length}
use Rattle.nr_explain.proofs.form.+fits.Given as goal

abbrev pub decreases-fits : goal.decreases-fits
decreases-fits l = length l.form.now
