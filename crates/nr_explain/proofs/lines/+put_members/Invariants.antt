-- What holds at the loops of `lines::put_members`.
use Rattle.std.proofs.Common.{length}
use Rattle.nr_explain.proofs.lines.+put_members.Given as goal

abbrev pub decreases-put_members : goal.decreases-put_members
decreases-put_members l = length l.form.now
