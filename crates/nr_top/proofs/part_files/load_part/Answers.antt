-- The goals of `part_files::load_part` that no tactic closes.
use Rattle.std.proofs.Common.{refl}
use Rattle.nr_parts.specs.declared.part.Part.{Part}
use Rattle.nr_shell.proofs.Leading.{read_follows, stop_follows}
use Rattle.nr_top.specs.Answers.{refuses}
use Rattle.nr_top.specs.StateParts.{by_part_bytes}
use Rattle.nr_top.proofs.part_files.load_part.Goals as goal

pub returns-in-Ok : goal.returns-in-Ok
returns-in-Ok g c = rw c.from.ensures at (read_follows (by_part_bytes c.args.position) (c.in-Ok.ensures refuses refl) c.deref.ensures.value c.part_in.ensures)

pub returns-in-Err : goal.returns-in-Err
returns-in-Err g c = rw c.from.ensures at (stop_follows {other = λ (p : Part). p} (by_part_bytes c.args.position) (c.in-Err.ensures refuses refl))
