-- The goals of `part_files::load_named` that no tactic closes.
use Rattle.nr_shell.proofs.Leading.{judge_follows}
use Rattle.nr_top.proofs.part_files.load_named.Goals as goal

pub returns-in-Err : goal.returns-in-Err
returns-in-Err g c = judge_follows tt
