-- The goals of `laws::part_laws` that no tactic closes.
use Rattle.nr_state.proofs.OverEntries.{entries_over, entries_of_part, read_part}
use Rattle.nr_state.proofs.ValidPart.{part_fits, part_valid}
use Rattle.nr_state.proofs.WorldsRead.{world_read}
use Rattle.nr_state.proofs.laws.part_laws.Goals as goal

pub returns : goal.returns
returns c = record {
  valid = λ config x w valid. part_valid x config w valid;
  fits = part_fits;
  entries = entries_of_part;
  changed = entries_over;
  read = read_part;
  told = world_read;
}
