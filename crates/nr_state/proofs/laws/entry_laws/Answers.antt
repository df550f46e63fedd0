-- The goals of `laws::entry_laws` that no tactic closes.
use Rattle.nr_state.proofs.EntryWorlds.{entries_again, entries_whole, flat_again, none_again, none_whole}
use Rattle.nr_state.proofs.EntryWorlds.{pairs_again, read_again, world_fits, world_postponed}
use Rattle.nr_state.proofs.laws.entry_laws.Goals as goal

pub returns : goal.returns
returns c = record {
  whole = λ w es fits are is. entries_whole w fits are es is;
  again = λ w es fits are is. entries_again w fits are es is;
  fits = world_fits;
  postponed = world_postponed;
  contents = flat_again;
  pairs = pairs_again;
  read = read_again;
  none = none_whole;
  empty = none_again;
}
