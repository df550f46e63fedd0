-- What the trie stands for that waiting changes lie over. This project's own.
use Rattle.nr_trieupdate.specs.BaseView.{BaseView}
use Rattle.nr_trieupdate.specs.Room.{held_at, cost_at, IsLevel, IsBounded}
use Rattle.nr_trieupdate.specs.declared.base.Base.TheInside.{Inside}

abbrev pub base_view : Inside → BaseView
base_view s = record { contents = held_at s.nodes s.top; unhashed = cost_at s.nodes s.top }

-- the root stands for entries within the sizes, and the arena is trimmed before it is full
pub record IsBase (s : Inside) : Type 0 where
  pub level : IsLevel s.nodes s.top
  pub bounded : IsBounded s.limits
