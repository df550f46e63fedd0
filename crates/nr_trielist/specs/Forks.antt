-- What a branch that is being made keeps. This project's own.
use Rattle.std.specs.Prelude.{◌≡◌, ◌≤◌, ◌-◌, length, map}
use Rattle.std.specs.List.{range_with_len}
use Rattle.nr_triedef.specs.Root.{under}
use Rattle.nr_store.specs.Tries.{CanWalk, cut, whole}
use Rattle.nr_trielist.specs.declared.fork.Fork.TheInside.{Inside}

pub record IsFork (f : Inside) : Type 0 where
  pub many : 2 ≤ length f.keys
  pub order : CanWalk f.keys
  pub rest : f.rest ≡ cut f.keys
  pub few : length f.made.items ≤ 16
  pub made : f.made.items ≡ map (λ n. whole (under n f.rest))
      (range_with_len (16 - length f.made.items) (length f.made.items))
