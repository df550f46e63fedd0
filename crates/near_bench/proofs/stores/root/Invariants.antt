-- What holds at the loops of `stores::root`.
use Rattle.near_bench.proofs.stores.root.Given as goal

abbrev pub ghosts-counted_root : goal.ghosts-counted_root
ghosts-counted_root g a = record { name = a.blank.name; parts = a.blank.parts }
