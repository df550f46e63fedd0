-- The goals of `code::put_bodies` that no tactic closes.
use Rattle.nr_gen.proofs.Modules.{bodies_whole}
use Rattle.nr_gen.proofs.code.put_bodies.Goals as goal

pub returns : goal.returns
returns c =
    bodies_whole _ _ _ _ _ _ c.in_ok-extend_from_slice.ensures.items c.in_ok-extend_from_slice-2.ensures.items c.in_ok-extend_from_slice-3.ensures.items c.in_ok-extend_from_slice-4.ensures.items c.in_ok-put_fillers.ensures
