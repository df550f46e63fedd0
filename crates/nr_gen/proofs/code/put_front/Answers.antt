-- The goals of `code::put_front` that no tactic closes.
use Rattle.nr_gen.proofs.Modules.{front_whole}
use Rattle.nr_gen.proofs.code.put_front.Goals as goal

pub returns : goal.returns
returns c =
    front_whole _ _ _ _ _ _ _ c.in_ok-extend_from_slice.ensures.items c.in_ok-extend_from_slice-2.ensures.items c.in_ok-extend_from_slice-3.ensures.items c.in_ok-put_functions.ensures c.in_ok-extend_from_slice-4.ensures.items c.in_ok-extend_from_slice-5.ensures.items
