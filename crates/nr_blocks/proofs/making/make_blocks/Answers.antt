-- The goals of `making::make_blocks` that no tactic closes.
use Rattle.nr_blocks.proofs.making.make_blocks.Goals as goal

pub returns-in-Ok : goal.returns-in-Ok
returns-in-Ok c =
    rw c.of.ensures (λ version front blocks fit is spelled. (c.in-Ok.ensures version blocks front fit is spelled).0)
