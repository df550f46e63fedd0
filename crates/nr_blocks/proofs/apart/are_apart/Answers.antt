-- The goals of `apart::are_apart` that no tactic closes.
use Rattle.std.proofs.Common.{sym, ◌∙◌}
use Rattle.nr_blocks.proofs.Ranked.{firsts_pass}
use Rattle.nr_blocks.proofs.apart.are_apart.Goals as goal

pub returns : goal.returns
returns c = λ h.
    firsts_pass c.args.entries.now (sym c.are_in_turn-turn.ensures ∙ c.if-not-turn.false) (c.in_ok-apart.ensures h)
