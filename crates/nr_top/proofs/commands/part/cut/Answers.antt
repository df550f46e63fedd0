-- The goals of `commands::part::cut` that no tactic closes.
use Rattle.std.proofs.Common.{List, ℕ, ap}
use Rattle.nr_chunk.specs.Chain.{Chain}
use Rattle.nr_shell.specs.Answers.{Judges}
use Rattle.nr_top.specs.Answers.{refuses}
use Rattle.nr_top.specs.StateParts.{leg_cut}
use Rattle.nr_words.specs.declared.words.StatePart.{StatePart}
use Rattle.nr_top.proofs.BothLegs.{held_by}
use Rattle.nr_top.proofs.commands.part.cut.Goals as goal

pub returns-in-Ok : goal.returns-in-Ok
returns-in-Ok c =
    held_by
    (λ (p : StatePart) (x : Chain). Judges refuses (λ (text : List ℕ). text) c.cut_if_there.result (leg_cut p x))
    (ap (λ (n : ℕ). record c.args.part { height = n }) c.in-Ok.ensures.height) c.in-Ok.ensures.chain
    c.cut_if_there.ensures
