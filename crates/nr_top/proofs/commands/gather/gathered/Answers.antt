-- The goals of `commands::gather::gathered` that no tactic closes.
use Rattle.std.proofs.Common.{List, ℕ, ap}
use Rattle.nr_chunk.specs.Chain.{Chain}
use Rattle.nr_shell.specs.Answers.{Judges}
use Rattle.nr_top.specs.Answers.{refuses}
use Rattle.nr_top.specs.Gathering.{leg_gather}
use Rattle.nr_words.specs.declared.words.ChunkPlace.{ChunkPlace}
use Rattle.nr_top.proofs.BothLegs.{held_by}
use Rattle.nr_top.proofs.commands.gather.gathered.Goals as goal

pub returns-in-Ok : goal.returns-in-Ok
returns-in-Ok c =
    held_by
    (λ (p : ChunkPlace) (x : Chain). Judges refuses (λ (text : List ℕ). text) c.gathered_if_there.result (leg_gather p x))
    (ap (λ (n : ℕ). record c.args.chunk { height = n }) c.in-Ok.ensures.height) c.in-Ok.ensures.chain
    c.gathered_if_there.ensures
