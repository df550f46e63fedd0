-- The goals of `commands::prove::proved` that no tactic closes.
use Rattle.std.proofs.Common.{ℕ, List}
use Rattle.nr_chunk.specs.Chain.{Chain}
use Rattle.nr_shell.specs.Answers.{Judges}
use Rattle.nr_top.specs.Answers.{refuses}
use Rattle.nr_top.specs.Chunks.{result_at}
use Rattle.nr_top.specs.Proving.{by_chunk}
use Rattle.nr_top.proofs.BothLegs.{held_by}
use Rattle.nr_top.proofs.commands.prove.proved.Goals as goal

pub returns-in-Ok : goal.returns-in-Ok
returns-in-Ok c =
    let item = c.args.item in
    held_by
    (λ (n : ℕ) (x : Chain). Judges refuses (λ (text : List ℕ). text) c.proved_by.result (by_chunk item (result_at x item.shard n)))
    c.in-Ok.ensures.height c.in-Ok.ensures.chain c.proved_by.ensures
