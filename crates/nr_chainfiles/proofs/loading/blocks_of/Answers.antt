-- The goals of `loading::blocks_of` that no tactic closes.
use Rattle.std.proofs.Common.{ℕ, ◌+◌, length, refl, subst, sym}
use Rattle.nr_reshard.specs.declared.chain_file.ChainFile.{ChainFile}
use Rattle.nr_shell.specs.Answers.{Judges}
use Rattle.nr_shell.proofs.Leading.{read_follows, stop_follows}
use Rattle.nr_chainfiles.specs.Plans.{by_blocks_bytes}
use Rattle.nr_chainfiles.proofs.loading.blocks_of.Goals as goal

pub returns-in-Ok-clause-follows : goal.returns-in-Ok-clause-follows
returns-in-Ok-clause-follows g c =
    let refuses = g.E.ConfigRefusal.refuses in
    let refusal = g.E.ChainRefusal.blocks_refusal in
    rw (sym c.of_blocks.ensures.value)
    (read_follows (by_blocks_bytes refusal (length c.args.genesis.now.layout + 1))
    (c.in-Ok.ensures refuses c.of_blocks.ensures.refuses) refl
    (subst (λ (n : ℕ). Judges refuses (λ (x : ChainFile). x) c.blocks_in.result
    (by_blocks_bytes refusal n c.in-Ok.bytes.items))
    c.shards.ensures.count c.blocks_in.ensures.judges))

pub returns-in-Err-clause-follows : goal.returns-in-Err-clause-follows
returns-in-Err-clause-follows g c =
    rw (sym c.of_blocks.ensures.value)
    (stop_follows (by_blocks_bytes g.E.ChainRefusal.blocks_refusal (length c.args.genesis.now.layout + 1))
    (c.in-Err.ensures g.E.ConfigRefusal.refuses c.of_blocks.ensures.refuses))
