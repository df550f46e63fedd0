-- The goals of `with_bytes::over_genesis` that no tactic closes.
use Rattle.std.proofs.Common.{◌≡◌, ℕ, ◌+◌, length, Ok, Err, subst, refl}
use Rattle.nr_reshard.specs.declared.chain_file.ChainFile.{ChainFile}
use Rattle.nr_chainfiles.specs.declared.loading.ChainFiles.{ChainFiles}
use Rattle.nr_shell.specs.Answers.{Judges}
use Rattle.nr_shell.specs.Plans.{Answer, by_length}
use Rattle.nr_shell.proofs.WithBytes.{judges_stop, judges_then}
use Rattle.nr_chainfiles.specs.Plans.{by_blocks_bytes, files_with}
use Rattle.nr_chainfiles.proofs.with_bytes.over_genesis.Goals as goal

pub returns-in-Ok-clause-judges : goal.returns-in-Ok-clause-judges
returns-in-Ok-clause-judges g c =
    let refuses = g.E.ConfigRefusal.refuses in
    let refusal = g.E.ChainRefusal.blocks_refusal in
    judges_then refuses (λ (files : ChainFiles). files) (Ok (files_with c.args.config c.args.genesis c.in-Ok.file))
    (by_length 268435456 (refusal 0 0) (by_blocks_bytes refusal (length c.args.genesis.layout + 1)) c.args.blocks.items) c.in-Ok.file
    (λ (file : ChainFile). Answer (files_with c.args.config c.args.genesis file))
    (subst (λ (n : ℕ). by_length 268435456 (refusal 0 0) (by_blocks_bytes refusal n) c.args.blocks.items ≡ Answer c.in-Ok.file) c.shards.ensures.count c.in-Ok.ensures.judges) refl

pub returns-in-Err-clause-judges : goal.returns-in-Err-clause-judges
returns-in-Err-clause-judges g c =
    let refuses = g.E.ConfigRefusal.refuses in
    let refusal = g.E.ChainRefusal.blocks_refusal in
    judges_stop refuses (λ (file : ChainFile). file) (λ (files : ChainFiles). files) c.in-Err.stop
    (by_length 268435456 (refusal 0 0) (by_blocks_bytes refusal (length c.args.genesis.layout + 1)) c.args.blocks.items)
    (λ (file : ChainFile). Answer (files_with c.args.config c.args.genesis file))
    (subst (λ (n : ℕ). Judges refuses (λ (file : ChainFile). file) (Err c.in-Err.stop) (by_length 268435456 (refusal 0 0) (by_blocks_bytes refusal n) c.args.blocks.items)) c.shards.ensures.count c.in-Err.ensures.judges)
