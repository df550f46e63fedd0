-- The goals of `commands::with_bytes::course_of` that no tactic closes.
use Rattle.std.proofs.Common.{Ok, Err, refl}
use Rattle.nr_chainfiles.specs.Plans.{by_config}
use Rattle.nr_chainfiles.specs.declared.loading.ChainFiles.{ChainFiles}
use Rattle.nr_shell.specs.Plans.{Answer, with_bytes}
use Rattle.nr_shell.proofs.WithBytes.{judges_bytes, judges_same, judges_stop, judges_then}
use Rattle.nr_top.specs.Answers.{refuses}
use Rattle.nr_top.specs.Run.{loaded}
use Rattle.nr_top.specs.declared.status.Status.TheVariants.{Config as faulty_config, Genesis as faulty_genesis, Blocks as faulty_blocks}
use Rattle.nr_top.proofs.WithBytes.{course_with_bytes}
use Rattle.nr_top.proofs.commands.with_bytes.course_of.Goals as goal

pub returns-in-Ok-clause-judges : goal.returns-in-Ok-clause-judges
returns-in-Ok-clause-judges c = λ names.
    let files = by_config faulty_config faulty_genesis faulty_blocks names c.args.config in
    judges_same refuses loaded (Ok c.in-Ok.files) (course_with_bytes names c.args.config c.args.genesis c.args.blocks)
    (judges_then refuses loaded (Ok c.in-Ok.files) (with_bytes c.args.blocks (with_bytes c.args.genesis files)) c.in-Ok.files (λ (f : ChainFiles). Answer (loaded f))
    (judges_bytes refuses (λ (f : ChainFiles). f) (Ok c.in-Ok.files) files c.into_inner-first.ensures c.into_inner-second.ensures (c.in-Ok.ensures.judges names)) refl)

pub returns-in-Err-clause-judges : goal.returns-in-Err-clause-judges
returns-in-Err-clause-judges c = λ names.
    let files = by_config faulty_config faulty_genesis faulty_blocks names c.args.config in
    judges_same refuses loaded (Err c.in-Err.stop) (course_with_bytes names c.args.config c.args.genesis c.args.blocks)
    (judges_stop refuses (λ (f : ChainFiles). f) loaded c.in-Err.stop (with_bytes c.args.blocks (with_bytes c.args.genesis files)) (λ (f : ChainFiles). Answer (loaded f))
    (judges_bytes refuses (λ (f : ChainFiles). f) (Err c.in-Err.stop) files c.into_inner-first.ensures c.into_inner-second.ensures (c.in-Err.ensures.judges names)))
