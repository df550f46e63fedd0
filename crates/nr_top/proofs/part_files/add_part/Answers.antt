-- The goals of `part_files::add_part` that no tactic closes.
use Rattle.std.proofs.Common.{[], ◌∷◌, ◌++◌, List, sym, ap}
use Rattle.nr_parts.specs.declared.part.Part.{Part}
use Rattle.nr_shell.specs.Plans.{Answer}
use Rattle.nr_shell.proofs.Leading.{judge_follows, stop_follows, then_follows}
use Rattle.nr_top.proofs.part_files.add_part.Goals as goal

pub returns-in-Ok-push_part : goal.returns-in-Ok-push_part
returns-in-Ok-push_part g c =
    then_follows (λ part. Answer (c.args.parts.now.items ++ part ∷ [])) c.in-Ok.ensures
    (judge_follows (ap (λ (ps : List Part). Answer ps) (sym c.in-Ok-push_part.ensures)))

pub returns-in-Err-push_part : goal.returns-in-Err-push_part
returns-in-Err-push_part g c = then_follows (λ part. Answer (c.args.parts.now.items ++ part ∷ [])) c.in-Ok.ensures (judge_follows tt)

pub returns-in-Err : goal.returns-in-Err
returns-in-Err g c = stop_follows (λ part. Answer (c.args.parts.now.items ++ part ∷ [])) c.in-Err.ensures
