-- Which files the plan of a command asks for.
use Rattle.std.proofs.Common.{ℕ, List, [], Option, Some, None, subst}
use Rattle.std.proofs.lemmas.List.{append-nil}
use Rattle.nr_chainfiles.specs.Plans.{chain_files, chain_plan}
use Rattle.nr_chainfiles.specs.declared.loading.ChainFiles.{ChainFiles}
use Rattle.nr_chainfiles.proofs.Asking.{chain_asks}
use Rattle.nr_shell.specs.Plans.{Answer, Asks}
use Rattle.nr_shell.proofs.Ends.{then_asks}
use Rattle.nr_words.specs.Command.{Names}
use Rattle.nr_audit.specs.Archive.{archive_text}
use Rattle.nr_audit.specs.Command.{Command, OfChain, OfText}
use Rattle.nr_audit.specs.Plans.{course_in, files_of, gather_plan, plan}
use Rattle.nr_audit.specs.declared.status.Status.TheVariants.{Config, Genesis, Blocks}

gather_asks : (names : Names) → Asks (chain_files names) (gather_plan names)
gather_asks names =
    subst (λ (files : List (List ℕ)). Asks files (gather_plan names)) (append-nil (chain_files names))
    (then_asks (chain_files names) [] (chain_plan Config Genesis Blocks names)
    (λ (files : ChainFiles). Answer (archive_text (course_in files))) (chain_asks Config Genesis Blocks names)
    (λ files. tt))

pub plan_asks : (asked : Option Command) → Asks (files_of asked) (plan asked)
plan_asks None = tt
plan_asks (Some (OfChain names)) = gather_asks names
plan_asks (Some (OfText text)) = tt
