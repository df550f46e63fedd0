-- The goals of `files::read_part` that no tactic closes.
use Rattle.std.proofs.Common.{ap, subst, ◌∙◌, arith}
use Rattle.nr_bytes.specs.Answers.{Gives}
use Rattle.nr_parts.specs.Checking.{memory_fault}
use Rattle.nr_parts.specs.Files.{part_in}
use Rattle.nr_parts.proofs.Filed.{part_found, part_again}
use Rattle.nr_parts.proofs.files.read_part.Goals as goal

pub returns-clause-found : goal.returns-clause-found
returns-clause-found c = part_found c.args.bytes.now c.part_in.result (λ i. omega (arith, c.type_inv.bytes i)) c.part_in.ensures

pub returns-clause-only : goal.returns-clause-only
returns-clause-only c = λ part fits e. subst (Gives memory_fault c.part_in.result) (ap part_in e ∙ part_again part fits) c.part_in.ensures
