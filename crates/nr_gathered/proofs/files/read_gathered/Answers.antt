-- The goals of `files::read_gathered` that no tactic closes.
use Rattle.std.proofs.Common.{ap, subst, ◌∙◌, arith}
use Rattle.nr_bytes.specs.Answers.{Gives}
use Rattle.nr_gathered.specs.Files.{gathered_in}
use Rattle.nr_gathered.specs.declared.fault.GatheredFault.TheVariants.{Memory}
use Rattle.nr_gathered.proofs.Filed.{gathered_found, gathered_again}
use Rattle.nr_gathered.proofs.files.read_gathered.Goals as goal

pub returns-clause-found : goal.returns-clause-found
returns-clause-found c = gathered_found c.args.bytes.now c.gathered_in.result (λ i. omega (arith, c.type_inv.bytes i)) c.gathered_in.ensures

pub returns-clause-only : goal.returns-clause-only
returns-clause-only c = λ gathered fits e. subst (Gives Memory c.gathered_in.result) (ap gathered_in e ∙ gathered_again gathered fits) c.gathered_in.ensures
