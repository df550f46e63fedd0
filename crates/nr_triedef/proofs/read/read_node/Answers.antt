-- The goals of `read::read_node` that no tactic closes.
use Rattle.std.proofs.Common.{ap, subst, ◌∙◌, arith}
use Rattle.nr_bytes.specs.Answers.{Gives}
use Rattle.nr_triedef.specs.declared.fault.NodeFault.TheVariants.{Memory}
use Rattle.nr_triedef.specs.Reading.{node_at}
use Rattle.nr_triedef.proofs.Laws.{is_found, node_again}
use Rattle.nr_triedef.proofs.read.read_node.Goals as goal

pub returns-clause-found : goal.returns-clause-found
returns-clause-found c = is_found c.args.text.now c.read_whole.result (λ i. omega (arith, c.type_inv.text i)) c.read_whole.ensures

pub returns-clause-only : goal.returns-clause-only
returns-clause-only c = λ node is fits e. subst (Gives Memory c.read_whole.result) (ap node_at e ∙ node_again node is fits) c.read_whole.ensures
