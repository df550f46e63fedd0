-- The goals of `making::extension` that no tactic closes.
use Rattle.nr_triedef.proofs.Parts.{extension_is_node}
use Rattle.nr_trielist.proofs.making.extension.Goals as goal

pub returns-clause-form : goal.returns-clause-form
returns-clause-form c = rw c.in_ok-part.ensures (extension_is_node c.args.shared.now c.hash.result c.in_ok-usage.usage c.requires.small c.requires.some)
