-- The goals of `growing::few` that no tactic closes.
use Rattle.std.proofs.Common.{Some, [], ◌∷◌, ◌++◌, List, sym, ap, ◌∙◌, append-nil, arith}
use Rattle.std.specs.Prelude.{reverse}
use Rattle.nr_triedef.specs.declared.hash.Summary.{Summary}
use Rattle.nr_triedef.specs.Node.{summary}
use Rattle.nr_triedef.specs.declared.node.Node.{Node}
use Rattle.nr_store.proofs.Levels.{whole_none, whole_one}
use Rattle.nr_trielist.proofs.Branches.{all_none, all_one}
use Rattle.nr_trielist.proofs.growing.few.Goals as goal

pub returns-then-len-eq0-clause-top : goal.returns-then-len-eq0-clause-top
returns-then-len-eq0-clause-top c = sym (whole_none c.args.keys.now (omega arith))

pub returns-then-len-eq0-clause-nodes : goal.returns-then-len-eq0-clause-nodes
returns-then-len-eq0-clause-nodes c = sym (ap (λ (l : List Node). c.args.nodes.now.items ++ reverse l) (all_none c.args.keys.now (omega arith)) ∙ append-nil c.args.nodes.now.items)

pub returns-clause-top : goal.returns-clause-top
returns-clause-top c = ap (λ (s : Summary). Some s) (c.in_ok-top.ensures ∙ ap summary c.in_ok-node.ensures.value) ∙ sym (whole_one c.args.keys.now (omega arith))

pub returns-clause-nodes : goal.returns-clause-nodes
returns-clause-nodes c = c.in_ok-push.ensures.items ∙ ap (λ (n : Node). c.args.nodes.now.items ++ n ∷ []) c.in_ok-node.ensures.value ∙ sym (ap (λ (l : List Node). c.args.nodes.now.items ++ reverse l) (all_one c.args.keys.now (omega arith)))
