-- The goals of `nodes::Nodes::push` that no tactic closes.
use Rattle.std.proofs.Common.{◌∙◌, List, ℕ, subst, sym}
use Rattle.nr_triedef.specs.Node.{IsNibbles}
use Rattle.nr_trienodes.specs.Views.{Adds}
use Rattle.nr_trienodes.proofs.nodes.Nodes.push.Goals as goal

pub push_held-requires-clause-small : goal.push_held-requires-clause-small
push_held-requires-clause-small c = subst IsNibbles (sym (c.in_ok-front.ensures ∙ c.deref.ensures.value)) c.requires.small

pub returns-clause-ok : goal.returns-clause-ok
returns-clause-ok c = subst (λ (p : List ℕ). Adds c.args.self.now c.push_held.new.self c.in_ok-id.id p c.args.value c.args.row) (c.in_ok-front.ensures ∙ c.deref.ensures.value) c.in_ok-id.ensures.ok
