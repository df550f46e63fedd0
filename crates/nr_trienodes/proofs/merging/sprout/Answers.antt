-- The goals of `merging::sprout` that no tactic closes.
use Rattle.std.proofs.Common.{◌≡◌, ap, sym, subst, ◌∙◌}
use Rattle.nr_triedef.specs.Node.{IsNibbles}
use Rattle.nr_trienodes.specs.declared.open_way.OpenNode.{OpenNode}
use Rattle.nr_trienodes.proofs.Moves.{pushed_bare, along_pushed}
use Rattle.nr_trienodes.proofs.merging.sprout.Goals as goal

pub returns-clause-steady : goal.returns-clause-steady
returns-clause-steady c =
    let top : c.push.new.self.top ≡ c.bare.result = c.in_ok-push.ensures.top in
    let part : c.push.new.self.top.part ≡ c.in_ok-part.part = ap (λ (n : OpenNode). n.part) top ∙ c.bare.ensures.part in
    pushed_bare c.args.nodes.now c.args.way.now c.push.new.self c.args.nibble c.requires.way c.requires.goes.small c.in_ok-push.ensures.levels (c.in_ok-push.ensures.at ∙ c.requires.next) c.requires.none
    (subst IsNibbles (sym part) c.in_ok-part.ensures.small) (ap (λ (n : OpenNode). n.value) top ∙ c.bare.ensures.value) (ap (λ (n : OpenNode). n.row) top ∙ c.bare.ensures.row)

pub returns-clause-along : goal.returns-clause-along
returns-clause-along c = along_pushed c.args.key.now c.args.way.now c.push.new.self c.args.nibble c.args.next c.requires.along c.requires.goes.part c.in_ok-push.ensures.levels c.in_ok-push.ensures.at
