-- The goals of `nodes::Nodes::below` that no tactic closes.
use Rattle.std.proofs.Common.{Option, ap, sym, subst, ◌∙◌}
use Rattle.nr_triedef.specs.Node.{nibbles}
use Rattle.nr_triedef.specs.Stores.{keys_below}
use Rattle.nr_trienodes.specs.Roots.{IsRoot, contents}
use Rattle.nr_trienodes.specs.Listing.{TopsSo, AreWhole, keys_in}
use Rattle.nr_trienodes.specs.declared.nodes.NodeId.{NodeId}
use Rattle.nr_trienodes.proofs.Begins.{keys_none, keys_are, whole_keys}
use Rattle.nr_trienodes.proofs.nodes.Nodes.below.Goals as goal

pub returns-in_default : goal.returns-in_default
returns-in_default c =
    c.of.ensures ∙ c.new.ensures.items ∙ keys_none c.args.self.now c.args.prefix.now
    ∙ ap (λ (r : Option NodeId). keys_below c.args.prefix.now (contents c.args.self.now r)) (sym c.in_default.is)

pub returns-in_default-2 : goal.returns-in_default-2
returns-in_default-2 c =
    let none = subst (TopsSo c.args.self.now c.in-Some.root.0 c.args.prefix.now) c.in_default-2.is c.in_ok-top.ensures in
    c.of-in_default-2.ensures ∙ c.new-in_default-2.ensures.items ∙ ap keys_in (sym none)
    ∙ keys_are c.args.self.now c.in-Some.root c.args.prefix.now c.allocator-alloc.ensures (subst (IsRoot c.args.self.now) c.in-Some.is c.requires)
    ∙ ap (λ (r : Option NodeId). keys_below c.args.prefix.now (contents c.args.self.now r)) (sym c.in-Some.is)

pub keys_of-requires-clause-whole : goal.keys_of-requires-clause-whole
keys_of-requires-clause-whole c =
    let top = subst (TopsSo c.args.self.now c.in-Some.root.0 c.args.prefix.now) c.in-Some-2.is c.in_ok-top.ensures in
    subst AreWhole top.1 (whole_keys c.args.self.now c.in-Some.root (nibbles c.args.prefix.now) c.allocator-alloc.ensures (subst (IsRoot c.args.self.now) c.in-Some.is c.requires))

pub returns : goal.returns
returns c =
    let top = subst (TopsSo c.args.self.now c.in-Some.root.0 c.args.prefix.now) c.in-Some-2.is c.in_ok-top.ensures in
    c.in_ok-keys.ensures ∙ ap keys_in (sym top.1)
    ∙ keys_are c.args.self.now c.in-Some.root c.args.prefix.now c.allocator-alloc.ensures (subst (IsRoot c.args.self.now) c.in-Some.is c.requires)
    ∙ ap (λ (r : Option NodeId). keys_below c.args.prefix.now (contents c.args.self.now r)) (sym c.in-Some.is)
