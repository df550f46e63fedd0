-- The goals of `listing::bend_of` that no tactic closes.
use Rattle.std.proofs.Common.{◌+◌, Some, ap, sym, refl, ◌∙◌}
use Rattle.std.specs.Prelude.{List, ℕ}
use Rattle.nr_trienodes.specs.Turns.{left}
use Rattle.nr_trienodes.proofs.Begins.{bend_whole, bend_nowhere, bend_end, bend_sprout, bend_down}
use Rattle.nr_trienodes.proofs.listing.bend_of.Goals as goal

pub returns-in-Ends : goal.returns-in-Ends
returns-in-Ends c = bend_whole c.args.nodes.now c.args.id (left c.args.prefix.now c.args.at) c.part.result.now c.count-sound.ensures.sound c.requires c.part.ensures c.in-Ends.ensures

pub returns-in-Leaves : goal.returns-in-Leaves
returns-in-Leaves c = bend_nowhere c.args.nodes.now c.args.id (left c.args.prefix.now c.args.at) c.part.result.now c.count-sound.ensures.sound c.requires c.part.ensures c.in-Leaves.ensures

pub returns-in_default : goal.returns-in_default
returns-in_default c = bend_end c.args.nodes.now c.args.id (left c.args.prefix.now c.args.at) c.part.result.now c.count-sound.ensures.sound c.requires c.part.ensures (c.in-Goes.ensures ∙ ap (λ (r : List ℕ). Some r) c.in_default.ensures)

pub returns-in-None : goal.returns-in-None
returns-in-None c = bend_sprout c.args.nodes.now c.args.id (left c.args.prefix.now c.args.at) c.part.result.now (left c.args.prefix.now (c.in-Goes.place + 1)) c.in-Some.nibble c.count-sound.ensures.sound c.requires c.part.ensures (c.in-Goes.ensures ∙ ap (λ (r : List ℕ). Some r) c.in-Some.ensures.is) (sym c.in-None.ensures.value)

pub returns-in-Some-child : goal.returns-in-Some-child
returns-in-Some-child c =
    let down = sym c.in-Some-child.ensures.value in
    record {
      there = c.in-Some-child.ensures.smaller c.in-Some-child.child refl;
      small = c.in-Some.ensures.small;
      paths = bend_down c.args.nodes.now c.args.id (left c.args.prefix.now c.args.at) c.part.result.now (left c.args.prefix.now (c.in-Goes.place + 1)) c.in-Some.nibble c.in-Some-child.child c.count-sound.ensures.sound c.requires c.part.ensures (c.in-Goes.ensures ∙ ap (λ (r : List ℕ). Some r) c.in-Some.ensures.is) down;
    }
