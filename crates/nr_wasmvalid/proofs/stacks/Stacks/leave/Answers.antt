-- The goals of `stacks::Stacks::leave` that no tactic closes.
use Rattle.std.proofs.Common.{◌≡◌, ◌++◌, [], ◌∷◌, ap, sym, ◌∙◌}
use Rattle.std.specs.Option.{option_to_list}
use Rattle.nr_wasmvalid.specs.Frames.{Frames}
use Rattle.nr_wasmvalid.proofs.OnStacks.{leave_shape, leave_labels}
use Rattle.nr_wasmvalid.proofs.stacks.Stacks.leave.Goals as goal

pub returns-clause-shape : goal.returns-clause-shape
returns-clause-shape c =
    let g = c.unwrap-self-inside.result in
    let all : c.self.inside.around.items ≡ c.pop.new.self.items ++ g ∷ [] = c.pop.ensures.items ∙ ap (λ r. c.pop.new.self.items ++ option_to_list r) c.unwrap-self-inside.ensures in
    leave_shape c.self.inside.operands.items c.self.inside.frame.height g c.pop.new.self.items c.self.inside.around.items (ap (λ (v : Frames). v.shape.known) c.self.view_is ∙ c.requires.empty) all
    ∙ ap (λ (v : Frames). v.outer) c.self.view_is

pub returns-clause-labels : goal.returns-clause-labels
returns-clause-labels c =
    let g = c.unwrap-self-inside.result in
    let all : c.self.inside.around.items ≡ c.pop.new.self.items ++ g ∷ [] = c.pop.ensures.items ∙ ap (λ r. c.pop.new.self.items ++ option_to_list r) c.unwrap-self-inside.ensures in
    (c.self.inside.frame.label, sym (ap (λ (v : Frames). v.labels) c.self.view_is) ∙ leave_labels c.self.inside.frame.label g c.pop.new.self.items c.self.inside.around.items all)
