-- The goals of `sought::found_behind` that no tactic closes.
use Rattle.std.proofs.Common.{◌≡◌, ◌==◌, true, List, ap, ◌∙◌}
use Rattle.std.specs.List.{starts_with}
use Rattle.nr_walk.specs.declared.searched.Searched.{Searched}
use Rattle.nr_walk.specs.Searched.{finds}
use Rattle.nr_walk.proofs.Narrowing.{finds_there}
use Rattle.nr_walk.proofs.sought.found_behind.Goals as goal

pub returns-then-leads : goal.returns-then-leads
returns-then-leads c =
    let there : starts_with ◌==◌ c.args.key.now c.args.step.now.place ≡ true = cc in
    c.finds_met.ensures ∙ ap (λ (ms : List Searched). finds ms c.args.key.now) c.deref.ensures.value ∙ finds_there c.args.all.now c.args.step.now.met.items c.args.step.now.place c.args.key.now c.requires there
