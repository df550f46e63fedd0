-- The goals of `sought::push_met` that no tactic closes.
use Rattle.std.proofs.Common.{◌≡◌, ◌++◌, true, false, List, sym, ap, ◌∙◌, append-nil}
use Rattle.nr_walk.specs.declared.searched.Searched.{Searched}
use Rattle.nr_walk.specs.Searched.{is_met}
use Rattle.nr_walk.proofs.Narrowing.{listed, not_listed}
use Rattle.nr_walk.proofs.sought.push_met.Goals as goal

pub returns-then-not-is_met : goal.returns-then-not-is_met
returns-then-not-is_met c =
    let no : is_met c.args.place.now c.args.one.now ≡ false = cc in
    sym (append-nil c.args.list.now.items) ∙ ap (λ (l : List Searched). c.args.list.now.items ++ l) (sym (not_listed (is_met c.args.place.now) c.args.one.now no))

pub returns : goal.returns
returns c =
    let yes : is_met c.args.place.now c.args.one.now ≡ true = cc in
    c.in_ok-push.ensures.items ∙ ap (λ (l : List Searched). c.args.list.now.items ++ l) (sym (listed (is_met c.args.place.now) c.args.one.now yes))
