-- The goals of `walking::walk_from` that no tactic closes.
use Rattle.std.proofs.Common.{List, Ok, Err, sym, ap, subst, ◌≡◌, ◌∙◌, arith}
use Rattle.std.proofs.lemmas.Result.{err_from_is_err_and}
use Rattle.nr_walk.specs.declared.searched.Searched.{Searched}
use Rattle.nr_walk.specs.declared.walking.Gain.{Gain}
use Rattle.nr_walk.specs.Walking.{visited}
use Rattle.nr_walk.proofs.Walks.{too_many, visited_fault, visited_more, emptied, ended_walk}
use Rattle.nr_walk.proofs.walking.walk_from.Goals as goal

pub returns-then-left-eq0 : goal.returns-then-left-eq0
returns-then-left-eq0 c = λ _. too_many c.args.texts.now c.args.searched.now c.loop-spot.left c.loop-spot.waiting.items c.pop.new.self.items c.in-Some.spot c.loop-spot.gains.items _ (omega arith) c.in-Some.ensures.items c.loop-spot.invariant.so_far

pub returns-in_err-step : goal.returns-in_err-step
returns-in_err-step c =
    let p = err_from_is_err_and c.from_residual-in_err-step.result c.from_residual-in_err-step.ensures.1 in
    rw (p.1, p.2) (λ other. visited_fault c.args.texts.now c.args.searched.now c.loop-spot.left c.loop-spot.waiting.items c.pop.new.self.items c.in-Some.spot c.in_err-step.field-0.0 c.loop-spot.gains.items _ (λ e. absurd (omega arith)) c.in-Some.ensures.items
    (subst (λ (s : List Searched). visited c.args.texts.now s c.in-Some.spot ≡ Err c.in_err-step.field-0.0) c.loop-spot.invariant.same (c.in_err-step.ensures.gives other)) c.loop-spot.invariant.so_far)

pub loop-spot-preserved : goal.loop-spot-preserved
loop-spot-preserved c = record {
  same = c.visited.ensures.same ∙ c.loop-spot.invariant.same;
  so_far =
      visited_more c.args.texts.now c.args.searched.now c.loop-spot.left c.loop-spot.waiting.items c.pop.new.self.items c.push_spots.new.waiting.items c.in-Some.spot c.in_ok-step.step c.loop-spot.gains.items c.push_gain.new.gains.items _ (λ e. absurd (omega arith)) c.in-Some.ensures.items
      (subst (λ (s : List Searched). visited c.args.texts.now s c.in-Some.spot ≡ Ok c.in_ok-step.step) c.loop-spot.invariant.same c.in_ok-step.ensures.gives) c.in_ok-push_gain.ensures c.in_ok-push_spots.ensures c.loop-spot.invariant.so_far;
}

pub returns : goal.returns
returns c =
    ended_walk c.args.texts.now c.args.searched.now c.loop-spot.left c.loop-spot.waiting.items c.loop-spot.gains.items _
    (emptied c.loop-spot.waiting.items c.pop.new.self.items _ c.in_default.ensures.cases.0 c.in_default.ensures.rest c.in_default.ensures.items) c.loop-spot.invariant.so_far
    ∙ ap (λ (xs : List Gain). Ok xs) (sym c.of-2.ensures)
