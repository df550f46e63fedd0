-- The goals of `walking::walk_from` that no tactic closes.
use Rattle.std.proofs.Common.{◌≡◌, [], List, Ok, arith, sym, ap, ◌∙◌}
use Rattle.std.proofs.lemmas.Result.{err_from_is_err_and}
use Rattle.nr_parts.specs.declared.walking.Claim.{Claim}
use Rattle.nr_parts.proofs.Turns.{Claims, goes_on, stops, many, ends}
use Rattle.nr_parts.proofs.walking.walk_from.Goals as goal

pub returns-then-left-eq0 : goal.returns-then-left-eq0
returns-then-left-eq0 c = λ _. many c.args.texts.now c.args.share c.loop-spot.left c.loop-spot.at c.loop-spot.waiting c.pop.new.self c.in-Some.spot c.loop-spot.claims.items _ c.in-Some.ensures c.if-left-eq0.true c.loop-spot.invariant.so_far

pub returns-in_err-visit : goal.returns-in_err-visit
returns-in_err-visit c =
    let p = err_from_is_err_and c.from_residual-in_err-visit.result c.from_residual-in_err-visit.ensures.1 in
    rw (p.1, p.2) (λ other. stops c.args.texts.now c.args.share c.loop-spot.left c.loop-spot.at c.loop-spot.waiting c.pop.new.self c.in-Some.spot c.loop-spot.claims.items c.in_err-visit.field-0.0 _ c.in-Some.ensures (omega arith) (c.in_err-visit.ensures.value other) c.loop-spot.invariant.so_far)

pub loop-spot-preserved : goal.loop-spot-preserved
loop-spot-preserved c = record {
  so_far =
      goes_on c.args.texts.now c.args.share c.loop-spot.left c.loop-spot.at c.loop-spot.waiting c.pop.new.self
      c.put-in-Some.new.self c.in-Some.spot c.loop-spot.claims.items c.push_claim.new.claims.items c.in_ok-visit.visit
      _ c.in-Some.ensures (omega arith) c.in_ok-visit.ensures.value c.in_ok-push_claim.ensures c.in_ok-put-2.ensures
      c.loop-spot.invariant.so_far;
  low = omega (arith, c.in_ok-visit.ensures.further, c.loop-spot.invariant.low, c.if-left-eq0.false);
}

pub returns : goal.returns
returns c =
    let none : c.loop-spot.waiting ≡ [] = grind arith in
    ends c.args.texts.now c.args.share c.loop-spot.left c.loop-spot.at c.loop-spot.waiting c.loop-spot.claims.items _ none c.loop-spot.invariant.so_far ∙ ap {B = Claims} (λ (l : List Claim). Ok l) (sym c.of.ensures)
