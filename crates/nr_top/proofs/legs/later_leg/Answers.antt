-- The goals of `legs::later_leg` that no tactic closes.
use Rattle.std.proofs.Common.{◌≡◌, ◌+◌, true, false, sym, subst}
use Rattle.std.specs.Prelude.{IfOk, nat_lt}
use Rattle.nr_chunk.specs.Chain.{Chain, rules_of}
use Rattle.nr_chunk.specs.Runs.{chain_in}
use Rattle.nr_top.proofs.BothLegs.{first_has, second_has}
use Rattle.nr_top.proofs.legs.later_leg.Goals as goal

pub returns-then-is_behind-clause-leg : goal.returns-then-is_behind-clause-leg
returns-then-is_behind-clause-leg c =
    let x : Chain = chain_in c.args.chain in
    let past : nat_lt (x.start.below + (rules_of x).heights) c.args.height ≡ true = cc in
    subst (λ (z : Chain). IfOk c.second_leg.result (λ leg. chain_in leg.0 ≡ z))
    (sym (second_has x c.args.turn c.args.height past)) c.second_leg.ensures.leg

pub returns-else-is_behind-clause-leg : goal.returns-else-is_behind-clause-leg
returns-else-is_behind-clause-leg c =
    let x : Chain = chain_in c.args.chain in
    let past : nat_lt (x.start.below + (rules_of x).heights) c.args.height ≡ false = cc in
    sym (first_has x c.args.turn c.args.height past)
