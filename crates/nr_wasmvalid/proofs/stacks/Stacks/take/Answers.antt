-- The goals of `stacks::Stacks::take` that no tactic closes.
use Rattle.std.proofs.Common.{arith, rules}
use Rattle.std.proofs.lemmas.Result.{err_from_is_err_and}
use Rattle.nr_wasmvalid.proofs.OnShapes.{takes_on, takes_stop}
use Rattle.nr_wasmvalid.proofs.stacks.Stacks.take.Goals as goal

pub returns-in_err-take_one-clause-leaves : goal.returns-in_err-take_one-clause-leaves
returns-in_err-take_one-clause-leaves c =
    let p = err_from_is_err_and c.from_residual.result c.from_residual.ensures.1 in
    rw (p.1, p.2) (λ other. takes_stop c.args.wanted.now c.loop-one.one-index _ c.loop-one.self.shape c.args.self.now.shape _ (omega arith) (c.in_err-take_one.ensures.leaves other) c.loop-one.invariant.taken)

pub loop-one-preserved : goal.loop-one-preserved
loop-one-preserved c = record {
  taken = takes_on c.args.wanted.now c.loop-one.one-index _ c.loop-one.self.shape c.take_one.new.self.shape c.args.self.now.shape (omega arith) c.in_ok-take_one.ensures.leaves c.loop-one.invariant.taken;
  around = search rules;
}
