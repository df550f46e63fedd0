-- The goals of `code::put_filler` that no tactic closes.
use Rattle.std.proofs.Common.{◌≡◌, arith}
use Rattle.nr_gen.specs.Code.{addition}
use Rattle.nr_gen.proofs.Lists.{joined_begins, joined_grows}
use Rattle.nr_gen.proofs.Modules.{filler_whole}
use Rattle.nr_gen.proofs.code.put_filler.Goals as goal

pub loop-step-init : goal.loop-step-init
loop-step-init c = joined_begins _ (addition c.args.filler)

pub loop-step-preserved : goal.loop-step-preserved
loop-step-preserved c = joined_grows _ _ (addition c.args.filler) _ _ c.loop-step.invariant c.in_ok-put_addition.ensures

pub returns : goal.returns
returns c =
    let all : c.loop-step.step ≡ 20 = omega arith in
    filler_whole c.args.filler c.requires c.args.code.now.items _ _ _ c.loop-step.step all c.in_ok-extend_from_slice.ensures.items c.loop-step.invariant c.in_ok-push.ensures.items
