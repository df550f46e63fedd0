-- The goals of `reports::Reports::text` that no tactic closes.
use Rattle.std.proofs.Common.{◌+◌, arith}
use Rattle.nr_outcome.specs.Reports.{report_in}
use Rattle.nr_outcome.specs.Texts.{height_text}
use Rattle.nr_outcome.proofs.Steps.{one_between, to_the_end}
use Rattle.nr_outcome.proofs.reports.Reports.text.Goals as goal

pub loop-below-preserved : goal.loop-below-preserved
loop-below-preserved c = record {
  text = one_between c.args.above.0 c.loop-below.below (λ h. height_text c.args.self.now.shards (report_in c.args.self.now) (h + 1)) c.loop-below.text c.add_height.new.text
      c.loop-below.invariant.from c.loop-below.invariant.text c.in_ok-add_height.ensures;
  from = omega (arith, c.loop-below.invariant.from);
  within = omega (arith, c.loop-below-test.true);
}

pub returns : goal.returns
returns c =
    to_the_end c.args.above.0 c.args.to.0 c.loop-below.below (λ h. height_text c.args.self.now.shards (report_in c.args.self.now) (h + 1)) c.loop-below.text
    c.loop-below.invariant.from c.loop-below.invariant.within (omega (arith, c.loop-below-test.false)) c.loop-below.invariant.text
