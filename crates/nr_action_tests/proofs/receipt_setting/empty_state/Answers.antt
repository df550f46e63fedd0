-- The goals of `receipt_setting::empty_state` that no tactic closes.
use Rattle.std.proofs.Common.{ap, arith}
use Rattle.nr_state.specs.Tokens.{world_tokens}
use Rattle.nr_action_tests.proofs.Sounding.{nothing_held}
use Rattle.nr_action_tests.proofs.receipt_setting.empty_state.Goals as goal

pub returns-clause-sound : goal.returns-clause-sound
returns-clause-sound c = record {
  whole = c.new-2.ensures.whole;
  config = c.new-2.ensures.config;
  marks = c.new-2.ensures.marks;
  valid = rw c.new-2.ensures.world (c.valid_world_laws.ensures.empty c.args.config.now);
  tokens = omega (arith, ap (world_tokens c.args.config.now) c.new-2.ensures.world, nothing_held c.args.config.now);
}
