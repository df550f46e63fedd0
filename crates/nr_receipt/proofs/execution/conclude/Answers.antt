-- The goals of `execution::conclude` that no tactic closes.
use Rattle.nr_receipt.specs.Frames.{burning_price}
use Rattle.nr_receipt.proofs.Concluding.{room_less}
use Rattle.nr_receipt.proofs.execution.conclude.Goals as goal
use Rattle.std.proofs.Common.{◌*◌}

pub pay_reward-requires-clause-room : goal.pay_reward-requires-clause-room
pay_reward-requires-clause-room g c = room_less c.args.state.now.world c.args.frame.now.receiver (c.args.frame.now.call_burnt * burning_price c.args.frame.now) c.reward_of-reward.result c.reward_of-reward.ensures.less c.requires.can.room
