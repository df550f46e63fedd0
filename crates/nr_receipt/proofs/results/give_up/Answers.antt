-- The goals of `results::give_up` that no tactic closes.
use Rattle.std.proofs.Common.{None}
use Rattle.nr_receipt.proofs.Giving.{data_act}
use Rattle.nr_receipt.proofs.results.give_up.Goals as goal

pub give_deposits_back-requires : goal.give_deposits_back-requires
give_deposits_back-requires c = rw (c.in_ok-give_data.ensures, data_act None c.args.frame.now) c.requires
