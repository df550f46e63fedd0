-- The goals of `lent::behind` that no tactic closes.
use Rattle.std.proofs.lemmas.List.{take_rest}
use Rattle.nr_keys.proofs.lent.behind.Goals as goal

pub returns : goal.returns
returns c = take_rest c.args.bytes.now c.args.at
