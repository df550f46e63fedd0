-- The goals of `base58::count_ahead` that no tactic closes.
use Rattle.std.proofs.Common.{length, ap}
use Rattle.std.specs.Prelude.{unwrap_or}
use Rattle.nr_json.proofs.base58.count_ahead.Goals as goal

pub returns-in-Some : goal.returns-in-Some
returns-in-Some c = ap (λ o. unwrap_or o (length c.args.bytes.now)) c.in-Some.ensures

pub returns-in-None : goal.returns-in-None
returns-in-None c = ap (λ o. unwrap_or o (length c.args.bytes.now)) c.in-None.ensures
