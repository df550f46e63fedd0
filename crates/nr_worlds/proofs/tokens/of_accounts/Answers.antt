-- The goals of `tokens::of_accounts` that no tactic closes.
use Rattle.nr_worlds.proofs.Adding.{all_added}
use Rattle.nr_worlds.proofs.tokens.of_accounts.Goals as goal

pub returns : goal.returns
returns c = all_added c.loop-rest.rest.now c.args.accounts.now c.loop-rest.sum c.in_default.len_below c.loop-rest.invariant.total c.loop-rest.invariant.fits
