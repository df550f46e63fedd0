-- The goals of `calling::call` that no tactic closes.
use Rattle.std.proofs.Common.{sym, ◌∙◌}
use Rattle.nr_actions.proofs.Standing.{room_for}
use Rattle.nr_actions.proofs.calling.call.Goals as goal

pub with_deposit-account-requires : goal.with_deposit-account-requires
with_deposit-account-requires g c = room_for c.args.state.now.world c.args.frame.now.receiver c.args.context.now.deposit c.in-Some.account (sym c.in_ok-account.ensures ∙ c.in-Some.is) c.requires.room
