-- The goals of `written::leg_of` that no tactic closes.
use denote.Exit.{yes}
use denote.Param.Send.{param_send, param_sync, arg_send, arg_sync}
use Rattle.nr_contract.specs.contracts.caller.ContractCaller as C
use Rattle.nr_replay.proofs.Crossing.{caller_send, caller_sync}
use Rattle.std.proofs.Common.{◌≡◌, sym, ap, ◌∙◌}
use Rattle.nr_chunk.specs.Chain.{Chain, rules_of}
use Rattle.nr_replay.specs.Chains.{chain_in}
use Rattle.nr_replay.proofs.Whole.{leg_text_is}
use Rattle.nr_replay.proofs.written.leg_of.Goals as goal

pub returns-clause-text : goal.returns-clause-text
returns-clause-text g c =
    let outcome = c.in_ok-outcome.outcome in
    let same : chain_in outcome.chain ≡ chain_in c.args.chain = ap (λ run. chain_in run) c.in_ok-outcome.ensures in
    leg_text_is (chain_in outcome.chain) (chain_in c.args.chain) c.reports.result.now c.heights-heights.result c.in_ok-text.text
    same c.reports.ensures (c.heights-heights.ensures ∙ ap (λ (z : Chain). (rules_of z).heights) (sym same)) c.in_ok-text.ensures

pub run_to_end-requires-send-C : goal.run_to_end-requires-send-C
run_to_end-requires-send-C g c κs within = param_send 1 _ (arg_send _ yes C.the_row (caller_send (record { owned = c.is_send.ensures.owned; leaving = λ k x w. tt })))

pub run_to_end-requires-sync-C : goal.run_to_end-requires-sync-C
run_to_end-requires-sync-C g c κs within = param_sync 1 _ (arg_sync _ yes C.the_row (caller_sync (record { owned = c.is_send.ensures.owned; leaving = λ k x w. tt })))
