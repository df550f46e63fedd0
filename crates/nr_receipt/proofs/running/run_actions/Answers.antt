-- The goals of `running::run_actions` that no tactic closes.
use Rattle.std.proofs.Common.{◌≡◌, true, cond, length, sym, ap, ◌∙◌}
use Rattle.nr_receipt.specs.Running.{Broken, Done, fails_storage}
use Rattle.nr_receipt.proofs.running.run_actions.Goals as goal

pub returns-then-branch : goal.returns-then-branch
returns-then-branch g c =
    let w = c.run_all.new.state.world in
    let f = c.run_all.new.frame in
    let fails : fails_storage c.args.config.now w f ≡ true = sym c.in_ok-fails_storage.ensures ∙ c.if-branch.true in (
      c.in_ok-run_all.ensures.0 ∙ ap (λ b. cond b (Broken (length f.act.actions) 10 0 f) (Done w f)) fails ∙ ap (λ n. Broken n 10 0 f) c.in_ok-run_all.ensures.2 ∙ ap (λ n. Broken c.args.count n 0 f) (sym c.number.ensures),
      c.in_ok-run_all.ensures.1,
    )
