-- The goals of `telling::call_line` that no tactic closes.
use Rattle.std.proofs.Common.{ℕ, List, ◌∙◌, ap, subst}
use Rattle.nr_onecall.specs.Setting.{CallRequest, called_of, call_request_in}
use Rattle.nr_onecall.specs.Texts.{TellsTrial}
use Rattle.nr_module.specs.Answers.{rated_end}
use Rattle.nr_module.proofs.telling.call_line.Goals as goal

pub returns : goal.returns
returns c =
    let config = c.args.loaded.now.config in
    let trial = c.in_ok-trial.trial in
    let by_code = subst (λ (code : List ℕ). TellsTrial trial (called_of config code (call_request_in c.request_of-request.result))) c.as_slice.ensures.value c.in_ok-trial.ensures in
    let by_request = subst (λ (q : CallRequest). TellsTrial trial (called_of config c.args.loaded.now.code.items q)) c.request_of-request.ensures by_code in
    (by_request.0, c.rated_end.ensures ∙ ap rated_end by_request.1)
