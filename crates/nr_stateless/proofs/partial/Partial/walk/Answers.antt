-- The goals of `partial::Partial::walk` that no tactic closes.
use Rattle.std.proofs.Common.{ap, ◌∙◌}
use Rattle.nr_stateless.specs.Accounts.{searched_of}
use Rattle.nr_stateless.proofs.ByKeys.{accounts_shown}
use Rattle.nr_stateless.proofs.partial.Partial.walk.Goals as goal

pub returns-clause-whole : goal.returns-clause-whole
returns-clause-whole c =
    accounts_shown c.args.accounts.now c.inner-2.result.now c.args.texts.now c.args.root.now c.in_ok-parts.parts (c.inner-2.ensures ∙ c.in_ok-searched.ensures ∙ ap searched_of c.inner.ensures) c.in_ok-parts.ensures.whole
