-- The goals of `groups::lead_with` that no tactic closes.
use Rattle.std.proofs.Common.{◌+◌, sym, ap, subst, ◌∙◌}
use Rattle.nr_blocks.specs.Groups.{LeadsOn}
use Rattle.nr_blocks.proofs.Stated.{leads_on}
use Rattle.nr_blocks.proofs.groups.lead_with.Goals as goal

pub returns : goal.returns
returns c = λ told es is stated.
    subst (LeadsOn c.args.config.now c.args.entry.now es) (sym c.ahead-bytes.ensures)
    (leads_on c.args.config.now c.args.entry.now es c.args.behind c.in_ok-all.all (c.in_ok-all.ensures ∙ ap (λ n. n + c.args.behind) c.in_ok-own.ensures) (sym c.states-stated.ensures ∙ told) is stated)
