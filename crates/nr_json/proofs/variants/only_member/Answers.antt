-- The goals of `variants::only_member` that no tactic closes.
use Rattle.std.proofs.Common.{sym, ◌∙◌}
use Rattle.nr_json.proofs.Only.{not_one, the_one}
use Rattle.nr_json.proofs.variants.only_member.Goals as goal

pub returns-then-len-ne1 : goal.returns-then-len-ne1
returns-then-len-ne1 c = not_one c.args.object.now.entries (λ e. c.if-len-ne1.true (c.len.ensures.len ∙ e))

pub returns-in-Some : goal.returns-in-Some
returns-in-Some c =
    rw c.as_str.ensures.value (the_one c.args.object.now.entries (c.in-Some.name.now, c.in-Some.content.now) (sym c.len.ensures.len ∙ c.if-len-ne1.false) c.in-Some.ensures.first)
