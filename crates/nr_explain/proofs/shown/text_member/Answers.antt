-- The goals of `shown::text_member` that no tactic closes.
use Rattle.std.proofs.Common.{◌≡◌, refl, ap, ◌∙◌}
use Rattle.json.specs.Print.{quoted}
use Rattle.serde_json.specs.Written.{compact_text, has_float}
use Rattle.nr_explain.proofs.shown.text_member.Goals as goal

pub returns : goal.returns
returns c =
    let value = c.in_ok-value.ensures in
    let text : c.in_ok-quoted.quoted.items ≡ quoted c.args.text.now = c.in_ok-quoted.ensures.text (ap has_float value) ∙ ap compact_text value in
    c.in_ok-extend_from_slice.ensures.items ∙ rw (c.in_ok-member.ensures.items, c.deref.ensures.value, text) refl
