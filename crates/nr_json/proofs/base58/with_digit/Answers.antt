-- The goals of `base58::with_digit` that no tactic closes.
use Rattle.std.proofs.Common.{sym, ap, ◌∙◌}
use Rattle.nr_json.specs.Base58.{with_digit, wide_in}
use Rattle.nr_json.proofs.Halves.{digit_below}
use Rattle.nr_json.proofs.base58.with_digit.Goals as goal

pub with_value-requires : goal.with_value-requires
with_value-requires c = digit_below c.args.character c.in-Some.digit (sym c.in-Some.ensures)

pub returns-in-Some : goal.returns-in-Some
returns-in-Some c = c.with_value.ensures ∙ ap (with_digit (wide_in c.args.number)) c.in-Some.ensures

pub returns-in-None : goal.returns-in-None
returns-in-None c = ap (with_digit (wide_in c.args.number)) c.in-None.ensures
