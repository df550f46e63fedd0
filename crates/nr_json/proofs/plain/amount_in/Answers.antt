-- The goals of `plain::amount_in` that no tactic closes.
use Rattle.std.proofs.Common.{◌≡◌, true}
use Rattle.nr_json.specs.Plain.{is_numeral}
use Rattle.nr_json.proofs.Amounts.{too_large}
use Rattle.nr_json.proofs.plain.amount_in.Goals as goal

pub returns-in-Err : goal.returns-in-Err
returns-in-Err c =
    let numeral : is_numeral c.args.text.now ≡ true = cc in
    too_large c.args.text.now numeral c.in-Err.ensures.value.0
