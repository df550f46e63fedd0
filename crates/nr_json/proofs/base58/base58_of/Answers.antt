-- The goals of `base58::base58_of` that no tactic closes.
use Rattle.std.proofs.Common.{ap, ◌∙◌}
use Rattle.std.specs.Prelude.{option_and_then}
use Rattle.nr_json.specs.Base58.{if_whole, number_bytes}
use Rattle.nr_json.proofs.base58.base58_of.Goals as goal

pub returns-in-Some : goal.returns-in-Some
returns-in-Some c =
    c.if_whole.ensures ∙ ap (if_whole c.args.text.now) c.number_bytes.ensures ∙ ap (option_and_then (λ n. if_whole c.args.text.now (number_bytes n))) c.in-Some.ensures

pub returns-in-None : goal.returns-in-None
returns-in-None c = ap (option_and_then (λ n. if_whole c.args.text.now (number_bytes n))) c.in-None.ensures
