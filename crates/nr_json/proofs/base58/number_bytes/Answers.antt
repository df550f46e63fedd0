-- The goals of `base58::number_bytes` that no tactic closes.
use Rattle.std.proofs.Common.{◌++◌, sym, ap₂, ◌∙◌, arith}
use Rattle.std.specs.Int.{w128, to_be_bytes}
use Rattle.nr_json.proofs.Halves.{halves}
use Rattle.nr_json.proofs.base58.number_bytes.Goals as goal

pub returns : goal.returns
returns c =
    let h = halves c.args.number.high c.args.number.low (omega arith) in
    c.halves_bytes.ensures ∙ sym (ap₂ (λ a b. to_be_bytes w128 a ++ to_be_bytes w128 b) h.0 h.1)
