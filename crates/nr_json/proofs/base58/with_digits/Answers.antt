-- The goals of `base58::with_digits` that no tactic closes.
use Rattle.std.proofs.Common.{arith}
use Rattle.nr_json.specs.Base58.{wide_in, with_digits}
use Rattle.nr_json.proofs.Halves.{digits_go_on, digits_end, digits_done}
use Rattle.nr_json.proofs.base58.with_digits.Goals as goal

pub loop-character-preserved : goal.loop-character-preserved
loop-character-preserved c =
    let l = c.loop-character in
    digits_go_on (wide_in l.number) l.character-index c.args.text.now 0 (with_digits 0 c.args.text.now) (omega arith) l.invariant (wide_in c.in-Some.next) c.in-Some.ensures

pub returns-in-None : goal.returns-in-None
returns-in-None c =
    let l = c.loop-character in
    digits_end (wide_in l.number) l.character-index c.args.text.now 0 (with_digits 0 c.args.text.now) (omega arith) l.invariant c.in-None.ensures

pub returns : goal.returns
returns c =
    let l = c.loop-character in
    digits_done (wide_in l.number) l.character-index c.args.text.now (with_digits 0 c.args.text.now) (omega arith) l.invariant
