-- What holds at the loops of `base58::with_digits`.
use Rattle.std.proofs.Common.{◌≡◌, drop}
use Rattle.nr_json.specs.Base58.{wide_in, with_digits}
use Rattle.nr_json.proofs.base58.with_digits.Given as goal

abbrev pub invariant-loop-character : goal.invariant-loop-character
invariant-loop-character l = with_digits (wide_in l.number) (drop l.character-index l.text) ≡ with_digits 0 l.text
