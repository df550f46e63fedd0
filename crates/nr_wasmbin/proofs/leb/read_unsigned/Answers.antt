-- The goals of `leb::read_unsigned` that no tactic closes.
use Rattle.std.proofs.Common.{◌∷◌, length, sym, ap, ◌∙◌, arith}
use Rattle.nr_wasmbin.specs.Leb.{unsigned}
use Rattle.nr_wasmbin.proofs.OnLeb.{unsigned_none, within_longer}
use Rattle.nr_wasmbin.proofs.leb.read_unsigned.Goals as goal

pub returns-in_default-clause-gives : goal.returns-in_default-clause-gives
returns-in_default-clause-gives c = sym (unsigned_none c.args.bits c.args.bytes.now c.in_default.ensures.cases)

pub returns-then-byte-lt128-clause-gives : goal.returns-then-byte-lt128-clause-gives
returns-then-byte-lt128-clause-gives c = c.last_unsigned.ensures.gives c.in-Some.others.now ∙ ap (unsigned c.args.bits) (sym (c.in-Some.ensures.cases.0 ∙ ap (λ b. b ∷ c.in-Some.others.now) (sym c.from-byte.ensures)))

pub read_more-requires-clause-small : goal.read_more-requires-clause-small
read_more-requires-clause-small c = omega (arith, c.from-byte.ensures)

pub returns-clause-gives : goal.returns-clause-gives
returns-clause-gives c = c.read_more.ensures.gives ∙ ap (unsigned c.args.bits) (sym (c.in-Some.ensures.cases.0 ∙ ap (λ b. b ∷ c.in-Some.others.now) (sym c.from-byte.ensures)))

pub returns-clause-within : goal.returns-clause-within
returns-clause-within c = within_longer c.read_more.result (length c.in-Some.others.now) (length c.args.bytes.now) (omega (arith, ap length c.in-Some.ensures.cases.0)) c.read_more.ensures.within
