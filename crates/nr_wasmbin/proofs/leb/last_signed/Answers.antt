-- The goals of `leb::last_signed` that no tactic closes.
use Rattle.std.proofs.Common.{◌<◌, ◌-◌, ◌*◌, ◌%◌, ◌^◌, ◌∷◌, refl, sym, ap, ◌∙◌, arith}
use Rattle.nr_wasmbin.proofs.OnLeb.{half_is, value_is, found, signed_last, signed_unused, signed_negative, signed_unused_negative}
use Rattle.nr_wasmbin.proofs.leb.last_signed.Goals as goal

pub returns-then-byte-half-clause-gives : goal.returns-then-byte-half-clause-gives
returns-then-byte-half-clause-gives c = λ others.
    sym (signed_unused c.args.bits (c.args.byte ∷ others) c.args.byte others refl c.if-byte-lt64.true (omega (arith, half_is c.args.bits c.requires.some c.requires.in_range, c.if-byte-half.true)))

pub returns-then-byte-lt64-clause-gives : goal.returns-then-byte-lt64-clause-gives
returns-then-byte-lt64-clause-gives c = λ others.
    sym (signed_last c.args.bits (c.args.byte ∷ others) c.args.byte others refl c.if-byte-lt64.true (omega (arith, half_is c.args.bits c.requires.some c.requires.in_range, c.if-byte-half.false)))

pub returns-then-part-half-clause-gives : goal.returns-then-part-half-clause-gives
returns-then-part-half-clause-gives c = λ others.
    sym (signed_unused_negative c.args.bits (c.args.byte ∷ others) c.args.byte others refl c.if-byte-lt64.false c.requires.last (omega (arith, half_is c.args.bits c.requires.some c.requires.in_range, c.if-part-half.true)))

pub returns-clause-gives : goal.returns-clause-gives
returns-clause-gives c = λ others.
    let fits : 127 - c.args.byte < 2 ^ (c.args.bits - 1) = omega (arith, half_is c.args.bits c.requires.some c.requires.in_range, c.if-part-half.false) in
    ap found (value_is c.args.bits (127 - c.args.byte) ((1 * 2 ^ (c.args.bits - 1)) % 2 ^ 64) c.requires.some (half_is c.args.bits c.requires.some c.requires.in_range) c.if-part-half.false)
    ∙ sym (signed_negative c.args.bits (c.args.byte ∷ others) c.args.byte others refl c.if-byte-lt64.false c.requires.last fits)
