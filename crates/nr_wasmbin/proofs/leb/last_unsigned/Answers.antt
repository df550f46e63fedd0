-- The goals of `leb::last_unsigned` that no tactic closes.
use Rattle.std.proofs.Common.{◌∷◌, refl, sym, arith}
use Rattle.nr_wasmbin.proofs.OnLeb.{wide, above, below, unsigned_last, unsigned_unused}
use Rattle.nr_wasmbin.proofs.leb.last_unsigned.Goals as goal
use Rattle.nr_wasmbin.proofs.leb.last_unsigned.Goals.{else-bits-lt7-via-then-bits-lt7+else-byte-bits-ne0, else-bits-lt7-via-else-bits-lt7}

pub returns-then-byte-bits-ne0-clause-gives : goal.returns-then-byte-bits-ne0-clause-gives
returns-then-byte-bits-ne0-clause-gives c = λ others.
    sym (unsigned_unused c.args.bits (c.args.byte ∷ others) c.args.byte others refl c.requires.last (above c.args.byte c.args.bits c.if-byte-bits-ne0.true))

pub returns-clause-fits : goal.returns-clause-fits
returns-clause-fits c =
    elim c.else-bits-lt7.branch [
      | else-bits-lt7-via-then-bits-lt7+else-byte-bits-ne0 w ↦ below c.args.byte c.args.bits w.if-byte-bits-ne0.false
      | else-bits-lt7-via-else-bits-lt7 w ↦ omega (arith, wide c.args.bits w.if-bits-lt7.false)
    ]

pub returns-clause-gives : goal.returns-clause-gives
returns-clause-gives c = λ others.
    sym (unsigned_last c.args.bits (c.args.byte ∷ others) c.args.byte others refl c.requires.last (returns-clause-fits c))
