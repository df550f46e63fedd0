-- The goals of `leb::last_of` that no tactic closes.
use Rattle.std.proofs.Common.{◌∷◌, Bool, sym, ap, ◌∙◌}
use Rattle.nr_wasmbin.specs.Leb.{number}
use Rattle.nr_wasmbin.proofs.leb.last_of.Goals as goal

pub returns-then-is_signed-clause-gives : goal.returns-then-is_signed-clause-gives
returns-then-is_signed-clause-gives c = λ others.
    c.last_signed.ensures.gives others ∙ ap (λ (s : Bool). number s c.args.bits (c.args.byte ∷ others)) (sym c.if-is_signed.true)

pub returns-clause-gives : goal.returns-clause-gives
returns-clause-gives c = λ others.
    c.last_unsigned.ensures.gives others ∙ ap (λ (s : Bool). number s c.args.bits (c.args.byte ∷ others)) (sym c.if-is_signed.false)
