-- The goals of `lent::calls_of` that no tactic closes.
use Rattle.std.proofs.Common.{refl, sym, ap, subst, arith, ◌∙◌}
use Rattle.std.specs.Prelude.{IsSome}
use Rattle.nr_keys.specs.Names.{names_read}
use Rattle.nr_keys.proofs.LentKeys.{calls_in, calls_there, are_here, calls_are}
use Rattle.nr_keys.proofs.lent.calls_of.Goals as goal

pub behind-requires : goal.behind-requires
behind-requires c =
    let are = are_here c.args.bytes.now c.in-Ok.allowance c.in-Ok-read.receiver _ _ _ c.at.result (λ i. omega (arith, c.type_inv.bytes i)) c.requires c.new-reader.ensures c.in-Ok.ensures.gives c.in-Ok-read.ensures.gives c.at.ensures in
    are.within

pub of-requires : goal.of-requires
of-requires c =
    let are = are_here c.args.bytes.now c.in-Ok.allowance c.in-Ok-read.receiver _ _ _ c.at.result (λ i. omega (arith, c.type_inv.bytes i)) c.requires c.new-reader.ensures c.in-Ok.ensures.gives c.in-Ok-read.ensures.gives c.at.ensures in
    subst IsSome (sym (ap names_read c.behind.ensures ∙ are.methods)) refl

pub returns : goal.returns
returns c =
    let are = are_here c.args.bytes.now c.in-Ok.allowance c.in-Ok-read.receiver _ _ _ c.at.result (λ i. omega (arith, c.type_inv.bytes i)) c.requires c.new-reader.ensures c.in-Ok.ensures.gives c.in-Ok-read.ensures.gives c.at.ensures in
    calls_are c.args.bytes.now (calls_in c.args.bytes.now) _ _ _ c.of.result are (calls_there _ c.requires) (ap names_read (sym c.behind.ensures) ∙ c.of.ensures)
