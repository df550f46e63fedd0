-- The goals of `names::Names::set` that no tactic closes.
use Rattle.std.proofs.Common.{◌∙◌, ap, sym, length, set, Some, arith}
use Rattle.nr_trienodes.specs.Naming.{Names}
use Rattle.nr_trienodes.proofs.Own.{old_set, young_set, names-length}
use Rattle.nr_trienodes.proofs.names.Names.set.Goals as goal

pub returns-then-id-self : goal.returns-then-id-self
returns-then-id-self c =
    old_set c.self.inside.oldest c.args.id c.args.name c.self.inside.young.items
    c.args.self.now c.if-id-self.true c.self.view_is c.requires.own

pub index_mut-requires : goal.index_mut-requires
index_mut-requires c =
    omega (
      arith,
      c.requires.there,
      c.if-id-self.false,
      ap length c.self.view_is,
      names-length c.self.inside.oldest c.self.inside.young.items,
    )

pub returns : goal.returns
returns c =
    sym
    (young_set c.self.inside.oldest c.args.id c.self.inside.young.items (Some c.args.name)
    (omega (arith, c.if-id-self.false)))
    ∙ ap (λ (names : Names). set names c.args.id (Some c.args.name)) c.self.view_is
