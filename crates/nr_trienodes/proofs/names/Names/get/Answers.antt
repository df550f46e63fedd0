-- The goals of `names::Names::get` that no tactic closes.
use Rattle.std.proofs.Common.{◌∙◌, ◌-◌, ap, sym, length, arith}
use Rattle.nr_trienodes.specs.Naming.{Names, new_name}
use Rattle.nr_trienodes.proofs.Own.{old_name, young_name, names-length, held}
use Rattle.nr_trienodes.proofs.names.Names.get.Goals as goal

pub returns-then-id-self : goal.returns-then-id-self
returns-then-id-self c =
    sym (old_name c.self.inside.oldest c.args.id c.self.inside.young.items c.if-id-self.true)
    ∙ ap (λ (names : Names). new_name names c.args.id) c.self.view_is

pub index-requires : goal.index-requires
index-requires c =
    omega (
      arith,
      c.requires,
      c.if-id-self.false,
      ap length c.self.view_is,
      names-length c.self.inside.oldest c.self.inside.young.items,
    )

pub returns : goal.returns
returns c =
    held c.self.inside.young.items (c.args.id - c.self.inside.oldest) c.index.result.now
    (omega (arith, c.requires, c.if-id-self.false, ap length c.self.view_is, names-length c.self.inside.oldest c.self.inside.young.items))
    c.index.ensures
    ∙ sym (young_name c.self.inside.oldest c.args.id c.self.inside.young.items (omega (arith, c.if-id-self.false)))
    ∙ ap (λ (names : Names). new_name names c.args.id) c.self.view_is
