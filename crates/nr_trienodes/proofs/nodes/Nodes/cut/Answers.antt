-- The goals of `nodes::Nodes::cut` that no tactic closes.
use Rattle.std.proofs.Common.{◌+◌, ◌*◌, ℕ, length, Option, None, sym, subst}
use Rattle.nr_triedef.specs.Node.{nibbles}
use Rattle.nr_trienodes.specs.Turns.{Changes}
use Rattle.nr_trienodes.specs.Roots.{name_in}
use Rattle.nr_trienodes.proofs.Changed.{is_cut}
use Rattle.nr_trienodes.proofs.nodes.Nodes.cut.Goals as goal

pub returns-in-Ok-clause-cut : goal.returns-in-Ok-clause-cut
returns-in-Ok-clause-cut c =
    is_cut c.args.self.now c.cut_from.new.nodes c.args.root c.named.result c.args.key.now (2 * length (nibbles c.args.key.now) + 3) c.room_for.ensures.sound c.cut_from.ensures.sound c.requires
    (subst (λ (n : Option ℕ). Changes c.args.self.now c.cut_from.new.nodes (name_in c.args.root) n (nibbles c.args.key.now) None (2 * length (nibbles c.args.key.now) + 3)) (sym c.named.ensures) c.in-Ok.ensures.cut)
