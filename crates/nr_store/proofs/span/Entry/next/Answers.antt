-- The goals of `span::Entry::next` that no tactic closes.
use Rattle.std.proofs.Common.{◌≡◌, ap, length, List, ℕ, arith}
use Rattle.nr_triedef.specs.Node.{nibbles}
use Rattle.nr_store.proofs.Nibbles.{length-nibbles}
use Rattle.nr_store.proofs.span.Entry.next.Goals as goal

pub prove-unreachable-requires : goal.prove-unreachable-requires
prove-unreachable-requires c =
    let v : length (nibbles c.self.inside.key.now) ≡ length c.args.self.now.0 = ap (λ (p : List ℕ × List ℕ). length p.0) c.self.view_is in
    omega (arith, v, length-nibbles c.self.inside.key.now)

pub overflow_add-result : goal.overflow_add-result
overflow_add-result c =
    let v : length (nibbles c.self.inside.key.now) ≡ length c.args.self.now.0 = ap (λ (p : List ℕ × List ℕ). length p.0) c.self.view_is in
    omega (arith, v, length-nibbles c.self.inside.key.now)
