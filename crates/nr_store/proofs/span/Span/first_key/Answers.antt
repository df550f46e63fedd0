-- The goals of `span::Span::first_key` that no tactic closes.
use Rattle.std.proofs.Common.{◌*◌, ◌-◌, length, take, drop, sym, ap, ◌∙◌, List, ℕ}
use Rattle.nr_store.proofs.Nibbles.{first_whole}
use Rattle.nr_store.proofs.span.Span.first_key.Goals as goal

pub returns-clause-value : goal.returns-clause-value
returns-clause-value c =
    c.in_ok-key.ensures
    ∙ ap (λ (p : List ℕ × List ℕ). take (2 * length c.first.inside.key.now - c.self.inside.offset) (drop c.self.inside.offset p.0)) (sym c.index-self-0.is)
    ∙ first_whole c.self.inside.offset c.self.inside.entries.now c.index-self-0.result c.args.self.now c.first.inside.key.now c.self.view_is c.requires c.index-self-0.is (ap (λ (p : List ℕ × List ℕ). p.0) (c.first.view_is ∙ sym c.index-self-0.is))
