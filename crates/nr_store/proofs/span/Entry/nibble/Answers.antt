-- The goals of `span::Entry::nibble` that no tactic closes.
use Rattle.std.proofs.Common.{ap, sym, ◌∙◌, drop, List, ℕ, arith}
use Rattle.nr_store.specs.Tries.{first}
use Rattle.nr_store.proofs.Nibbles.{high_nibble, low_nibble, no_nibble}
use Rattle.nr_store.proofs.span.Entry.nibble.Goals as goal

pub returns-then-at-self-clause-value : goal.returns-then-at-self-clause-value
returns-then-at-self-clause-value c = sym (no_nibble c.self.inside.key.now c.args.at (omega arith)) ∙ ap (λ (p : List ℕ × List ℕ). first (drop c.args.at p.0)) c.self.view_is

pub returns-then-at-eq0-clause-value : goal.returns-then-at-eq0-clause-value
returns-then-at-eq0-clause-value c = sym (high_nibble c.self.inside.key.now c.args.at (omega arith) (omega arith)) ∙ ap (λ (p : List ℕ × List ℕ). first (drop c.args.at p.0)) c.self.view_is

pub returns-else-at-eq0-clause-value : goal.returns-else-at-eq0-clause-value
returns-else-at-eq0-clause-value c = sym (low_nibble c.self.inside.key.now c.args.at (omega arith) (λ e. omega arith)) ∙ ap (λ (p : List ℕ × List ℕ). first (drop c.args.at p.0)) c.self.view_is
