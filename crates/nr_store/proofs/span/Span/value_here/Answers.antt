-- The goals of `span::Span::value_here` that no tactic closes.
use Rattle.std.proofs.Common.{◌≡◌, Some, false, true, length, drop, sym, ap, ◌∙◌, List, ℕ}
use Rattle.std.specs.Prelude.{is_some}
use Rattle.std.proofs.lemmas.Bool.{eqb-true}
use Rattle.nr_triedef.specs.Root.{value_here}
use Rattle.nr_store.specs.Tries.{first}
use Rattle.nr_store.proofs.Orders.{value_nothing, value_first, value_none, some_there}
use Rattle.nr_store.proofs.span.Span.value_here.Goals as goal

pub returns-then-is_empty : goal.returns-then-is_empty
returns-then-is_empty c = value_nothing c.self.inside.offset c.self.inside.entries.now c.args.self.now c.self.view_is (eqb-true (length c.self.inside.entries.now) 0 (sym c.if-is_empty.ensures))

pub returns-then-is_some : goal.returns-then-is_some
returns-then-is_some c =
    let found : is_some (first (drop c.self.inside.offset c.index-self-0.result.0)) ≡ true =
    ap (λ (p : List ℕ × List ℕ). is_some (first (drop c.self.inside.offset p.0))) c.index-self-0.is ∙ ap is_some (sym c.nibble.ensures.value) ∙ sym c.if-is_some.ensures in
    ap value_here (sym c.self.view_is) ∙ value_none c.self.inside.offset c.self.inside.entries.now c.index-self-0.result c.self.invariant.order (some_there (length c.self.inside.entries.now) c.if-is_empty.ensures) c.index-self-0.is found

pub returns : goal.returns
returns c =
    let none : is_some (first (drop c.self.inside.offset c.index-self-0.result.0)) ≡ false =
    ap (λ (p : List ℕ × List ℕ). is_some (first (drop c.self.inside.offset p.0))) c.index-self-0.is ∙ ap is_some (sym c.nibble.ensures.value) ∙ sym c.if-is_some.ensures in
    ap value_here (sym c.self.view_is) ∙ value_first c.self.inside.offset c.self.inside.entries.now c.index-self-0.result (some_there (length c.self.inside.entries.now) c.if-is_empty.ensures) c.index-self-0.is none
    ∙ ap (λ (p : List ℕ × List ℕ). Some p.1) (c.index-self-0.is ∙ sym c.first.view_is)
