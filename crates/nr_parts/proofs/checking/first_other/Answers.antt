-- The goals of `checking::first_other` that no tactic closes.
use Rattle.std.proofs.Common.{◌≡◌, length, drop, ◌-◌, inl, inr, sym, ◌∙◌, length-drop, arith}
use Rattle.nr_parts.proofs.Others.{unequal}
use Rattle.nr_parts.proofs.checking.first_other.Goals as goal
use Rattle.nr_parts.proofs.checking.first_other.Goals.{then-loop-i-test+else-i-claims, else-loop-i-test}

pub returns-else-entries-claims : goal.returns-else-entries-claims
returns-else-entries-claims c =
    let one : length (drop c.loop-i.i c.args.entries.now) ≡ length c.args.entries.now - c.loop-i.i = length-drop c.loop-i.i c.args.entries.now in
    let two : length (drop c.loop-i.i c.args.claims.now) ≡ length c.args.claims.now - c.loop-i.i = length-drop c.loop-i.i c.args.claims.now in
    sym (unequal c.loop-i.i (drop c.loop-i.i c.args.entries.now) (drop c.loop-i.i c.args.claims.now)
    (elim c.loop-i-test.branch [
      | then-loop-i-test+else-i-claims w ↦ inr (omega (arith, two, w.if-i-claims.false))
      | else-loop-i-test w ↦ inl (omega (arith, one, w.loop-i-test.false))
    ])
    (λ same. c.if-entries-claims.false (omega (arith, one, two, same, c.loop-i.invariant.few, c.loop-i.invariant.fewer))))
    ∙ c.loop-i.invariant.so_far
