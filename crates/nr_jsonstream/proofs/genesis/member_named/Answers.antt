-- The goals of `genesis::member_named` that no tactic closes.
use Rattle.std.specs.Cmp.Lexicographic.{same_text, other_text}
use Rattle.nr_jsonstream.proofs.genesis.member_named.Goals as goal

pub returns-then-eq : goal.returns-then-eq
returns-then-eq c = same_text _ _ c.if-eq.ensures

pub returns-then-eq-2 : goal.returns-then-eq-2
returns-then-eq-2 c = same_text _ _ c.if-eq-2.ensures

pub returns-else-eq-2 : goal.returns-else-eq-2
returns-else-eq-2 c = (other_text _ _ c.if-eq.ensures, other_text _ _ c.if-eq-2.ensures)
