-- The goals of `explaining::meeting` that no tactic closes.
use Rattle.std.proofs.Common.{◌≡◌, ◌≢◌, rules}
use Rattle.std.proofs.lemmas.List.{take_rest}
use Rattle.nr_outproof.proofs.Ascending.{apart_above, apart_meets, apart_end}
use Rattle.nr_outproof.proofs.explaining.meeting.Goals as goal

pub levels-preserved : goal.levels-preserved
levels-preserved c =
    let l = c.levels in
    let differ : c.joined-first_top.result ≢ c.joined-second_top.result = search rules in
    apart_above _ _ _ _ _ l.sides.now l.first l.first_path.now l.second l.second_path.now _ _ _ _ _ _ _ _ l.invariant c.in-len1-up.len_at_least
    (take_rest l.sides.now 1) (take_rest l.first_path.now 1) (take_rest l.second_path.now 1) c.joined-first_top.ensures c.joined-second_top.ensures differ

pub returns-then-eq : goal.returns-then-eq
returns-then-eq c =
    let l = c.levels in
    let same : c.joined-first_top.result ≡ c.joined-second_top.result = search rules in
    rw c.collision.ensures (
    apart_meets _ _ _ _ _ l.sides.now l.first l.first_path.now l.second l.second_path.now _ _ _ _ _ _ _ l.invariant c.in-len1-up.len_at_least
    c.joined-first_top.ensures c.joined-second_top.ensures same c.in_ok-first_text.ensures c.in_ok-second_text.ensures
    )

pub unreachable-requires-2 : goal.unreachable-requires-2
unreachable-requires-2 c =
    let l = c.levels in
    apart_end _ _ _ _ _ l.sides.now l.first l.first_path.now l.second l.second_path.now l.invariant c.in_default.len_below
