-- The goals of `merging::put_along` that no tactic closes.
use Rattle.std.proofs.Common.{◌+◌, ℕ, List, Option, length, Some, ap, refl, subst, arith}
use Rattle.nr_triedef.specs.Node.{nibbles}
use Rattle.nr_trienodes.specs.Turns.{left, Sets, stands_for}
use Rattle.nr_trienodes.proofs.Sets.{sets_value}
use Rattle.nr_trienodes.proofs.Moves.{steady_trans, valued, left_le, stands_here, found_behind}
use Rattle.nr_trienodes.proofs.merging.put_along.Goals as goal

pub returns-clause-put : goal.returns-clause-put
returns-clause-put c =
    let old = c.args.nodes.now in
    let new = c.reach.new.nodes in
    let first = c.args.way.now in
    let mid = c.descend.new.way in
    let w = c.reach.new.way in
    let before : ℕ = length (left c.args.key.now first.at) in
    let then : ℕ = length (left c.args.key.now mid.at) in
    let steady = steady_trans old old new first mid w before then (then + 1) 0 (before + 1) 0 c.in_ok-stop.ensures.steady c.in_ok-reach.ensures.steady (omega arith) in
    valued old new first w _ c.args.key.now (Some c.args.value.now) (before + 1) 0 (length (nibbles c.args.key.now) + 1) steady (omega (arith, left_le c.args.key.now first.at)) c.in_ok-reach.ensures.along
    (subst (λ (o : Option (List ℕ)). Sets (stands_for new w.top.part w.top.value w.top.row) (stands_for new w.top.part (Some c.in_ok-held.held) w.top.row) (left c.args.key.now w.at) o) (ap (λ (v : List ℕ). Some v) c.in_ok-held.ensures) (sets_value new w.top.part w.top.value (Some c.in_ok-held.held) w.top.row (left c.args.key.now w.at) c.in_ok-reach.ensures.ends)) refl refl refl refl

pub returns-clause-found : goal.returns-clause-found
returns-clause-found c =
    let old = c.args.nodes.now in
    let new = c.reach.new.nodes in
    let first = c.args.way.now in
    let mid = c.descend.new.way in
    let w = c.reach.new.way in
    let before : ℕ = length (left c.args.key.now first.at) in
    let then : ℕ = length (left c.args.key.now mid.at) in
    let steady = steady_trans old old new first mid w before then (then + 1) 0 (before + 1) 0 c.in_ok-stop.ensures.steady c.in_ok-reach.ensures.steady (omega arith) in
    found_behind old new first w c.args.key.now (before + 1) 0 w.top.value c.is_some-found.result steady c.in_ok-reach.ensures.along (stands_here new w.top (left c.args.key.now w.at) c.in_ok-reach.ensures.ends) c.is_some-found.ensures
