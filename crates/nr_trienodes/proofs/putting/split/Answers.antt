-- The goals of `putting::split` that no tactic closes.
use Rattle.std.proofs.Common.{◌≡◌, ◌+◌, ◌<◌, ℕ, List, [], ◌∷◌, length, take, get_or, set, Option, Some, None, ap, sym, subst, ◌∙◌, arith}
use Rattle.nr_trienodes.specs.Shape.{Shape, child, shape_at}
use Rattle.nr_trienodes.specs.Tries.{stripped}
use Rattle.nr_trienodes.specs.Turns.{left, Settles}
use Rattle.nr_trienodes.proofs.Sets.{extends_shape, extends_longer}
use Rattle.nr_trienodes.proofs.Settled.{fork_back, back_set}
use Rattle.nr_trienodes.proofs.Puts.{forked, put_fork, put_branch}
use Rattle.nr_trienodes.proofs.putting.split.Goals as goal

pub front_of-requires-clause-count : goal.front_of-requires-clause-count
front_of-requires-clause-count c = omega (arith, c.requires.parts.more, ap (λ (s : Shape). length s.part) (extends_shape c.args.nodes.now c.behind.new.nodes c.args.node c.behind.ensures.grows c.requires.node))

pub settle-requires-clause-back : goal.settle-requires-clause-back
settle-requires-clause-back c = fork_back (length c.behind.new.nodes) (get_or c.part.result.now c.args.shared 0) c.in_ok-lower.lower c.with_child-row.result c.with_child-row.ensures c.in_ok-lower.ensures.rest.there

pub settle-requires-in-Some-clause-back : goal.settle-requires-in-Some-clause-back
settle-requires-in-Some-clause-back c =
    let lower : c.in_ok-lower.lower < length c.behind.new.nodes = c.in_ok-lower.ensures.rest.there in
    let more : c.in_ok-lower.lower < length c.sprout.new.nodes = omega (arith, extends_longer c.behind.new.nodes c.sprout.new.nodes c.sprout.ensures.grows) in
    λ y d e. back_set (length c.sprout.new.nodes) c.with_child-row.result c.in-Some.other
    (Some c.in_ok-leaf-in-Some.leaf) (fork_back (length c.sprout.new.nodes)
    (get_or c.part.result.now c.args.shared 0) c.in_ok-lower.lower c.with_child-row.result
    c.with_child-row.ensures more) c.in_ok-leaf-in-Some.ensures.leaf.there y d
    (ap (λ (r : List (Option ℕ)). child r y) (sym c.with_child-branches.ensures) ∙ e)

pub returns-in_ok-fork-in-None-clause-put : goal.returns-in_ok-fork-in-None-clause-put
returns-in_ok-fork-in-None-clause-put c =
    let old = c.args.nodes.now in
    let low = c.behind.new.nodes in
    let x : ℕ = get_or c.part.result.now c.args.shared 0 in
    let fork = forked old low c.args.node c.args.shared x c.in_ok-lower.lower c.behind.ensures.sound c.requires.node c.requires.parts.more (ap (λ (p : List ℕ). get_or p c.args.shared 0) c.part.ensures) c.behind.ensures.grows c.in_ok-lower.ensures.rest in
    let same : shape_at low c.args.node ≡ shape_at old c.args.node = extends_shape old low c.args.node c.behind.ensures.grows c.requires.node in
    let front : c.in_ok-part.part.items ≡ take c.args.shared (shape_at old c.args.node).part = c.in_ok-part.ensures.front ∙ ap (λ (s : Shape). take c.args.shared s.part) same in
    let ends : stripped c.in_ok-part.part.items (left c.args.key.now c.args.at) ≡ Some [] = ap (λ (p : List ℕ). stripped p (left c.args.key.now c.args.at)) front ∙ c.requires.parts.matches.front ∙ ap (λ (l : List ℕ). Some l) c.in-None.ensures in
    put_fork old low c.settle.new.nodes c.args.node c.args.shared x c.in_ok-lower.lower c.in_ok-fork-in-None.fork c.in_ok-part.part.items (left c.args.key.now c.args.at) c.args.value fork front (omega (arith, c.requires.parts.more)) ends
    (subst (λ (r : List (Option ℕ)). Settles low c.settle.new.nodes c.in_ok-part.part.items (Some c.args.value) r c.in_ok-fork-in-None.fork) c.with_child-row.ensures c.in_ok-fork-in-None.ensures.settled)

pub returns-in_ok-branch-in-Some-clause-put : goal.returns-in_ok-branch-in-Some-clause-put
returns-in_ok-branch-in-Some-clause-put c =
    let old = c.args.nodes.now in
    let low = c.behind.new.nodes in
    let x : ℕ = get_or c.part.result.now c.args.shared 0 in
    let place : ℕ = c.args.at + c.args.shared in
    let fork = forked old low c.args.node c.args.shared x c.in_ok-lower.lower c.behind.ensures.sound c.requires.node c.requires.parts.more (ap (λ (p : List ℕ). get_or p c.args.shared 0) c.part.ensures) c.behind.ensures.grows c.in_ok-lower.ensures.rest in
    let same : shape_at low c.args.node ≡ shape_at old c.args.node = extends_shape old low c.args.node c.behind.ensures.grows c.requires.node in
    let front : c.in_ok-part.part.items ≡ take c.args.shared (shape_at old c.args.node).part = c.in_ok-part.ensures.front ∙ ap (λ (s : Shape). take c.args.shared s.part) same in
    let goes : stripped c.in_ok-part.part.items (left c.args.key.now c.args.at) ≡ Some (c.in-Some.other ∷ left c.args.key.now (place + 1)) = ap (λ (p : List ℕ). stripped p (left c.args.key.now c.args.at)) front ∙ c.requires.parts.matches.front ∙ ap (λ (l : List ℕ). Some l) c.in-Some.ensures.is in
    put_branch old low c.sprout.new.nodes c.settle-in-Some.new.nodes c.args.node c.args.shared x c.in_ok-lower.lower
    c.in-Some.other c.in_ok-leaf-in-Some.leaf c.in_ok-branch-in-Some.branch c.in_ok-part.part.items
    (left c.args.key.now c.args.at) (left c.args.key.now (place + 1)) c.args.value fork
    c.in_ok-lower.ensures.rest.there front goes c.in-Some.ensures.small
    (λ eq. c.requires.parts.matches.differ c.requires.parts.more c.in-Some.other (left c.args.key.now (place + 1)) c.in-Some.ensures.is (eq ∙ ap (λ (p : List ℕ). get_or p c.args.shared 0) c.part.ensures))
    c.sprout.ensures.grows c.in_ok-leaf-in-Some.ensures.leaf
    (subst (λ (r : List (Option ℕ)). Settles c.sprout.new.nodes c.settle-in-Some.new.nodes c.in_ok-part.part.items
    None r c.in_ok-branch-in-Some.branch) (c.with_child-branches.ensures ∙ ap
    (λ (r : List (Option ℕ)). set r c.in-Some.other (Some c.in_ok-leaf-in-Some.leaf)) c.with_child-row.ensures)
    c.in_ok-branch-in-Some.ensures.settled)
