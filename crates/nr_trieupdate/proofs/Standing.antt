-- The root of a trie after its arena was trimmed, or changed.
use Rattle.std.proofs.Common.{◌≡◌, ◌*◌, ◌≤◌, List, [], ◌∷◌, Option, None, length, get_or, refl, sym, ap, ◌∙◌, subst, arith}
use Rattle.std.proofs.lemmas.List.Sums.{sum_by-cons}
use Rattle.std.specs.Prelude.{sum_by, Result, Ok, Err, OnErr}
use Rattle.std.specs.FinMap.{entries}
use Rattle.nr_triedef.specs.Root.{Contents}
use Rattle.nr_triedef.specs.Stores.{IsSized}
use Rattle.nr_trienodes.specs.Roots.{IsRoot, contents, Keeps, Renames}
use Rattle.nr_trienodes.specs.declared.nodes.NodeId.{NodeId}
use Rattle.nr_trienodes.specs.declared.merging.CountedRoot.{CountedRoot}
use Rattle.nr_trieupdate.specs.Room.{Arena, IsLevel, IsFew, IsMoved}

-- ---- a trim
pub moved_first : (v w : Arena) (top draft moved : Option NodeId) (roots : List (Option NodeId)) → Renames v w (top ∷ draft ∷ []) roots → moved ≡ get_or roots 0 None → IsMoved v w top moved
moved_first v w top draft moved [] h e = absurd h
moved_first v w top draft moved (q ∷ rest) h e = subst (IsMoved v w top) (sym e) (record { root = h.0; held = h.1; debt = h.2 })

pub moved_second : (v w : Arena) (top draft moved : Option NodeId) (roots : List (Option NodeId)) → Renames v w (top ∷ draft ∷ []) roots → moved ≡ get_or roots 1 None → IsMoved v w draft moved
moved_second v w top draft moved [] h e = absurd h
moved_second v w top draft moved (q ∷ []) h e = absurd h.3
moved_second v w top draft moved (q ∷ r ∷ rest) h e = subst (IsMoved v w draft) (sym e) (record { root = h.3.0; held = h.3.1; debt = h.3.2 })

pub unmoved : (v w : Arena) (top : Option NodeId) → IsRoot v top → w ≡ v → IsMoved v w top top
unmoved v w top root e = subst (λ (u : Arena). IsMoved v u top top) (sym e) (record { root = root; held = refl; debt = omega arith })

-- one trim after another
pub both_moved : (u v w : Arena) (top mid moved : Option NodeId) → IsMoved u v top mid → IsMoved v w mid moved → IsMoved u w top moved
both_moved u v w top mid moved a b = record { root = b.root; held = b.held ∙ a.held; debt = omega (arith, a.debt, b.debt) }

pub few_moved : (v w : Arena) (top moved : Option NodeId) → IsFew v top → IsMoved v w top moved → IsFew w moved
few_moved v w top moved f h = record { root = h.root; few = omega (arith, f.few, ap (λ (m : Contents). length (entries m)) h.held) }

-- at most two nodes for each entry
pub few_nodes : (v w : Arena) (top draft : Option NodeId) (moved : List (Option NodeId)) → IsFew v top → IsFew v draft → Renames v w (top ∷ draft ∷ []) moved → sum_by (λ r. 2 * length (entries (contents w r))) moved ≤ 536870912
few_nodes v w top draft [] f g h = absurd h
few_nodes v w top draft (q ∷ []) f g h = absurd h.3
few_nodes v w top draft (q ∷ r ∷ []) f g h =
    let one : length (entries (contents w q)) ≡ length (entries (contents v top)) = ap (λ (m : Contents). length (entries m)) h.1 in
    let two : length (entries (contents w r)) ≡ length (entries (contents v draft)) = ap (λ (m : Contents). length (entries m)) h.3.1 in
    let here : length (entries (contents v top)) ≤ 134217728 = f.few in
    let there : length (entries (contents v draft)) ≤ 134217728 = g.few in
    omega (arith, sum_by-cons (λ r. 2 * length (entries (contents w r))) q (r ∷ []), sum_by-cons (λ r. 2 * length (entries (contents w r))) r [])
few_nodes v w top draft (q ∷ r ∷ s ∷ rest) f g h = absurd h.3.3

-- ---- nodes that were added, or hashed
pub moved_kept : (u v w : Arena) (top mid : Option NodeId) → IsMoved u v top mid → Keeps v w → IsMoved u w top mid
moved_kept u v w top mid a k = record { root = k.root mid a.root; held = k.map mid a.root ∙ a.held; debt = omega (arith, a.debt, k.cost mid a.root) }

pub moved_same : (v w : Arena) (top : Option NodeId) → IsRoot v top → Keeps v w → IsMoved v w top top
moved_same v w top root k = record { root = k.root top root; held = k.map top root; debt = k.cost top root }

-- ---- what holds anyway, where a call fails
pub on_err : {A E P : Type 0} (r : Result A E) → P → OnErr r P
on_err (Ok x) h = tt
on_err (Err e) h = h

-- ---- the root with its count
pub few_level : (v : Arena) (top : CountedRoot) → IsLevel v top → IsFew v top.root
few_level v top h = record { root = h.root; few = omega (arith, h.sized.few) }

pub level_moved : (v w : Arena) (top moved : CountedRoot) → IsLevel v top → moved.count ≡ top.count → IsMoved v w top.root moved.root → IsLevel w moved
level_moved v w top moved h e is = record {
  root = is.root;
  count = e ∙ h.count ∙ ap (λ (m : Contents). length (entries m)) (sym is.held);
  sized = subst IsSized (sym is.held) h.sized;
}

pub level_merged : (w : Arena) (to : CountedRoot) (m : Contents) → IsRoot w to.root → contents w to.root ≡ m → to.count ≡ length (entries (contents w to.root)) → IsSized m → IsLevel w to
level_merged w to m root e many sized = record { root = root; count = many; sized = subst IsSized (sym e) sized }
