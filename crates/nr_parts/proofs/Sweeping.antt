-- Going over the list of a trie's nodes: the entries of a part, and the nodes that are looked at.
use Rattle.std.proofs.Common.{◌≡◌, ◌<◌, ◌≤◌, ◌+◌, ◌-◌, ℕ, Bool, true, false, cond, not, ◌&&◌, List, [], ◌∷◌, ◌++◌, take, drop, map, Option, Some, None, refl, ap, sym, ◌∙◌, arith, append_assoc, append-nil}
use Rattle.std.specs.Prelude.{is_some, nat_le, nat_lt}
use Rattle.std.specs.List.{flat_map}
use Rattle.std.proofs.lemmas.Bool.{lt-ltb, le-leb, lt-leb}
use Rattle.std.proofs.lemmas.List.Concat.{flat_map-append}
use Rattle.nr_triedef.specs.Node.{usage_of}
use Rattle.nr_triedef.specs.declared.node.Node.{Node}
use Rattle.nr_triedef.specs.declared.node.Node.TheVariants.{Leaf, Extension, Branch}
use Rattle.nr_columns.specs.declared.entry.Entry.{Entry}
use Rattle.nr_walk.specs.declared.told.Ending.{Ending}
use Rattle.nr_walk.specs.Told.{own_usage, ending_of}
use Rattle.nr_trielist.specs.Forest.{Stood, Forest, bare, tree, listed}
use Rattle.nr_parts.specs.Offsets.{tops_usage, has, entry_list, entry_in, entries_in, meets}
use Rattle.nr_parts.specs.Walking.{claim_of}
use Rattle.nr_parts.specs.Cutting.{looked, looked_from_root}
use Rattle.nr_parts.specs.Sweeping.{swept_entries, passed_by, swept_nodes, owns}
use Rattle.nr_walk.specs.Told.{has_value}
use Rattle.nr_parts.specs.declared.share.Share.{Share}
use Rattle.nr_parts.proofs.Grown.{claimed, Fitting, IsGrown}
use Rattle.nr_parts.proofs.Shares.{some_own, entries_tree}
use Rattle.nr_trielist.proofs.Branches.{nodes_in, nodes_tree}

-- the entries of all nodes
abbrev pub entries_all : Forest → List Entry
entries_all g = flat_map (λ (s : Stood). entry_list s.entry) (listed g)

pub all_tree : (top : Stood) (below beside : Forest) → entries_all (tree top below beside) ≡ entry_list top.entry ++ (entries_all below ++ entries_all beside)
all_tree top below beside = ap (λ (es : List Entry). entry_list top.entry ++ es) (flat_map-append (λ (s : Stood). entry_list s.entry) (listed below) (listed beside))

some_claim : (place : List ℕ) (e : Option Ending) → is_some (claim_of place e) ≡ is_some e
some_claim place None = refl
some_claim place (Some e) = refl

some_claimed : (o : Option (List ℕ × List ℕ)) → is_some (claimed o) ≡ is_some o
some_claimed None = refl
some_claimed (Some e) = refl

some_ending : (node : Node) → is_some (ending_of node) ≡ has_value node
some_ending (Leaf part size hash usage) = refl
some_ending (Extension part child usage) = refl
some_ending (Branch None children usage) = refl
some_ending (Branch (Some value) children usage) = refl

value_entry : (top : Stood) (below : Forest) → Fitting top below → has_value top.node ≡ is_some top.entry
value_entry top below fits = sym (some_ending top.node) ∙ sym (some_claim top.place (ending_of top.node)) ∙ ap is_some fits.claims ∙ some_claimed top.entry

none_either : (b : Bool) → cond {A = List Entry} b [] [] ≡ []
none_either true = refl
none_either false = refl

entry_step : (share : Share) (at : ℕ) (node : Node) (o : Option (List ℕ × List ℕ)) (nodes : List Node) (es : List Entry) → has_value node ≡ is_some o → swept_entries share at (node ∷ nodes) (entry_list o ++ es) ≡ cond (has share at) (entry_list o) [] ++ swept_entries share (at + own_usage node) nodes es
entry_step share at node None nodes es h =
    ap (λ b. cond b (cond (has share at) (take 1 es) [] ++ swept_entries share (at + own_usage node) nodes (drop 1 es)) (swept_entries share (at + own_usage node) nodes es)) h
    ∙ ap (λ (l : List Entry). l ++ swept_entries share (at + own_usage node) nodes es) (sym (none_either (has share at)))
entry_step share at node (Some e) nodes es h =
    ap (λ b. cond b (cond (has share at) (take 1 (entry_list (Some e) ++ es)) [] ++ swept_entries share (at + own_usage node) nodes (drop 1 (entry_list (Some e) ++ es))) (swept_entries share (at + own_usage node) nodes (entry_list (Some e) ++ es))) h

-- going over the nodes of a forest, whose entries are next
pub sweep_entries : (share : Share) (at : ℕ) (g : Forest) (more : List Node) (es : List Entry) → IsGrown g → swept_entries share at (nodes_in g ++ more) (entries_all g ++ es) ≡ entries_in share at g ++ swept_entries share (at + tops_usage g) more es
sweep_entries share at bare more es h = ap (λ n. swept_entries share n more es) (omega arith)
sweep_entries share at (tree top below beside) more es h =
    let own = own_usage top.node in
    let usage = usage_of top.node in
    let nodes : nodes_in (tree top below beside) ++ more ≡ top.node ∷ (nodes_in below ++ (nodes_in beside ++ more)) = ap (λ (l : List Node). l ++ more) (nodes_tree top below beside) ∙ ap (λ (l : List Node). top.node ∷ l) (append_assoc (nodes_in below) (nodes_in beside) more) in
    let entries : entries_all (tree top below beside) ++ es ≡ entry_list top.entry ++ (entries_all below ++ (entries_all beside ++ es)) = ap (λ (l : List Entry). l ++ es) (all_tree top below beside) ∙ regroup (entry_list top.entry) (entries_all below) (entries_all beside) es in
    let behind : (at + own) + tops_usage below ≡ at + usage = omega (arith, h.0.usage) in
    let end : (at + usage) + tops_usage beside ≡ at + tops_usage (tree top below beside) = omega arith in
    (λ i. swept_entries share at (nodes i) (entries i))
    ∙ entry_step share at top.node top.entry (nodes_in below ++ (nodes_in beside ++ more)) (entries_all below ++ (entries_all beside ++ es)) (value_entry top below h.0)
    ∙ ap (λ (l : List Entry). entry_in share (at, top) ++ l) (sweep_entries share (at + own) below (nodes_in beside ++ more) (entries_all beside ++ es) h.1
    ∙ ap (λ n. entries_in share (at + own) below ++ swept_entries share n (nodes_in beside ++ more) (entries_all beside ++ es)) behind
    ∙ ap (λ (l : List Entry). entries_in share (at + own) below ++ l) (sweep_entries share (at + usage) beside more es h.2 ∙ ap (λ n. entries_in share (at + usage) beside ++ swept_entries share n more es) end))
    ∙ sym (regroup (entry_in share (at, top)) (entries_in share (at + own) below) (entries_in share (at + usage) beside) (swept_entries share (at + tops_usage (tree top below beside)) more es))
    ∙ ap (λ (l : List Entry). l ++ swept_entries share (at + tops_usage (tree top below beside)) more es) (sym (entries_tree share at top below beside h))
  where
    regroup : (a b c d : List Entry) → (a ++ (b ++ c)) ++ d ≡ a ++ (b ++ (c ++ d))
    regroup a b c d = simp append_assoc

-- ---- the nodes that are looked at
same_end : (share : Share) (at first second : ℕ) (nodes : List Node) → first ≤ at → second ≤ at → swept_nodes share at first nodes ≡ swept_nodes share at second nodes
same_end share at first second [] a b = refl
same_end share at first second (node ∷ nodes) a b =
    let one : nat_le first at ≡ true = le-leb first at a in
    let two : nat_le second at ≡ true = le-leb second at b in
    ap (λ t. cond t (node ∷ swept_nodes share (at + own_usage node) (passed_by share at first node) nodes) (swept_nodes share (at + own_usage node) first nodes)) one
    ∙ elim (nat_lt 0 at && not (meets share at (usage_of node))) as (λ t. node ∷ swept_nodes share (at + own_usage node) (cond t (at + usage_of node) first) nodes ≡ node ∷ swept_nodes share (at + own_usage node) (cond t (at + usage_of node) second) nodes) [
      | true ↦ refl
      | false ↦ ap (λ (l : List Node). node ∷ l) (same_end share (at + own_usage node) first second nodes (omega (arith, a)) (omega (arith, b)))
    ]
    ∙ sym (ap (λ t. cond t (node ∷ swept_nodes share (at + own_usage node) (passed_by share at second node) nodes) (swept_nodes share (at + own_usage node) second nodes)) two)

-- those below a node that is passed by
over_passed : (share : Share) (at end : ℕ) (g : Forest) (more : List Node) → IsGrown g → at + tops_usage g ≤ end → swept_nodes share at end (nodes_in g ++ more) ≡ swept_nodes share (at + tops_usage g) end more
over_passed share at end bare more h le = ap (λ n. swept_nodes share n end more) (omega arith)
over_passed share at end (tree top below beside) more h le =
    let own = own_usage top.node in
    let usage = usage_of top.node in
    let nodes : nodes_in (tree top below beside) ++ more ≡ top.node ∷ (nodes_in below ++ (nodes_in beside ++ more)) = ap (λ (l : List Node). l ++ more) (nodes_tree top below beside) ∙ ap (λ (l : List Node). top.node ∷ l) (append_assoc (nodes_in below) (nodes_in beside) more) in
    let apart : nat_le end at ≡ false = lt-leb end at (omega (arith, le, h.0.usage, some_own top.node)) in
    ap (swept_nodes share at end) nodes
    ∙ ap (λ t. cond t (top.node ∷ swept_nodes share (at + own) (passed_by share at end top.node) (nodes_in below ++ (nodes_in beside ++ more))) (swept_nodes share (at + own) end (nodes_in below ++ (nodes_in beside ++ more)))) apart
    ∙ over_passed share (at + own) end below (nodes_in beside ++ more) h.1 (omega (arith, le, h.0.usage))
    ∙ ap (λ n. swept_nodes share n end (nodes_in beside ++ more)) (omega (arith, h.0.usage))
    ∙ over_passed share (at + usage) end beside more h.2 (omega (arith, le))
    ∙ ap (λ n. swept_nodes share n end more) (omega arith)

abbrev own_nodes : List Stood → List Node
own_nodes ss = map (λ (s : Stood). s.node) ss

nodes_append : (xs ys : List Stood) → own_nodes (xs ++ ys) ≡ own_nodes xs ++ own_nodes ys
nodes_append [] ys = refl
nodes_append (x ∷ xs) ys = ap (λ (l : List Node). x.node ∷ l) (nodes_append xs ys)

pub sweep_looked : (share : Share) (at : ℕ) (g : Forest) (more : List Node) → IsGrown g → 0 < at → swept_nodes share at 0 (nodes_in g ++ more) ≡ own_nodes (looked share at g) ++ swept_nodes share (at + tops_usage g) 0 more
sweep_looked share at bare more h some = ap (λ n. swept_nodes share n 0 more) (omega arith)
sweep_looked share at (tree top below beside) more h some =
    let own = own_usage top.node in
    let usage = usage_of top.node in
    let rest = nodes_in beside ++ more in
    let nodes : nodes_in (tree top below beside) ++ more ≡ top.node ∷ (nodes_in below ++ rest) = ap (λ (l : List Node). l ++ more) (nodes_tree top below beside) ∙ ap (λ (l : List Node). top.node ∷ l) (append_assoc (nodes_in below) (nodes_in beside) more) in
    let test : nat_lt 0 at ≡ true = lt-ltb 0 at some in
    let step : at + (usage - tops_usage below) ≡ at + own = omega (arith, h.0.usage) in
    let beside_is : swept_nodes share (at + usage) 0 rest ≡ own_nodes (looked share (at + usage) beside) ++ swept_nodes share (at + tops_usage (tree top below beside)) 0 more =
    sweep_looked share (at + usage) beside more h.2 (omega arith) ∙ ap (λ n. own_nodes (looked share (at + usage) beside) ++ swept_nodes share n 0 more) (omega arith) in
    ap (swept_nodes share at 0) nodes
    ∙ ap (λ t. cond t (top.node ∷ swept_nodes share (at + own) (passed_by share at 0 top.node) (nodes_in below ++ rest)) (swept_nodes share (at + own) 0 (nodes_in below ++ rest))) (le-leb 0 at (omega arith))
    ∙ ap (λ t. top.node ∷ swept_nodes share (at + own) (cond (t && not (meets share at usage)) (at + usage) 0) (nodes_in below ++ rest)) test
    ∙ elim (meets share at usage) as (λ m. top.node ∷ swept_nodes share (at + own) (cond (true && not m) (at + usage) 0) (nodes_in below ++ rest) ≡ top.node ∷ (own_nodes (cond m (looked share (at + (usage - tops_usage below)) below) [] ++ looked share (at + usage) beside) ++ swept_nodes share (at + tops_usage (tree top below beside)) 0 more)) [
      | true ↦ ap (λ (l : List Node). top.node ∷ l) (
          sweep_looked share (at + own) below rest h.1 (omega arith)
          ∙ ap (λ n. own_nodes (looked share (at + own) below) ++ swept_nodes share n 0 rest) (omega (arith, h.0.usage))
          ∙ ap (λ (l : List Node). own_nodes (looked share (at + own) below) ++ l) beside_is
          ∙ sym (append_assoc (own_nodes (looked share (at + own) below)) (own_nodes (looked share (at + usage) beside)) (swept_nodes share (at + tops_usage (tree top below beside)) 0 more))
          ∙ ap (λ (l : List Node). l ++ swept_nodes share (at + tops_usage (tree top below beside)) 0 more) (ap (λ n. own_nodes (looked share n below) ++ own_nodes (looked share (at + usage) beside)) (sym step) ∙ sym (nodes_append (looked share (at + (usage - tops_usage below)) below) (looked share (at + usage) beside))))
      | false ↦ ap (λ (l : List Node). top.node ∷ l) (
          over_passed share (at + own) (at + usage) below rest h.1 (omega (arith, h.0.usage))
          ∙ ap (λ n. swept_nodes share n (at + usage) rest) (omega (arith, h.0.usage))
          ∙ same_end share (at + usage) (at + usage) 0 rest (omega arith) (omega arith)
          ∙ beside_is)
    ]

-- from the root on
pub sweep_root : (share : Share) (top : Stood) (below : Forest) → IsGrown (tree top below bare) → swept_nodes share 0 0 (nodes_in (tree top below bare)) ≡ own_nodes (looked_from_root share (tree top below bare))
sweep_root share top below h =
    let own : usage_of top.node - tops_usage below ≡ own_usage top.node = omega (arith, h.0.usage) in
    ap (swept_nodes share 0 0) (nodes_tree top below bare)
    ∙ ap (λ n. top.node ∷ swept_nodes share n 0 (nodes_in below ++ [])) (omega arith)
    ∙ ap (λ (l : List Node). top.node ∷ l) (sweep_looked share (own_usage top.node) below [] h.1 (some_own top.node) ∙ append-nil (own_nodes (looked share (own_usage top.node) below)))
    ∙ ap (λ n. top.node ∷ own_nodes (looked share n below)) (sym own)

-- the own usages of all nodes are the usage at the top
owns_append : (xs ys : List Node) → owns (xs ++ ys) ≡ owns xs + owns ys
owns_append [] ys = omega arith
owns_append (x ∷ xs) ys = omega (arith, owns_append xs ys)

pub owns_grown : (g : Forest) → IsGrown g → owns (nodes_in g) ≡ tops_usage g
owns_grown bare h = refl
owns_grown (tree top below beside) h =
    ap owns (nodes_tree top below beside) ∙ omega (arith, owns_append (nodes_in below) (nodes_in beside), owns_grown below h.1, owns_grown beside h.2, h.0.usage)
