-- What a walk claims that meets no fault: what the trie has, where its texts are the trie's own.
use Rattle.std.proofs.Common.{◌≡◌, ◌<◌, ◌+◌, ℕ, zero, suc, Bool, true, false, cond, List, [], ◌∷◌, ◌++◌, Option, Some, None, Result, Ok, refl, ap, sym, ◌∙◌, arith, append_assoc}
use Rattle.std.specs.Prelude.{map, length}
use Rattle.std.specs.FinMap.{get}
use Rattle.nr_bytes.specs.Reading.{◌>>=◌}
use Rattle.nr_bytes.proofs.Steps.{bind_ok}
use Rattle.nr_triedef.specs.Node.{IsNode, node_text, digest, usage_of}
use Rattle.nr_triedef.specs.Reading.{Fits}
use Rattle.nr_triedef.specs.Root.{Contents}
use Rattle.nr_triedef.specs.declared.node.Node.{Node}
use Rattle.nr_walk.specs.declared.fault.WalkFault.{WalkFault}
use Rattle.nr_walk.specs.declared.told.Spot.{Spot}
use Rattle.nr_walk.specs.Told.{spot, spots_of, own_usage, option_list}
use Rattle.nr_walk.specs.Looking.{looked_at}
use Rattle.nr_walk.proofs.Showing.{looked}
use Rattle.nr_trielist.specs.Forest.{Stood, Forest, bare, tree}
use Rattle.nr_parts.specs.Offsets.{tops_usage, has, entry_in, entries_in, entry_list, meets}
use Rattle.nr_parts.specs.Walking.{claim, claim_at, visit, seen, visited, walk_from}
use Rattle.nr_parts.specs.declared.share.Share.{Share}
use Rattle.nr_parts.specs.declared.walking.Claim.{Claim}
use Rattle.nr_parts.specs.declared.walking.Visit.{Visit}
use Rattle.nr_columns.specs.declared.entry.Entry.{Entry}
use Rattle.nr_parts.proofs.Grown.{tops, claimed, Fitting, IsGrown}
use Rattle.nr_parts.proofs.Shares.{unmet, entries_tree, entries_outside}

-- ---- one node
-- the text that is held under a node's hash is that node's, which fits it
pub record IsHeld (texts : Contents) (s : Stood) : Type 0 where
  pub fits : Fits s.node
  pub own : (text : List ℕ) → get texts (digest (node_text s.node)).0 ≡ Some text → text ≡ node_text s.node

abbrev pub AllHeld : Contents → Forest → Type 0
AllHeld texts bare = Unit {0}
AllHeld texts (tree top below beside) = IsHeld texts top × AllHeld texts below × AllHeld texts beside

-- the node that is looked at is the trie's
pub looked_own : (texts : Contents) (s : Stood) (found : Node) → IsNode s.node → IsHeld texts s → looked_at texts (spot s.place (digest (node_text s.node))) ≡ Ok found → s.node ≡ found
looked_own texts s found form held e = sym (looked texts s.place s.node found form held.fits held.own e)

-- ---- forests side by side
abbrev pub joined : Forest → Forest → Forest
joined bare others = others
joined (tree top below beside) others = tree top below (joined beside others)

pub tops_joined : (g h : Forest) → tops (joined g h) ≡ tops g ++ tops h
tops_joined bare h = refl
tops_joined (tree top below beside) h = ap (λ (spots : List Spot). spot top.place (digest (node_text top.node)) ∷ spots) (tops_joined beside h)

pub grown_joined : (g h : Forest) → IsGrown g → IsGrown h → IsGrown (joined g h)
grown_joined bare h a b = b
grown_joined (tree top below beside) h a b = (a.0, a.1, grown_joined beside h a.2 b)

pub held_joined : (texts : Contents) (g h : Forest) → AllHeld texts g → AllHeld texts h → AllHeld texts (joined g h)
held_joined texts bare h a b = b
held_joined texts (tree top below beside) h a b = (a.0, a.1, held_joined texts beside h a.2 b)

pub entries_joined : (share : Share) (at : ℕ) (g h : Forest) → IsGrown g → IsGrown h → entries_in share at (joined g h) ≡ entries_in share at g ++ entries_in share (at + tops_usage g) h
entries_joined share at bare h a b = ap (λ n. entries_in share n h) (omega arith)
entries_joined share at (tree top below beside) h a b =
    entries_tree share at top below (joined beside h) (a.0, a.1, grown_joined beside h a.2 b)
    ∙ ap (λ (es : List Entry). entry_in share (at, top) ++ (entries_in share (at + own_usage top.node) below ++ es)) (entries_joined share (at + usage_of top.node) beside h a.2 b)
    ∙ ap (λ n. entry_in share (at, top) ++ (entries_in share (at + own_usage top.node) below ++ (entries_in share (at + usage_of top.node) beside ++ entries_in share n h))) (omega arith)
    ∙ regroup (entry_in share (at, top)) (entries_in share (at + own_usage top.node) below) (entries_in share (at + usage_of top.node) beside) (entries_in share (at + (usage_of top.node + tops_usage beside)) h)
    ∙ ap (λ (es : List Entry). es ++ entries_in share (at + (usage_of top.node + tops_usage beside)) h) (sym (entries_tree share at top below beside a))
  where
    regroup : (a b c d : List Entry) → a ++ (b ++ (c ++ d)) ≡ (a ++ (b ++ c)) ++ d
    regroup a b c d = simp append_assoc

-- ---- claims of entries
abbrev pub claim_told : Entry → Claim
claim_told e = claim e.key (length e.value) (digest e.value)

pub map_append : (xs ys : List Entry) → map claim_told (xs ++ ys) ≡ map claim_told xs ++ map claim_told ys
map_append [] ys = refl
map_append (x ∷ xs) ys = ap (λ (cs : List Claim). claim_told x ∷ cs) (map_append xs ys)

claim_list : (b : Bool) (o : Option (List ℕ × List ℕ)) → option_list (cond b (claimed o) None) ≡ map claim_told (cond b (entry_list o) [])
claim_list true None = refl
claim_list true (Some e) = refl
claim_list false o = refl

-- a node claims its entry
pub claim_here : (share : Share) (at : ℕ) (top : Stood) (below : Forest) → Fitting top below → option_list (claim_at share at top.place top.node) ≡ map claim_told (entry_in share (at, top))
claim_here share at top below fits =
    ap (λ (o : Option Claim). option_list (cond (has share at) o None)) fits.claims ∙ claim_list (has share at) top.entry

abbrev pub fine : {X : Type 0} → X → Result X WalkFault
fine x = Ok x

pub ok_claims : (a b : List Claim) → fine a ≡ fine b → a ≡ b
ok_claims a b e = cc

ok_visit : (a b : Visit) → fine a ≡ fine b → a ≡ b
ok_visit a b e = cc

-- ---- the walk
visited_own : (texts : Contents) (share : Share) (at : ℕ) (top : Stood) (found : Visit) → IsNode top.node → IsHeld texts top → visited texts share at (spot top.place (digest (node_text top.node))) ≡ Ok found → found ≡ seen share at top.place top.node
unfolding visited
visited_own texts share at top found form held e =
    let a = bind_ok (looked_at texts (spot top.place (digest (node_text top.node)))) (λ node. Ok (seen share at top.place node)) found e in
    sym (ok_visit (seen share at top.place a.0) found a.2) ∙ ap (seen share at top.place) (sym (looked_own texts top a.0 form held a.1))

pub walk_own : (texts : Contents) (share : Share) (n at : ℕ) (g : Forest) (claims : List Claim) → 0 < share.whole → 0 < share.count → IsGrown g → AllHeld texts g → walk_from texts share n at (tops g) ≡ Ok claims → claims ≡ map claim_told (entries_in share at g)
unfolding walk_from
walk_own texts share n at bare claims some count grown held e = sym (ok_claims [] claims e)
walk_own texts share zero at (tree top below beside) claims some count grown held e = absurd cc
walk_own texts share (suc n) at (tree top below beside) claims some count grown held e =
    let here = spot top.place (digest (node_text top.node)) in
    let a = bind_ok (visited texts share at here) (λ visit. walk_from texts share n visit.next (visit.below ++ tops beside) >>= λ claims. Ok (option_list visit.claim ++ claims)) claims e in
    let is : a.0 ≡ seen share at top.place top.node = visited_own texts share at top a.0 grown.0.form held.0 a.1 in
    let b = bind_ok (walk_from texts share n a.0.next (a.0.below ++ tops beside)) (λ claims. Ok (option_list a.0.claim ++ claims)) claims a.2 in
    elim (meets share at (usage_of top.node)) as (λ m. meets share at (usage_of top.node) ≡ m → claims ≡ map claim_told (entries_in share at (tree top below beside))) [
      | true ↦ λ meet.
          let now : a.0 ≡ visit (claim_at share at top.place top.node) (spots_of top.place top.node) (at + own_usage top.node) =
          is ∙ ap (λ m. cond m (visit (claim_at share at top.place top.node) (spots_of top.place top.node) (at + own_usage top.node)) (visit None [] (at + usage_of top.node))) meet in
          let below_is : a.0.below ++ tops beside ≡ tops (joined below beside) =
          ap (λ (v : Visit). v.below ++ tops beside) now ∙ ap (λ (spots : List Spot). spots ++ tops beside) grown.0.spots ∙ sym (tops_joined below beside) in
          let next_is : a.0.next ≡ at + own_usage top.node = ap (λ (v : Visit). v.next) now in
          let walk : walk_from texts share n (at + own_usage top.node) (tops (joined below beside)) ≡ Ok b.0 = (λ i. walk_from texts share n (sym next_is i) (sym below_is i)) ∙ b.1 in
          let rest = walk_own texts share n (at + own_usage top.node) (joined below beside) b.0 some count (grown_joined below beside grown.1 grown.2) (held_joined texts below beside held.1 held.2) walk in
          let others : entries_in share (at + own_usage top.node) (joined below beside) ≡ entries_in share (at + own_usage top.node) below ++ entries_in share (at + usage_of top.node) beside =
          entries_joined share (at + own_usage top.node) below beside grown.1 grown.2
          ∙ ap (λ k. entries_in share (at + own_usage top.node) below ++ entries_in share k beside) (omega (arith, grown.0.usage)) in
          let first : option_list a.0.claim ≡ map claim_told (entry_in share (at, top)) =
          ap (λ (v : Visit). option_list v.claim) now ∙ claim_here share at top below grown.0 in
          sym (ok_claims (option_list a.0.claim ++ b.0) claims b.2)
          ∙ (λ i. first i ++ (rest ∙ ap (map claim_told) others) i)
          ∙ sym (map_append (entry_in share (at, top)) (entries_in share (at + own_usage top.node) below ++ entries_in share (at + usage_of top.node) beside))
          ∙ ap (map claim_told) (sym (entries_tree share at top below beside grown))
      | false ↦ λ apart.
          let now : a.0 ≡ visit None [] (at + usage_of top.node) =
          is ∙ ap (λ m. cond m (visit (claim_at share at top.place top.node) (spots_of top.place top.node) (at + own_usage top.node)) (visit None [] (at + usage_of top.node))) apart in
          let walk : walk_from texts share n (at + usage_of top.node) (tops beside) ≡ Ok b.0 = (λ i. walk_from texts share n (sym now i).next ((sym now i).below ++ tops beside)) ∙ b.1 in
          let rest = walk_own texts share n (at + usage_of top.node) beside b.0 some count grown.2 held.2 walk in
          let none : entries_in share at (joined (tree top below bare) beside) ≡ entries_in share (at + tops_usage (tree top below bare)) beside =
          entries_joined share at (tree top below bare) beside (grown.0, grown.1, tt) grown.2
          ∙ ap (λ (es : List Entry). es ++ entries_in share (at + tops_usage (tree top below bare)) beside)
          (entries_outside share at (tree top below bare) (grown.0, grown.1, tt) (λ o low high. unmet share at (usage_of top.node) o some count apart low (omega arith))) in
          sym (ok_claims (option_list a.0.claim ++ b.0) claims b.2)
          ∙ ap (λ (v : Visit). option_list v.claim ++ b.0) now
          ∙ rest
          ∙ ap (λ k. map claim_told (entries_in share k beside)) (omega arith)
          ∙ ap (map claim_told) (sym none)
    ] refl
