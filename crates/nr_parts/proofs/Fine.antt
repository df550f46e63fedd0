-- A walk over the texts that a part has meets no fault, where they are the trie's own.
use Rattle.std.proofs.Common.{◌≡◌, ◌≤◌, ◌+◌, ◌-◌, ℕ, zero, suc, true, false, cond, List, [], ◌∷◌, ◌++◌, length, None, Result, Ok, refl, ap, sym, subst, ◌∙◌, arith, append_assoc}
use Rattle.std.specs.List.{AllByRecursion}
use Rattle.std.specs.FinMap.{entries}
use Rattle.nr_bytes.specs.Reading.{◌>>=◌}
use Rattle.nr_ids.specs.declared.key.Hash32.{Hash32}
use Rattle.nr_triedef.specs.Node.{node_text, digest, usage_of}
use Rattle.nr_triedef.specs.Root.{Contents, Paths, paths}
use Rattle.nr_trielist.specs.Forest.{Stood, Forest, bare, tree}
use Rattle.nr_walk.specs.declared.fault.WalkFault.{WalkFault}
use Rattle.nr_walk.specs.declared.told.Spot.{Spot}
use Rattle.nr_walk.specs.Told.{spot, spots_of, own_usage, option_list}
use Rattle.nr_walk.specs.Looking.{looked_at}
use Rattle.nr_walk.specs.Shown.{IsOf}
use Rattle.nr_parts.specs.Offsets.{tops_usage, meets}
use Rattle.nr_parts.specs.Cutting.{looked}
use Rattle.nr_parts.specs.Walking.{claim_at, visit, seen, visited, walk_from}
use Rattle.nr_parts.specs.declared.share.Share.{Share}
use Rattle.nr_parts.specs.declared.walking.Claim.{Claim}
use Rattle.nr_parts.specs.declared.walking.Visit.{Visit}
use Rattle.nr_parts.proofs.Grown.{tops, IsGrown}
use Rattle.nr_parts.proofs.Nodes.{AllNodes, IsThere, looked_fine}
use Rattle.nr_parts.proofs.Walks.{joined, tops_joined, grown_joined}

abbrev pub HasClaims : Result (List Claim) WalkFault → Type 0
HasClaims r = (claims : List Claim) × (r ≡ Ok claims)

visited_fine : (texts : Contents) (share : Share) (at : ℕ) (top : Stood) → looked_at texts (spot top.place (digest (node_text top.node))) ≡ Ok top.node → visited texts share at (spot top.place (digest (node_text top.node))) ≡ Ok (seen share at top.place top.node)
unfolding visited
visited_fine texts share at top e = ap (λ r. r >>= λ node. Ok (seen share at top.place node)) e

walk_step : (texts : Contents) (share : Share) (n at : ℕ) (here : Spot) (spots : List Spot) (v : Visit) → visited texts share at here ≡ Ok v → HasClaims (walk_from texts share n v.next (v.below ++ spots)) → HasClaims (walk_from texts share (suc n) at (here ∷ spots))
unfolding walk_from
walk_step texts share n at here spots v e h = (
  option_list v.claim ++ h.0,
  ap (λ r. r >>= λ (visit : Visit). walk_from texts share n visit.next (visit.below ++ spots) >>= λ claims. Ok (option_list visit.claim ++ claims)) e
      ∙ ap (λ r. r >>= λ claims. Ok (option_list v.claim ++ claims)) h.1,
)

walk_end : (texts : Contents) (share : Share) (n at : ℕ) → HasClaims (walk_from texts share n at [])
unfolding walk_from
walk_end texts share n at = ([], refl)

looked_joined : (share : Share) (at : ℕ) (g h : Forest) → looked share at (joined g h) ≡ looked share at g ++ looked share (at + tops_usage g) h
looked_joined share at bare h = ap (λ n. looked share n h) (omega arith)
looked_joined share at (tree top below beside) h =
    ap (λ (l : List Stood). top ∷ (cond (meets share at (usage_of top.node)) (looked share (at + (usage_of top.node - tops_usage below)) below) [] ++ l))
    (looked_joined share (at + usage_of top.node) beside h ∙ ap (λ n. looked share (at + usage_of top.node) beside ++ looked share n h) (omega arith))
    ∙ ap (λ (l : List Stood). top ∷ l) (sym (append_assoc (cond (meets share at (usage_of top.node)) (looked share (at + (usage_of top.node - tops_usage below)) below) []) (looked share (at + usage_of top.node) beside) (looked share (at + (usage_of top.node + tops_usage beside)) h)))

nodes_joined : (top : Paths) (g h : Forest) → AllNodes top g → AllNodes top h → AllNodes top (joined g h)
nodes_joined top bare h a b = b
nodes_joined top (tree s below beside) h a b = (a.0, a.1, nodes_joined top beside h a.2 b)

-- no fault, where the looked-at nodes' texts are there
pub walk_fine : (texts : Contents) (root : Hash32) (m : Contents) (share : Share) (n at : ℕ) (g : Forest) → IsOf texts root m → IsGrown g → AllNodes (paths (entries m)) g → AllByRecursion (IsThere texts) (looked share at g) → length (looked share at g) ≤ n → HasClaims (walk_from texts share n at (tops g))
walk_fine texts root m share n at bare given grown nodes there few = walk_end texts share n at
walk_fine texts root m share zero at (tree top below beside) given grown nodes there few = absurd (omega (arith, few))
walk_fine texts root m share (suc n) at (tree top below beside) given grown nodes there few =
    let node = looked_fine texts root m top given nodes.0 there.0 in
    let step = visited_fine texts share at top node in
    let own : at + (usage_of top.node - tops_usage below) ≡ at + own_usage top.node = omega (arith, grown.0.usage) in
    elim (meets share at (usage_of top.node)) as (λ m. meets share at (usage_of top.node) ≡ m → HasClaims (walk_from texts share (suc n) at (tops (tree top below beside)))) [
      | true ↦ λ meet.
          let v = visit (claim_at share at top.place top.node) (spots_of top.place top.node) (at + own_usage top.node) in
          let is : seen share at top.place top.node ≡ v = ap (λ m. cond m v (visit None [] (at + usage_of top.node))) meet in
          let spots : spots_of top.place top.node ++ tops beside ≡ tops (joined below beside) = ap (λ (l : List Spot). l ++ tops beside) grown.0.spots ∙ sym (tops_joined below beside) in
          let rest : looked share at (tree top below beside) ≡ top ∷ looked share (at + own_usage top.node) (joined below beside) =
          ap (λ m. top ∷ (cond m (looked share (at + (usage_of top.node - tops_usage below)) below) [] ++ looked share (at + usage_of top.node) beside)) meet
          ∙ ap (λ k. top ∷ (looked share k below ++ looked share (at + usage_of top.node) beside)) own
          ∙ ap (λ k. top ∷ (looked share (at + own_usage top.node) below ++ looked share k beside)) (omega (arith, grown.0.usage))
          ∙ ap (λ (l : List Stood). top ∷ l) (sym (looked_joined share (at + own_usage top.node) below beside)) in
          let all = subst (AllByRecursion (IsThere texts)) rest there in
          let count : suc (length (looked share (at + own_usage top.node) (joined below beside))) ≤ suc n = subst (λ (l : List Stood). length l ≤ suc n) rest few in
          let next = walk_fine texts root m share n (at + own_usage top.node) (joined below beside) given (grown_joined below beside grown.1 grown.2) (nodes_joined (paths (entries m)) below beside nodes.1 nodes.2) all.1 (omega (arith, count)) in
          walk_step texts share n at (spot top.place (digest (node_text top.node))) (tops beside) v (step ∙ ap (λ (w : Visit). Ok w) is) (subst (λ (l : List Spot). HasClaims (walk_from texts share n (at + own_usage top.node) l)) (sym spots) next)
      | false ↦ λ apart.
          let v = visit None [] (at + usage_of top.node) in
          let is : seen share at top.place top.node ≡ v = ap (λ m. cond m (visit (claim_at share at top.place top.node) (spots_of top.place top.node) (at + own_usage top.node)) v) apart in
          let rest : looked share at (tree top below beside) ≡ top ∷ looked share (at + usage_of top.node) beside =
          ap (λ m. top ∷ (cond m (looked share (at + (usage_of top.node - tops_usage below)) below) [] ++ looked share (at + usage_of top.node) beside)) apart in
          let all = subst (AllByRecursion (IsThere texts)) rest there in
          let count : suc (length (looked share (at + usage_of top.node) beside)) ≤ suc n = subst (λ (l : List Stood). length l ≤ suc n) rest few in
          let next = walk_fine texts root m share n (at + usage_of top.node) beside given grown.2 nodes.2 all.1 (omega (arith, count)) in
          walk_step texts share n at (spot top.place (digest (node_text top.node))) (tops beside) v (step ∙ ap (λ (w : Visit). Ok w) is) next
    ] refl
