-- A part that is accepted has the entries that each map with the root has, if it agrees with the part.
use Rattle.std.proofs.Common.{◌≡◌, ◌==◌, ◌<◌, ◌≤◌, ◌+◌, ◌-◌, ℕ, suc, Bool, true, false, cond, ◌&&◌, List, [], ◌∷◌, ◌++◌, length, map, Option, Some, None, Result, Ok, Err, refl, ap, sym, subst, ◌∙◌, arith, append-nil}
use mathlib.Core.Bool.{false≢true}
use Rattle.std.specs.Prelude.{nat_le, nat_lt, IfOk}
use Rattle.nr_bytes.specs.Answers.{Gives}
use Rattle.std.specs.Str.{bytes_eq}
use Rattle.std.specs.List.{AllByRecursion}
use Rattle.std.specs.FinMap.{entries}
use Rattle.std.proofs.lemmas.Bool.{eqb-true, leb-true, and_parts}
use Rattle.std.proofs.lemmas.Slice.Eq.{bytes_eq-Decides}
use Rattle.nr_bytes.proofs.Steps.{bind_ok}
use Rattle.nr_ids.specs.declared.key.Hash32.{Hash32}
use Rattle.nr_triedef.specs.Node.{digest, node_text, usage_of}
use Rattle.nr_triedef.specs.Root.{Contents, paths, depth, trie, usage_below, no_root, summary_of, root_of_entries}
use Rattle.nr_triedef.specs.declared.hash.Summary.{Summary}
use Rattle.nr_columns.specs.declared.entry.Entry.{Entry}
use Rattle.nr_walk.specs.declared.fault.WalkFault.{WalkFault}
use Rattle.nr_walk.specs.declared.told.Spot.{Spot}
use Rattle.nr_walk.specs.Texts.{texts_of}
use Rattle.nr_walk.specs.Told.{spot, spots_of, own_usage, option_list}
use Rattle.nr_walk.specs.Looking.{looked_at}
use Rattle.nr_trielist.specs.Forest.{Stood, Forest, bare, tree, forest, forest_of}
use Rattle.nr_parts.specs.Offsets.{tops_usage, entry_in, entries_in, share_of, part_of_entries, part_of}
use Rattle.nr_parts.specs.Walking.{claim, claim_at, walk_from, walk_below, walked, most_nodes}
use Rattle.nr_parts.specs.Checking.{memory_fault, lifted, same_hash, is_zeros, is_claimed, first_other, entries_or_fault, is_numbered, claims_of, compared, checked}
use Rattle.nr_walk.specs.Shown.{IsOf}
use Rattle.nr_parts.specs.Agreeing.{IsPartOfEach}
use Rattle.nr_parts.specs.declared.part.Part.{Part}
use Rattle.nr_parts.specs.declared.share.Share.{Share}
use Rattle.nr_parts.specs.declared.walking.Claim.{Claim}
use Rattle.nr_parts.specs.declared.fault.PartFault.{PartFault}
use Rattle.nr_parts.proofs.Grown.{tops, top_spots, tops_forest, usage_forest, IsGrown}
use Rattle.nr_parts.proofs.Nodes.{held_map}
use Rattle.nr_parts.proofs.Standing.{grown_map}
use Rattle.nr_parts.proofs.Values.{IsSame, own_part}
use Rattle.nr_parts.proofs.Shares.{entries_tree, some_own}
use Rattle.nr_parts.proofs.Walks.{AllHeld, looked_own, walk_own, claim_told, claim_here, fine, ok_claims, map_append}

-- ---- tests that passed
abbrev passes : Result (Unit {0}) PartFault → Type 0
passes r = r ≡ Ok tt

accepts : (b : Bool) (then : Result (Unit {0}) PartFault) (fault : PartFault) → passes (cond b then (Err fault)) → (b ≡ true) × passes then
accepts true then fault e = (refl, e)
accepts false then fault e = absurd cc

same_bytes : (a b : List ℕ) → bytes_eq a b ≡ true → a ≡ b
same_bytes a b e = (bytes_eq-Decides a b).0 e

pub equal_hash : (a b : Hash32) → same_hash a b ≡ true → a ≡ b
equal_hash a b e = let same = same_bytes a.0 b.0 e in (λ i. record { 0 = same i })

none_other : (o : Option ℕ) → passes (entries_or_fault o) → o ≡ None
none_other None e = refl
none_other (Some i) e = absurd cc

lifted_ok : (r : Result (List Claim) WalkFault) (claims : List Claim) → lifted r ≡ Ok claims → r ≡ Ok claims
lifted_ok (Ok x) claims e = cc
lifted_ok (Err fault) claims e = absurd cc

pub some_number : (count number : ℕ) → is_numbered count number ≡ true → 0 < count
some_number count number e =
    let one = and_parts (nat_le 1 count) (nat_le count 10000 && nat_lt number count) (regroup (nat_le 1 count) (nat_le count 10000) (nat_lt number count) e) in
    let some : 1 ≤ count = leb-true 1 count one.0 in omega arith
  where
    regroup : (a b c : Bool) → (a && b && c) ≡ true → (a && (b && c)) ≡ true
    regroup true b c e = e
    regroup false b c e = e

-- ---- the entries are those claimed
claimed_one : (e : Entry) (c : Claim) → is_claimed e c ≡ true → claim_told e ≡ c
claimed_one e c is =
    let a = split (bytes_eq e.key c.key) (length e.value == c.length) (same_hash (digest e.value) c.hash) is in
    let key = same_bytes e.key c.key a.0 in
    let size : length e.value ≡ c.length = eqb-true (length e.value) c.length a.1 in
    let hash = equal_hash (digest e.value) c.hash a.2 in
    λ i. claim (key i) (size i) (hash i)
  where
    split : (a b c : Bool) → (a && b && c) ≡ true → (a ≡ true) × (b ≡ true) × (c ≡ true)
    split true true c e = (refl, refl, e)
    split true false c e = absurd cc
    split false b c e = absurd cc

all_claimed : (i : ℕ) (es : List Entry) (claims : List Claim) → first_other i es claims ≡ None → map claim_told es ≡ claims
all_claimed i [] [] e = refl
all_claimed i [] (c ∷ claims) e = absurd cc
all_claimed i (x ∷ es) [] e = absurd cc
all_claimed i (x ∷ es) (c ∷ claims) e =
    elim (is_claimed x c) as (λ b. is_claimed x c ≡ b → cond b (first_other (suc i) es claims) (Some i) ≡ None → map claim_told (x ∷ es) ≡ c ∷ claims) [
      | true ↦ λ is f. (λ j. claimed_one x c is j ∷ all_claimed (suc i) es claims f j)
      | false ↦ λ is f. absurd cc
    ] refl e

-- ---- entries with the same claims
all_tail : (e : Entry) (es fs : List Entry) → AllByRecursion (λ (f : Entry). AllByRecursion (λ (e : Entry). IsSame e.value f.value) (e ∷ es)) fs → AllByRecursion (λ (f : Entry). AllByRecursion (λ (e : Entry). IsSame e.value f.value) es) fs
all_tail e es [] h = tt
all_tail e es (f ∷ fs) h = (h.0.1, all_tail e es fs h.1)

claims_head : (a b : Claim) (xs ys : List Claim) → a ∷ xs ≡ b ∷ ys → (a ≡ b) × (xs ≡ ys)
claims_head a b xs ys e = (cc, cc)

same_entries : (es fs : List Entry) → map claim_told es ≡ map claim_told fs → AllByRecursion (λ (f : Entry). AllByRecursion (λ (e : Entry). IsSame e.value f.value) es) fs → es ≡ fs
same_entries [] [] h own = refl
same_entries [] (f ∷ fs) h own = absurd cc
same_entries (e ∷ es) [] h own = absurd cc
same_entries (e ∷ es) (f ∷ fs) h own =
    let a = claims_head (claim_told e) (claim_told f) (map claim_told es) (map claim_told fs) h in
    let key : e.key ≡ f.key = ap (λ (c : Claim). c.key) a.0 in
    let value : e.value ≡ f.value = own.0.0 (ap (λ (c : Claim). c.hash.0) a.0) in
    let rest = same_entries es fs a.1 (all_tail e es fs own.1) in
    λ i. record { key = key i; value = value i } ∷ rest i

-- ---- the trie of a map
-- what stands at the top of the trie of a map: one node, with the root's hash and usage, or none
pub record IsTop (s : Summary) (top : Stood) : Type 0 where
  pub place : top.place ≡ []
  pub hash : digest (node_text top.node) ≡ s.hash
  pub usage : usage_of top.node ≡ s.usage

abbrev pub TopOf : Summary → Forest → Type 0
TopOf s bare = s.hash ≡ no_root
TopOf s (tree top below beside) = IsTop s top × (beside ≡ bare)

spots_head : (a b : Spot) (xs ys : List Spot) → a ∷ xs ≡ b ∷ ys → (a ≡ b) × (xs ≡ ys)
spots_head a b xs ys e = (cc, cc)

bare_tops : (g : Forest) → tops g ≡ [] → g ≡ bare
bare_tops bare e = refl
bare_tops (tree top below beside) e = absurd cc

top_of : (o : Option Summary) (g : Forest) → tops g ≡ top_spots [] o ++ [] → tops_usage g ≡ usage_below o + 0 → TopOf (summary_of o) g
top_of None bare e u = refl
top_of None (tree top below beside) e u = absurd cc
top_of (Some s) bare e u = absurd cc
top_of (Some s) (tree top below beside) e u =
    let a = spots_head (spot top.place (digest (node_text top.node))) (spot [] s.hash) (tops beside) [] e in
    let none = bare_tops beside a.1 in
    let no_usage : tops_usage beside ≡ 0 = ap tops_usage none in
    (record { place = ap (λ (s : Spot). s.place) a.0; hash = ap (λ (s : Spot). s.hash) a.0; usage = omega (arith, u, no_usage) }, none)

pub map_top : (es : List (List ℕ × List ℕ)) → TopOf (root_of_entries es) (forest_of es)
unfolding forest_of root_of_entries
map_top es = top_of (trie (depth (paths es)) (paths es)) (forest (depth (paths es)) [] (paths es) bare) (tops_forest (depth (paths es)) [] (paths es) bare) (usage_forest (depth (paths es)) [] (paths es) bare)

-- ---- the walk from the root
walked_own : (texts : Contents) (count number : ℕ) (s : Summary) (top : Stood) (below : Forest) (claims : List Claim)
    → 0 < count → IsTop s top → IsGrown (tree top below bare) → AllHeld texts (tree top below bare)
    → walked texts s.hash count number ≡ Ok claims
    → claims ≡ map claim_told (entries_in (share_of s.usage count number) 0 (tree top below bare))
unfolding walked
walked_own texts count number s top below claims some is grown held e =
    let a = bind_ok (looked_at texts (spot [] s.hash)) (λ node. walk_below texts (share_of (usage_of node) count number) node) claims e in
    let at : looked_at texts (spot top.place (digest (node_text top.node))) ≡ Ok a.0 = (λ i. looked_at texts (spot (is.place i) (is.hash i))) ∙ a.1 in
    let node : top.node ≡ a.0 = looked_own texts top a.0 grown.0.form held.0 at in
    let share = share_of s.usage count number in
    let own : share_of (usage_of a.0) count number ≡ share = ap (λ n. share_of n count number) (ap usage_of (sym node) ∙ is.usage) in
    let step : walk_below texts share top.node ≡ Ok claims = (λ i. walk_below texts (sym own i) (node i)) ∙ a.2 in
    let b = bind_ok (walk_from texts share (most_nodes - 1) (own_usage top.node) (spots_of [] top.node)) (λ claims. Ok (option_list (claim_at share 0 [] top.node) ++ claims)) claims step in
    let spots : tops below ≡ spots_of [] top.node = sym grown.0.spots ∙ ap (λ (p : List ℕ). spots_of p top.node) is.place in
    let walk : walk_from texts share (most_nodes - 1) (own_usage top.node) (tops below) ≡ Ok b.0 = ap (walk_from texts share (most_nodes - 1) (own_usage top.node)) spots ∙ b.1 in
    let whole : 0 < s.usage = omega (arith, is.usage, grown.0.usage, some_own top.node) in
    let rest = walk_own texts share (most_nodes - 1) (own_usage top.node) below b.0 whole some grown.1 held.1 walk in
    let first : option_list (claim_at share 0 [] top.node) ≡ map claim_told (entry_in share (0, top)) = ap (λ (p : List ℕ). option_list (claim_at share 0 p top.node)) (sym is.place) ∙ claim_here share 0 top below grown.0 in
    let all : entries_in share 0 (tree top below bare) ≡ entry_in share (0, top) ++ entries_in share (own_usage top.node) below =
    entries_tree share 0 top below bare grown
    ∙ (λ i. entry_in share (0, top) ++ append-nil (entries_in share (0 + own_usage top.node) below) i)
    ∙ ap (λ n. entry_in share (0, top) ++ entries_in share n below) (omega arith) in
    sym (ok_claims (option_list (claim_at share 0 [] top.node) ++ b.0) claims b.2)
    ∙ (λ i. first i ++ rest i)
    ∙ sym (map_append (entry_in share (0, top)) (entries_in share (own_usage top.node) below))
    ∙ ap (map claim_told) (sym all)

-- what is claimed is the map's part
abbrev Claims : Part → List Claim → Type 0
Claims part claims = claims_of part ≡ Ok claims

under_zeros : (part : Part) (claims : List Claim) → is_zeros part.root ≡ true → Claims part claims → claims ≡ []
unfolding claims_of
under_zeros part claims zeros e =
    sym (ok_claims [] claims (sym (ap (λ b. cond b (fine []) (walked (texts_of part.texts) part.root part.count part.number)) zeros) ∙ e))

under_root : (part : Part) (claims : List Claim) → is_zeros part.root ≡ false → Claims part claims → walked (texts_of part.texts) part.root part.count part.number ≡ Ok claims
unfolding claims_of
under_root part claims zeros e = sym (ap (λ b. cond b (fine []) (walked (texts_of part.texts) part.root part.count part.number)) zeros) ∙ e

pub zeros_again : (h : Hash32) → h ≡ no_root → is_zeros h ≡ true
zeros_again h e = ap is_zeros e

pub zeros_only : (h : Hash32) → is_zeros h ≡ true → h ≡ no_root
zeros_only h e = let same = same_bytes h.0 no_root.0 e in (λ i. record { 0 = same i })

no_entries : (share : Share) → entries_in share 0 (forest_of []) ≡ []
unfolding forest_of forest
no_entries share = refl

claims_own : (part : Part) (claims : List Claim) (s : Summary) (g : Forest) → s.hash ≡ part.root → 0 < part.count → is_zeros part.root ≡ false → TopOf s g → IsGrown g → AllHeld (texts_of part.texts) g → Claims part claims → claims ≡ map claim_told (entries_in (share_of s.usage part.count part.number) 0 g)
claims_own part claims s bare root some zeros top grown held e = absurd (false≢true (sym zeros ∙ zeros_again part.root (sym root ∙ top)))
claims_own part claims s (tree t below beside) root some zeros top grown held e =
    let walk : walked (texts_of part.texts) s.hash part.count part.number ≡ Ok claims = ap (λ h. walked (texts_of part.texts) h part.count part.number) root ∙ under_root part claims zeros e in
    walked_own (texts_of part.texts) part.count part.number s t below claims some top.0 (grown.0, grown.1, tt) (held.0, held.1, tt) walk
    ∙ ap (λ (g : Forest). map claim_told (entries_in (share_of s.usage part.count part.number) 0 (tree t below g))) (sym top.1)

pub part_claims : (part : Part) (claims : List Claim) (m : Contents) → IsOf (texts_of part.texts) part.root m → 0 < part.count → Claims part claims → claims ≡ map claim_told (part_of m part.count part.number)
unfolding part_of_entries
part_claims part claims m given some e =
    elim (is_zeros part.root) as (λ b. is_zeros part.root ≡ b → claims ≡ map claim_told (part_of m part.count part.number)) [
      | true ↦ λ zeros.
          let none : entries m ≡ [] = given.empty_only (zeros_only part.root zeros) in
          under_zeros part claims zeros e ∙ sym (ap (λ (es : List (List ℕ × List ℕ)). map claim_told (entries_in (share_of (root_of_entries es).usage part.count part.number) 0 (forest_of es))) none ∙ ap (map claim_told) (no_entries (share_of (root_of_entries []).usage part.count part.number)))
      | false ↦ λ zeros.
          claims_own part claims (root_of_entries (entries m)) (forest_of (entries m)) given.root_is some zeros (map_top (entries m)) (grown_map m given.bytes)
          (held_map (texts_of part.texts) part.root m given) e
    ] refl

pub accepted : (root : Hash32) (part : Part) → checked root part ≡ Ok tt → IsPartOfEach root part
unfolding checked
accepted root part is m given =
    let a = accepts (is_numbered part.count part.number) (cond (same_hash part.root root) (compared part) _) _ is in
    let b = accepts (same_hash part.root root) (compared part) _ a.1 in
    let c = bind_ok (lifted (claims_of part)) (λ claims. entries_or_fault (first_other 0 part.entries claims)) tt b.1 in
    let claims = all_claimed 0 part.entries c.0 (none_other (first_other 0 part.entries c.0) c.2) in
    let at : IsOf (texts_of part.texts) part.root m = subst (λ h. IsOf (texts_of part.texts) h m) (sym (equal_hash part.root root b.0)) given.texts in
    let own = part_claims part c.0 m at (some_number part.count part.number a.0) (lifted_ok (claims_of part) c.0 c.1) in
    same_entries part.entries (part_of m part.count part.number) (claims ∙ own) (own_part part (entries m) given.values)

pub accepted_always : (root : Hash32) (part : Part) (r : Result (Unit {0}) PartFault) → Gives memory_fault r (checked root part) → IfOk r (λ (_ : Unit {0}). IsPartOfEach root part)
accepted_always root part (Ok tt) h = accepted root part h
accepted_always root part (Err e) h = tt
