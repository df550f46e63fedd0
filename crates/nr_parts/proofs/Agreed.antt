-- A part that was cut is accepted, where the map that was cut agrees with it.
use Rattle.std.proofs.Common.{◌≡◌, ◌<◌, ◌≤◌, ◌+◌, ◌-◌, ℕ, suc, true, false, cond, ◌&&◌, List, [], ◌∷◌, ◌++◌, length, map, Some, None, Ok, Err, refl, ap, sym, subst, ◌∙◌, arith, eq-eqb}
use mathlib.Core.Bool.{false≢true}
use Rattle.std.specs.Prelude.{fold, is_some, Result, IfOk}
use Rattle.std.specs.List.{AllByRecursion}
use Rattle.std.specs.Ordering.{is_eq}
use Rattle.std.specs.declared.cmp.Ordering.TheVariants.{Less, Equal, Greater}
use Rattle.std.specs.FinMap.{entries, empty, get, insert, get-insert}
use Rattle.std.specs.Cmp.Lexicographic.{nat_list_cmp_total}
use Rattle.std.proofs.lemmas.Bool.{le-leb, lt-ltb}
use Rattle.std.proofs.lemmas.Slice.Eq.{bytes_eq-Decides}
use Rattle.std.proofs.lemmas.Map.Lookups.{exact_bytes}
use Rattle.nr_bytes.proofs.Basics.{all_both}
use Rattle.sha2.specs.Sha256.{sha256}
use Rattle.nr_bytes.specs.Reading.{◌>>=◌}
use Rattle.nr_triedef.specs.Node.{digest, node_text, usage_of}
use Rattle.nr_triedef.specs.Root.{Contents, paths, root_of}
use Rattle.nr_triedef.specs.declared.hash.Summary.{Summary}
use Rattle.nr_store.proofs.Held.{R}
use Rattle.nr_store.proofs.Listed.{walk_whole}
use Rattle.nr_trielist.specs.Forest.{Stood, Forest, bare, tree, forest_of}
use Rattle.nr_columns.specs.declared.entry.Entry.{Entry}
use Rattle.nr_walk.specs.Texts.{with_text, texts_of}
use Rattle.nr_walk.specs.Told.{spot, spots_of, own_usage, option_list}
use Rattle.nr_walk.specs.Looking.{looked_at}
use Rattle.nr_walk.specs.Shown.{IsOf}
use Rattle.nr_parts.specs.Offsets.{tops_usage, share_of, meets}
use Rattle.nr_parts.specs.Cutting.{looked, looked_from_root, once, part_texts, part_cut}
use Rattle.nr_parts.specs.Walking.{claim_at, walk_from, walk_below, walked, most_nodes}
use Rattle.nr_parts.specs.Checking.{lifted, same_hash, is_zeros, is_claimed, first_other, entries_or_fault, is_numbered, claims_of, compared, checked}
use Rattle.nr_columns.specs.Entries.{pairs_of}
use Rattle.nr_parts.specs.Agreeing.{IsCutAccepted, IsAcceptedOf}
use Rattle.nr_parts.specs.declared.part.Part.{Part}
use Rattle.nr_parts.specs.declared.share.Share.{Share}
use Rattle.nr_parts.specs.declared.walking.Claim.{Claim}
use Rattle.nr_parts.specs.declared.fault.PartFault.TheVariants.{Numbers, Root}
use Rattle.nr_parts.proofs.Accepted.{IsTop, TopOf, map_top, zeros_again, part_claims}
use Rattle.nr_parts.proofs.Counted.{looked_entries}
use Rattle.nr_parts.proofs.Fine.{HasClaims, walk_fine}
use Rattle.nr_parts.proofs.Grown.{tops, IsGrown}
use Rattle.nr_parts.proofs.Nodes.{AllNodes, IsThere, map_nodes, held_map, looked_fine}
use Rattle.nr_parts.proofs.Standing.{map_stands, grown_map}
use Rattle.nr_parts.proofs.Values.{same_key}
use Rattle.nr_parts.proofs.Walks.{IsHeld, AllHeld, claim_told}

-- ---- texts that were listed once are held
R_same : (h k : List ℕ) (m : Contents) (v : List ℕ) → is_some (get m h) ≡ true → is_some (get (insert m k v) h) ≡ true
R_same h k m v is =
    ap is_some (get-insert nat_list_cmp_total m k v h)
    ∙ elim (is_eq (R h k)) as (λ b. is_some (cond b (Some v) (get m h)) ≡ true) [ true ↦ refl | false ↦ is ]

insert_has : (k : List ℕ) (m : Contents) (v : List ℕ) → is_some (get (insert m k v) k) ≡ true
insert_has k m v = ap is_some (get-insert nat_list_cmp_total m k v k) ∙ ap (λ b. is_some (cond b (Some v) (get m k))) (same_key k)

with_keeps : (m : Contents) (text h : List ℕ) → is_some (get m h) ≡ true → is_some (get (with_text m text) h) ≡ true
with_keeps m text h is = elim (is_some (get m (sha256 text))) as (λ b. is_some (get (cond b m (insert m (sha256 text) text)) h) ≡ true) [ true ↦ is | false ↦ R_same h (sha256 text) m text is ]

with_has : (m : Contents) (text : List ℕ) → is_some (get (with_text m text) (sha256 text)) ≡ true
with_has m text =
    elim (is_some (get m (sha256 text))) as (λ b. is_some (get m (sha256 text)) ≡ b → is_some (get (cond b m (insert m (sha256 text) text)) (sha256 text)) ≡ true) [
      | true ↦ λ e. e
      | false ↦ λ e. insert_has (sha256 text) m text
    ] refl

after_keeps : (xs : List (List ℕ)) (m : Contents) (h : List ℕ) → is_some (get m h) ≡ true → is_some (get (fold with_text m xs) h) ≡ true
after_keeps [] m h is = is
after_keeps (x ∷ xs) m h is = after_keeps xs (with_text m x) h (with_keeps m x h is)

-- what was seen is held
abbrev Seen : Contents → Contents → Type 0
Seen seen held = (h : List ℕ) → is_some (get seen h) ≡ true → is_some (get held h) ≡ true

seen_more : (seen held : Contents) (text : List ℕ) → Seen seen held → Seen (insert seen (sha256 text) []) (with_text held text)
seen_more seen held text all h is =
    elim (R h (sha256 text)) as (λ r. R h (sha256 text) ≡ r → is_some (cond (is_eq r) (Some []) (get seen h)) ≡ true → is_some (get (with_text held text) h) ≡ true) [
      | Less ↦ λ p f. with_keeps held text h (all h f)
      | Equal ↦ λ p f. subst (λ (k : List ℕ). is_some (get (with_text held text) k) ≡ true) (sym (exact_bytes h (sha256 text) p)) (with_has held text)
      | Greater ↦ λ p f. with_keeps held text h (all h f)
    ] refl (ap is_some (sym (get-insert nat_list_cmp_total seen (sha256 text) [] h)) ∙ is)

once_held : (xs : List (List ℕ)) (seen held : Contents) → Seen seen held → AllByRecursion (λ (text : List ℕ). is_some (get (fold with_text held (once seen xs)) (sha256 text)) ≡ true) xs
once_held [] seen held all = tt
once_held (x ∷ xs) seen held all =
    elim (is_some (get seen (sha256 x))) as (λ b. is_some (get seen (sha256 x)) ≡ b → AllByRecursion (λ (text : List ℕ). is_some (get (fold with_text held (cond b (once seen xs) (x ∷ once (insert seen (sha256 x) []) xs))) (sha256 text)) ≡ true) (x ∷ xs)) [
      | true ↦ λ e. (after_keeps (once seen xs) held (sha256 x) (all (sha256 x) e), once_held xs seen held all)
      | false ↦ λ e. (after_keeps (once (insert seen (sha256 x) []) xs) (with_text held x) (sha256 x) (with_has held x), once_held xs (insert seen (sha256 x) []) (with_text held x) (seen_more seen held x all))
    ] refl

listed_held : (xs : List (List ℕ)) → AllByRecursion (λ (text : List ℕ). is_some (get (texts_of (once empty xs)) (sha256 text)) ≡ true) xs
unfolding texts_of
listed_held xs = once_held xs empty empty (λ h is. is)

there_of : (texts : Contents) (s : Stood) → IsHeld texts s → is_some (get texts (sha256 (node_text s.node))) ≡ true → IsThere texts s
there_of texts s held is =
    elim (get texts (digest (node_text s.node)).0) as (λ o. get texts (digest (node_text s.node)).0 ≡ o → is_some o ≡ true → o ≡ Some (node_text s.node)) [
      | None ↦ λ e f. absurd (false≢true f)
      | Some text ↦ λ e f. ap (λ (t : List ℕ). Some t) (held.own text e)
    ] refl is

all_there : (texts : Contents) (ss : List Stood) → AllByRecursion (IsHeld texts) ss → AllByRecursion (λ (text : List ℕ). is_some (get texts (sha256 text)) ≡ true) (map (λ (s : Stood). node_text s.node) ss) → AllByRecursion (IsThere texts) ss
all_there texts [] a b = tt
all_there texts (s ∷ ss) a b = (there_of texts s a.0 b.0, all_there texts ss a.1 b.1)

held_looked : (texts : Contents) (share : Share) (at : ℕ) (g : Forest) → AllHeld texts g → AllByRecursion (IsHeld texts) (looked share at g)
held_looked texts share at bare h = tt
held_looked texts share at (tree top below beside) h = (
  h.0,
  all_both (IsHeld texts) (cond (meets share at (usage_of top.node)) (looked share (at + (usage_of top.node - tops_usage below)) below) []) (looked share (at + usage_of top.node) beside)
      (elim (meets share at (usage_of top.node)) as (λ m. AllByRecursion (IsHeld texts) (cond m (looked share (at + (usage_of top.node - tops_usage below)) below) [])) [ true ↦ held_looked texts share (at + (usage_of top.node - tops_usage below)) below h.1 | false ↦ tt ])
      (held_looked texts share (at + usage_of top.node) beside h.2),
)

-- ---- the walk from the root
walked_fine : (texts : Contents) (m : Contents) (count number : ℕ) (s : Summary) (top : Stood) (below : Forest) → IsOf texts s.hash m → IsTop s top → IsGrown (tree top below bare) → AllNodes (paths (entries m)) (tree top below bare)
    → AllByRecursion (IsThere texts) (looked_from_root (share_of s.usage count number) (tree top below bare)) → length (looked_from_root (share_of s.usage count number) (tree top below bare)) ≤ most_nodes → HasClaims (walked texts s.hash count number)
unfolding walked
walked_fine texts m count number s top below given is grown nodes there few =
    let share = share_of s.usage count number in
    let node : looked_at texts (spot [] s.hash) ≡ Ok top.node = (λ i. looked_at texts (spot (sym is.place i) (sym is.hash i))) ∙ looked_fine texts s.hash m top given nodes.0 there.0 in
    let own : usage_of top.node - tops_usage below ≡ own_usage top.node = omega (arith, grown.0.usage) in
    let all = subst (λ n. AllByRecursion (IsThere texts) (looked share n below)) own there.1 in
    let count_is : suc (length (looked share (usage_of top.node - tops_usage below) below)) ≤ most_nodes = few in
    let fuel : length (looked share (own_usage top.node) below) ≤ most_nodes - 1 = subst (λ n. length (looked share n below) ≤ most_nodes - 1) own (omega (arith, count_is)) in
    let rest = walk_fine texts s.hash m share (most_nodes - 1) (own_usage top.node) below given grown.1 nodes.1 all fuel in
    let spots : tops below ≡ spots_of [] top.node = sym grown.0.spots ∙ ap (λ (p : List ℕ). spots_of p top.node) is.place in
    let walk : walk_from texts share (most_nodes - 1) (own_usage top.node) (spots_of [] top.node) ≡ Ok rest.0 = ap (walk_from texts share (most_nodes - 1) (own_usage top.node)) (sym spots) ∙ rest.1 in (
      option_list (claim_at share 0 [] top.node) ++ rest.0,
      ap (λ r. r >>= λ node. walk_below texts (share_of (usage_of node) count number) node) node
          ∙ ap (λ u. walk_below texts (share_of u count number) top.node) is.usage
          ∙ ap (λ r. r >>= λ claims. Ok (option_list (claim_at share 0 [] top.node) ++ claims)) walk,
    )

forest_fine : (texts : Contents) (m : Contents) (count number : ℕ) (s : Summary) (g : Forest) → IsOf texts s.hash m
    → is_zeros s.hash ≡ false → TopOf s g → IsGrown g → AllNodes (paths (entries m)) g
    → AllByRecursion (IsThere texts) (looked_from_root (share_of s.usage count number) g)
    → length (looked_from_root (share_of s.usage count number) g) ≤ most_nodes
    → HasClaims (walked texts s.hash count number)
forest_fine texts m count number s bare given zeros top grown nodes there few = absurd (false≢true (sym zeros ∙ zeros_again s.hash top))
forest_fine texts m count number s (tree t below beside) given zeros top grown nodes there few = walked_fine texts m count number s t below given top.0 (grown.0, grown.1, tt) (nodes.0, nodes.1, tt) there few

held_root : (texts : Contents) (share : Share) (g : Forest) → AllHeld texts g → AllByRecursion (IsHeld texts) (looked_from_root share g)
held_root texts share bare h = tt
held_root texts share (tree top below beside) h = (h.0, held_looked texts share (usage_of top.node - tops_usage below) below h.1)

listed_there : (m : Contents) (count number : ℕ) → AllByRecursion (λ (text : List ℕ). is_some (get (texts_of (part_texts (entries m) count number)) (sha256 text)) ≡ true) (map (λ (s : Stood). node_text s.node) (looked_from_root (share_of (root_of m).usage count number) (forest_of (entries m))))
unfolding part_texts
listed_there m count number = listed_held (map (λ (s : Stood). node_text s.node) (looked_from_root (share_of (root_of m).usage count number) (forest_of (entries m))))

claims_fine : (m : Contents) (count number : ℕ) → length (looked_from_root (share_of (root_of m).usage count number) (forest_of (entries m))) ≤ most_nodes → IsOf (texts_of (part_cut (entries m) count number).texts) (root_of m).hash m → HasClaims (claims_of (part_cut (entries m) count number))
unfolding claims_of
claims_fine m count number few given =
    let part = part_cut (entries m) count number in
    let texts = texts_of part.texts in
    let held : AllHeld texts (forest_of (entries m)) = held_map texts (root_of m).hash m given in
    let share = share_of (root_of m).usage count number in
    elim (is_zeros part.root) as (λ b. is_zeros part.root ≡ b → HasClaims (cond b (Ok []) (walked texts part.root count number))) [
      | true ↦ λ e. ([], refl)
      | false ↦ λ e. forest_fine texts m count number (root_of m) (forest_of (entries m)) given e (map_top (entries m)) (grown_map m given.bytes) (map_nodes m given.bytes) (all_there texts (looked_from_root share (forest_of (entries m))) (held_root texts share (forest_of (entries m)) held) (listed_there m count number)) few
    ] refl

-- ---- entries are those that they claim
claimed_self : (e : Entry) → is_claimed e (claim_told e) ≡ true
claimed_self e = (λ i. (bytes_eq-Decides e.key e.key).1 refl i && eq-eqb (length e.value) (length e.value) refl i && (bytes_eq-Decides (digest e.value).0 (digest e.value).0).1 refl i)

none_other : (i : ℕ) (es : List Entry) → first_other i es (map claim_told es) ≡ None
none_other i [] = refl
none_other i (e ∷ es) = ap (λ b. cond b (first_other (suc i) es (map claim_told es)) (Some i)) (claimed_self e) ∙ none_other (suc i) es

number_fine : (count number : ℕ) → 1 ≤ count → count ≤ 10000 → number < count → is_numbered count number ≡ true
number_fine count number a b c = (λ i. le-leb 1 count a i && le-leb count 10000 b i && lt-ltb number count c i)

pub cut_accepted : (m : Contents) (count number : ℕ) → IsCutAccepted m count number
unfolding checked
cut_accepted m count number some most low given =
    let few : length (looked_from_root (share_of (root_of m).usage count number) (forest_of (entries m))) ≤ most_nodes = omega (arith, given.few, looked_entries (share_of (root_of m).usage count number) (entries m) (map_stands m given.bytes) (walk_whole m (paths (entries m)) refl (map_stands m given.bytes).small)) in
    let part = part_cut (entries m) count number in
    let fine = claims_fine m count number few given in
    let own : fine.0 ≡ map claim_told part.entries = part_claims part fine.0 m given (omega (arith, some)) fine.1 in
    let compare : compared part ≡ Ok tt =
    ap (λ r. lifted r >>= λ claims. entries_or_fault (first_other 0 part.entries claims)) fine.1
    ∙ ap (λ (claims : List Claim). entries_or_fault (first_other 0 part.entries claims)) own
    ∙ ap entries_or_fault (none_other 0 part.entries) in
    ap (λ b. cond b (cond (same_hash part.root part.root) (compared part) (Err (Root part.root))) (Err (Numbers count number))) (number_fine count number some most low)
    ∙ ap (λ b. cond b (compared part) (Err (Root part.root))) ((bytes_eq-Decides part.root.0 part.root.0).1 refl)
    ∙ compare

pub cut_fine : {F : Type 0} (es : List Entry) (count number : ℕ) (r : Result Part F) → 1 ≤ count → count ≤ 10000 → number < count → IfOk r (λ (p : Part). p ≡ part_cut (pairs_of es) count number) → IfOk r (IsAcceptedOf es)
cut_fine es count number (Ok p) some most low is = λ m same given.
    let cut : p ≡ part_cut (entries m) count number = is ∙ ap (λ (l : List (List ℕ × List ℕ)). part_cut l count number) same in
    let held : IsOf (texts_of (part_cut (entries m) count number).texts) (root_of m).hash m = subst (λ (q : Part). IsOf (texts_of q.texts) q.root m) cut given in
    subst (λ (q : Part). checked q.root q ≡ Ok tt) (sym cut) (cut_accepted m count number some most low held)
cut_fine es count number (Err e) some most low is = tt
