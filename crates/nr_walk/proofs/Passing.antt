-- The nodes of a map's trie pass the checks of a walk over texts that agree with the map.
use Rattle.std.proofs.Common.{◌≡◌, ◌==◌, ◌≤◌, ◌+◌, ℕ, zero, suc, Bool, true, false, cond, List, [], ◌∷◌, ◌++◌, length, map, ◌%◌, length-append, Option, Some, None, Result, Ok, Err, refl, sym, ap, subst, ◌∙◌, arith, inl, inr, eq-eqb}
use Rattle.std.specs.Prelude.{◌⊎◌, ◌&&◌, ◌||◌, not, nat_le, is_some, sum_by}
use Rattle.std.specs.List.{AllByRecursion}
use Rattle.std.specs.FinMap.{get, entries}
use Rattle.nr_bytes.specs.Reading.{◌>>=◌}
use Rattle.std.proofs.lemmas.Bool.{le-leb}
use Rattle.std.proofs.lemmas.List.Sums.{sum_by-cons}
use Rattle.nr_bytes.proofs.Basics.{left_true, right_true}
use Rattle.nr_ids.specs.declared.key.Hash32.{Hash32}
use Rattle.nr_triedef.specs.Node.{IsNode, nibbles, digest, node_text, usage_of}
use Rattle.nr_triedef.specs.Reading.{Fits, node_at}
use Rattle.nr_triedef.specs.Root.{Contents, Paths, paths, front, under, value_here, value_field, value_usage, usage_below, hash_below, leaf}
use Rattle.nr_triedef.specs.declared.hash.Summary.{Summary}
use Rattle.nr_triedef.specs.declared.node.Node.{Node}
use Rattle.nr_triedef.specs.declared.node.Node.TheVariants.{Branch}
use Rattle.nr_triedef.specs.Stores.{IsSizedEntry}
use Rattle.nr_triedef.specs.declared.fault.NodeFault.{NodeFault}
use Rattle.nr_triedef.proofs.Laws.{node_again}
use Rattle.nr_store.proofs.Links.{all_under}
use Rattle.nr_store.proofs.Listed.{walk_whole}
use Rattle.nr_store.proofs.Nibbles.{length-nibbles}
use Rattle.nr_store.specs.Tries.{CanWalk, cut, whole}
use Rattle.nr_store.proofs.Levels.{whole_none}
use Rattle.nr_store.proofs.Orders.{walk_cut, walk_under}
use Rattle.nr_walk.specs.declared.fault.WalkFault.{WalkFault}
use Rattle.nr_walk.specs.declared.fault.WalkFault.TheVariants.{BadText}
use Rattle.nr_walk.specs.Texts.{text_at, text_or_missing, node_or_bad, known, read_held, readable}
use Rattle.nr_walk.specs.Told.{spot, ending_of, hashes_in, option_list, children_of, own_usage, is_branch}
use Rattle.nr_walk.specs.Looking.{known_usage, sum_known, are_known, is_sum, is_summed, is_branch_read, is_branch_held, is_joined, is_end, is_ended, is_right, looked_at}
use Rattle.nr_walk.specs.Tries.{children, branch_of, top_over, top_of, IsBelow, Agrees, AreFitting}
use Rattle.nr_walk.specs.Tries.IsBelow.{Top, Behind, Under}
use Rattle.nr_walk.specs.Shown.{behind_all, IsOf}
use Rattle.nr_walk.proofs.Fitting.{fitting}
use Rattle.nr_walk.proofs.ShownMaps.{all_nibbles}
use Rattle.nr_walk.proofs.Pairs.{part_back}
use Rattle.nr_walk.proofs.Rows.{Path}
use Rattle.nr_walk.proofs.Tops.{whole_is, top_node, many_cut, front_cut, top_leaf, top_parted, top_shared}

-- ---- a child that is held
read_own : (held : Option (List ℕ)) (top : Node) → IsNode top → Fits top → ((text : List ℕ) → held ≡ Some text → text ≡ node_text top) → (read_held held ≡ None) ⊎ (read_held held ≡ Some top)
read_own None top is fits own = inl refl
read_own (Some text) top is fits own = inr (ap readable (ap node_at (own text refl) ∙ node_again top is fits))

known_own : (texts : Contents) (top : Paths) → Agrees texts top → AreFitting top → (qs : Paths) → IsBelow top qs → 1 ≤ length qs → CanWalk qs
    → (known texts (digest (node_text (top_of qs))) ≡ None) ⊎ (known texts (digest (node_text (top_of qs))) ≡ Some (top_of qs))
unfolding known
known_own texts top agrees fits qs b some h = read_own (get texts (digest (node_text (top_of qs))).0) (top_of qs) (top_node qs some h) (fits qs b some) (agrees.nodes qs b some)

-- ---- what is known of the children
record IsTallied (known : ℕ) (whole : Bool) (sum : ℕ) : Type 0 where
  most : known ≤ sum
  exact : whole ≡ true → known ≡ sum

one_known : (o : Option Node) (node : Node) → (o ≡ None) ⊎ (o ≡ Some node) → IsTallied (known_usage o) (is_some o) (usage_of node)
one_known o node (inl e) = subst (λ (x : Option Node). IsTallied (known_usage x) (is_some x) (usage_of node)) (sym e) (record { most = omega arith; exact = λ w. absurd cc })
one_known o node (inr e) = subst (λ (x : Option Node). IsTallied (known_usage x) (is_some x) (usage_of node)) (sym e) (record { most = omega arith; exact = λ w. refl })

joined : (a b c : ℕ) (u v : Bool) (n m k : ℕ) → IsTallied a u n → IsTallied b v m → c ≡ a + b → k ≡ n + m → IsTallied c (u && v) k
joined a b c u v n m k h g e f =
    record { most = omega (arith, h.most, g.most); exact = λ w. omega (arith, h.exact (left_true u v w), g.exact (right_true u v w)) }

abbrev row : Paths → ℕ → ℕ → List (Option Summary)
row ps n zero = []
row ps n (suc c) = whole (under n ps) ∷ row ps (suc n) c

-- the hash of a child that is there stands before the others
abbrev AreTallied : Contents → List Hash32 → ℕ → Type 0
AreTallied texts hashes sum = IsTallied (sum_known texts hashes) (are_known texts hashes) sum

one_tally : (texts : Contents) (top : Paths) → Agrees texts top → AreFitting top → (qs : Paths) (rest : List Hash32) (sum : ℕ) → IsBelow top qs → CanWalk qs → AreTallied texts rest sum
    → AreTallied texts (option_list (hash_below (whole qs)) ++ rest) (usage_below (whole qs) + sum)
one_tally texts top agrees fits [] rest sum b h t =
    let same : sum ≡ 0 + sum = omega arith in
    subst (λ (o : Option Summary). AreTallied texts (option_list (hash_below o) ++ rest) (usage_below o + sum)) (sym (whole_none [] refl)) (subst (λ (k : ℕ). AreTallied texts rest k) same t)
one_tally texts top agrees fits (p ∷ qs) rest sum b h t =
    let all = p ∷ qs in
    let hash = digest (node_text (top_of all)) in
    let o = known texts hash in
    let one = one_known o (top_of all) (known_own texts top agrees fits all b (omega arith) h) in
    let more : AreTallied texts (hash ∷ rest) (usage_of (top_of all) + sum) =
    joined (known_usage o) (sum_known texts rest) (sum_known texts (hash ∷ rest)) (is_some o) (are_known texts rest) (usage_of (top_of all)) sum (usage_of (top_of all) + sum) one t
    (sum_by-cons (λ (x : Hash32). known_usage (known texts x)) hash rest) refl in
    subst (λ (s : Option Summary). AreTallied texts (option_list (hash_below s) ++ rest) (usage_below s + sum)) (sym (whole_is all (omega arith) h)) more

row_tally : (texts : Contents) (top : Paths) → Agrees texts top → AreFitting top → (ps : Paths) (n c : ℕ) → n + c ≡ 16 → IsBelow top ps → 2 ≤ length ps → front ps ≡ [] → CanWalk ps
    → AreTallied texts (hashes_in (map hash_below (row ps n c))) (sum_by usage_below (row ps n c))
row_tally texts top agrees fits ps n zero s b many e h = record { most = omega arith; exact = λ w. refl }
row_tally texts top agrees fits ps n (suc c) s b many e h =
    let behind = hashes_in (map hash_below (row ps (suc n) c)) in
    let rest = row_tally texts top agrees fits ps (suc n) c (omega arith) b many e h in
    subst (λ (k : ℕ). AreTallied texts (option_list (hash_below (whole (under n ps))) ++ behind) k) (sym (sum_by-cons usage_below (whole (under n ps)) (row ps (suc n) c)))
    (one_tally texts top agrees fits (under n ps) behind (sum_by usage_below (row ps (suc n) c)) (Under ps n b many e (omega arith)) (walk_under n ps h) rest)

sum_passes : (told own known sum : ℕ) (whole : Bool) → told ≡ own + sum → IsTallied known whole sum → is_sum told (own + known) whole ≡ true
sum_passes told own known sum whole e t =
    let first : nat_le (own + known) told ≡ true = le-leb (own + known) told (omega (arith, t.most)) in
    let second : (not whole || (told == own + known)) ≡ true =
    elim whole as (λ w. whole ≡ w → (not w || (told == own + known)) ≡ true) [
      | true ↦ λ w. eq-eqb told (own + known) (omega (arith, t.exact w))
      | false ↦ λ w. refl
    ] refl in
    ap (λ b. b && (not whole || (told == own + known))) first ∙ second

-- ---- usages
own_branch : (value : Option (List ℕ)) (hashes : List (Option Hash32)) (usage : ℕ) → own_usage (Branch (value_field value) hashes usage) ≡ 50 + value_usage value
own_branch None hashes usage = refl
own_branch (Some v) hashes usage = omega arith

summed_branch : (texts : Contents) (top : Paths) → Agrees texts top → AreFitting top → (ps : Paths) → IsBelow top ps → 2 ≤ length ps → front ps ≡ [] → CanWalk ps → is_summed texts (branch_of ps) ≡ true
unfolding is_summed
summed_branch texts top agrees fits ps b many e h =
    let hashes = children_of (branch_of ps) in
    let own = own_branch (value_here ps) (map hash_below (children ps)) (usage_of (branch_of ps)) in
    sum_passes (usage_of (branch_of ps)) (own_usage (branch_of ps)) (sum_known texts hashes) (sum_by usage_below (children ps)) (are_known texts hashes)
    (omega (arith, own)) (row_tally texts top agrees fits ps 0 16 refl b many e h)

known_branch : (texts : Contents) (top : Paths) → Agrees texts top → AreFitting top → (ps : Paths) → IsBelow top ps → 2 ≤ length ps → CanWalk ps
    → (known texts (digest (node_text (branch_of (cut ps)))) ≡ None) ⊎ (known texts (digest (node_text (branch_of (cut ps)))) ≡ Some (branch_of (cut ps)))
known_branch texts top agrees fits ps b many h =
    let long = many_cut ps many in
    subst (λ (n : Node). (known texts (digest (node_text n)) ≡ None) ⊎ (known texts (digest (node_text n)) ≡ Some n)) (top_parted (cut ps) long (front_cut ps (omega arith)))
    (known_own texts top agrees fits (cut ps) (Behind ps b many) (omega arith) (walk_cut ps h))

summed_over : (texts : Contents) (top : Paths) → Agrees texts top → AreFitting top → (ps : Paths) (x : ℕ) (xs : List ℕ) → IsBelow top ps → 2 ≤ length ps → CanWalk ps → is_summed texts (top_over (x ∷ xs) (cut ps)) ≡ true
unfolding is_summed
summed_over texts top agrees fits ps x xs b many h =
    let hash = digest (node_text (branch_of (cut ps))) in
    let o = known texts hash in
    let usage = usage_of (branch_of (cut ps)) in
    let one = one_known o (branch_of (cut ps)) (known_branch texts top agrees fits ps b many h) in
    let none : IsTallied (sum_known texts []) (are_known texts []) 0 = record { most = omega arith; exact = λ w. refl } in
    let t = joined (known_usage o) (sum_known texts []) (sum_known texts (hash ∷ [])) (is_some o) (are_known texts []) usage 0 usage one none (sum_by-cons (λ (y : Hash32). known_usage (known texts y)) hash []) (omega arith) in
    sum_passes (usage_of (top_over (x ∷ xs) (cut ps))) (own_usage (top_over (x ∷ xs) (cut ps))) (sum_known texts (hash ∷ [])) usage (are_known texts (hash ∷ [])) refl t

summed_leaf : (texts : Contents) (p : Path) → is_summed texts (leaf p) ≡ true
unfolding is_summed
summed_leaf texts p = sum_passes (usage_of (leaf p)) (own_usage (leaf p)) (sum_known texts []) 0 (are_known texts []) (omega arith) (record { most = omega arith; exact = λ w. refl })

joined_held : (held : Option (List ℕ)) (top : Node) → IsNode top → Fits top → is_branch top ≡ true → ((text : List ℕ) → held ≡ Some text → text ≡ node_text top) → is_branch_held held ≡ true
joined_held None top is fits e own = refl
joined_held (Some text) top is fits e own = ap is_branch_read (ap node_at (own text refl) ∙ node_again top is fits) ∙ e

joined_over : (texts : Contents) (top : Paths) → Agrees texts top → AreFitting top → (ps : Paths) → IsBelow top ps → 2 ≤ length ps → CanWalk ps → is_branch_held (get texts (digest (node_text (branch_of (cut ps)))).0) ≡ true
joined_over texts top agrees fits ps b many h =
    let long = many_cut ps many in
    let below = Behind ps b many in
    let parted = top_parted (cut ps) long (front_cut ps (omega arith)) in
    subst (λ (n : Node). is_branch_held (get texts (digest (node_text n)).0) ≡ true) parted
    (joined_held (get texts (digest (node_text (top_of (cut ps)))).0) (top_of (cut ps)) (top_node (cut ps) (omega arith) (walk_cut ps h)) (fits (cut ps) below (omega arith)) (ap is_branch parted) (agrees.nodes (cut ps) below (omega arith)))

-- ---- keys
abbrev AllEnd : List ℕ → Paths → Type 0
AllEnd place ps = AllByRecursion (λ (p : Path). is_end (length place + length p.0) ≡ true) ps

ended_value : (place : List ℕ) (ps : Paths) (value : Option (List ℕ)) (hashes : List (Option Hash32)) (usage : ℕ) → AllEnd place ps → value_here ps ≡ value → is_ended place (ending_of (Branch (value_field value) hashes usage)) ≡ true
ended_value place ps None hashes usage a e = refl
ended_value place [] (Some v) hashes usage a e = absurd cc
ended_value place (([], w) ∷ ps) (Some v) hashes usage a e = a.0
ended_value place ((x ∷ k, w) ∷ ps) (Some v) hashes usage a e = ended_value place ps (Some v) hashes usage a.1 e

three : (a b c : Bool) → a ≡ true → b ≡ true → c ≡ true → (a && b && c) ≡ true
three a b c e f g = ap (λ x. x && b && c) e ∙ ap (λ x. x && c) f ∙ g

right_several : (texts : Contents) (top : Paths) → Agrees texts top → AreFitting top → (place : List ℕ) (ps : Paths) (shared : List ℕ) → IsBelow top ps → 2 ≤ length ps → CanWalk ps → AllEnd place ps → front ps ≡ shared
    → is_right texts place (top_of ps) ≡ true
right_several texts top agrees fits place ps [] b many h a e =
    ap (is_right texts place) (top_parted ps many e)
    ∙ three (is_ended place (ending_of (branch_of ps))) true (is_summed texts (branch_of ps)) (ended_value place ps (value_here ps) (map hash_below (children ps)) (usage_of (branch_of ps)) a refl) refl (summed_branch texts top agrees fits ps b many e h)
right_several texts top agrees fits place ps (x ∷ xs) b many h a e =
    let node = top_over (x ∷ xs) (cut ps) in
    ap (is_right texts place) (top_shared ps x xs many e)
    ∙ three true (is_joined texts node) (is_summed texts node) refl (joined_over texts top agrees fits ps b many h) (summed_over texts top agrees fits ps x xs b many h)

pub right_top : (texts : Contents) (top : Paths) → Agrees texts top → AreFitting top → (place : List ℕ) (ps : Paths) → IsBelow top ps → 1 ≤ length ps → CanWalk ps → AllEnd place ps → is_right texts place (top_of ps) ≡ true
right_top texts top agrees fits place [] b some h a = absurd (omega arith)
right_top texts top agrees fits place (p ∷ []) b some h a =
    ap (is_right texts place) (top_leaf p)
    ∙ three (is_ended place (ending_of (leaf p))) true (is_summed texts (leaf p)) (ap (λ (k : List ℕ). is_end (length place + length k)) (part_back true p.0 h.small.0) ∙ a.0) refl (summed_leaf texts p)
right_top texts top agrees fits place (p ∷ q ∷ ps) b some h a = right_several texts top agrees fits place (p ∷ q ∷ ps) (front (p ∷ q ∷ ps)) b (omega arith) h a refl

-- ---- a node whose text is held is looked at without a fault
passed_text : (texts : Contents) (place : List ℕ) (top : Node) (held : Option (List ℕ)) → held ≡ Some (node_text top) → IsNode top → Fits top → is_right texts place top ≡ true
    → (do
      node ← (do
        text ← text_or_missing (digest (node_text top)) held
        node_or_bad (digest (node_text top)) (node_at text))
      cond (is_right texts place node) (Ok node) (Err (BadText (digest (node_text top))))) ≡ Ok top
passed_text texts place top held e is fits right =
    let hash = digest (node_text top) in
    let after : Result Node NodeFault → Result Node WalkFault = λ r. (do
      node ← node_or_bad hash r
      cond (is_right texts place node) (Ok node) (Err (BadText hash))) in
    let first : Option (List ℕ) → Result Node WalkFault = λ o. (do
      node ← (do
        text ← text_or_missing hash o
        node_or_bad hash (node_at text))
      cond (is_right texts place node) (Ok node) (Err (BadText hash))) in
    ap first e ∙ ap after (node_again top is fits) ∙ ap (λ b. cond b (Ok top) (Err (BadText hash))) right

pub looked_passes : (texts : Contents) (top : Paths) → Agrees texts top → AreFitting top → (place : List ℕ) (ps : Paths) → IsBelow top ps → 1 ≤ length ps → CanWalk ps → AllEnd place ps
    → get texts (digest (node_text (top_of ps))).0 ≡ Some (node_text (top_of ps)) → looked_at texts (spot place (digest (node_text (top_of ps)))) ≡ Ok (top_of ps)
unfolding looked_at text_at
looked_passes texts top agrees fits place ps b some h a held =
    passed_text texts place (top_of ps) (get texts (digest (node_text (top_of ps))).0) held (top_node ps some h) (fits ps b some) (right_top texts top agrees fits place ps b some h a)

-- ---- from the keys of a map
all_at : (P : List ℕ → Type 0) (place : List ℕ) (ps : Paths) → AllByRecursion (λ (p : Path). P p.0) ps → AllByRecursion (λ (p : Path). P (place ++ p.0)) (behind_all place ps)
all_at P [] ps h = h
all_at P (x ∷ place) ps h = all_at (λ k. P (x ∷ k)) place (under x ps) (all_under x P (λ k. P (x ∷ k)) (λ k g. g) ps h)

key_ends : (k : List ℕ) → length k ≤ 70000000 → is_end (length (nibbles k)) ≡ true
key_ends k h =
    let n = length-nibbles k in
    let first : nat_le (length (nibbles k)) 140000000 ≡ true = le-leb (length (nibbles k)) 140000000 (omega arith) in
    let second : (length (nibbles k) % 2 == 0) ≡ true = eq-eqb (length (nibbles k) % 2) 0 (omega arith) in
    ap (λ b. b && (length (nibbles k) % 2 == 0)) first ∙ second

keys_end : (es : List (List ℕ × List ℕ)) → AllByRecursion (λ (e : List ℕ × List ℕ). IsSizedEntry e.0 e.1) es → AllByRecursion (λ (p : Path). is_end (length p.0) ≡ true) (paths es)
keys_end [] h = tt
keys_end (e ∷ es) h = (key_ends e.0 h.0.0, keys_end es h.1)

sums_end : (place : List ℕ) (ps : Paths) → AllByRecursion (λ (p : Path). is_end (length (place ++ p.0)) ≡ true) ps → AllEnd place ps
sums_end place [] h = tt
sums_end place (p ∷ ps) h = (ap is_end (sym (length-append place p.0)) ∙ h.0, sums_end place ps h.1)

pub below_order : (top ps : Paths) → CanWalk top → IsBelow top ps → CanWalk ps
below_order top ps h Top = h
below_order top ps h (Behind qs b many) = walk_cut qs (below_order top qs h b)
below_order top ps h (Under qs n b many e lt) = walk_under n qs (below_order top qs h b)

pub passes : (texts : Contents) (root : Hash32) (m : Contents) (place : List ℕ) (ps : Paths) → IsOf texts root m → IsBelow (paths (entries m)) ps → 1 ≤ length ps → behind_all place (paths (entries m)) ≡ ps
    → get texts (digest (node_text (top_of ps))).0 ≡ Some (node_text (top_of ps)) → looked_at texts (spot place (digest (node_text (top_of ps)))) ≡ Ok (top_of ps)
passes texts root m place ps is b some exact held =
    let top = paths (entries m) in
    let order : CanWalk top = walk_whole m top refl (all_nibbles (entries m) is.bytes) in
    let ends : AllByRecursion (λ (p : Path). is_end (length (place ++ p.0)) ≡ true) ps =
    subst (λ (qs : Paths). AllByRecursion (λ (p : Path). is_end (length (place ++ p.0)) ≡ true) qs) exact (all_at (λ k. is_end (length k) ≡ true) place top (keys_end (entries m) is.sizes)) in
    looked_passes texts top is.agrees (fitting (entries m) order is.sizes is.few) place ps b some (below_order top ps order b) (sums_end place ps ends) held
