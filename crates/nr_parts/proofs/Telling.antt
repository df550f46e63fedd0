-- All entries of a trie's nodes, depth first, are those that it was made of.
use Rattle.std.proofs.Common.{◌≡◌, ◌==◌, ◌<◌, ◌≤◌, ◌+◌, ◌*◌, ◌/◌, ◌%◌, ℕ, zero, suc, true, false, cond, List, [], ◌∷◌, ◌++◌, length, drop, map, None, refl, ap, sym, subst, ◌∙◌, inl, inr, arith, append_assoc, append-nil, add-one, eq-eqb}
use Rattle.std.specs.List.{AllByRecursion, flat_map, range_with_len}
use Rattle.std.proofs.lemmas.Bool.{cases_lt, eqb-true, ne_eqb}
use Rattle.nr_walk.proofs.Placing.{joined_back}
use Rattle.nr_bytes.specs.Numbers.{IsBytes}
use Rattle.nr_triedef.specs.Node.{nibbles, IsNibbles, key_part}
use Rattle.nr_triedef.specs.Root.{Paths, front, behind, value_here, under, extension, sixteen, depth}
use Rattle.nr_triedef.specs.declared.hash.Summary.{Summary}
use Rattle.nr_store.specs.Tries.{Before, Rise, CanWalk, cut}
use Rattle.nr_store.proofs.Links.{AllBegin, front_begins, CanStand, stands_behind, stands_under}
use Rattle.nr_store.proofs.Orders.{walk_cut, walk_under}
use Rattle.nr_columns.specs.declared.entry.Entry.{Entry}
use Rattle.nr_trielist.specs.Forest.{Stood, Forest, bare, tree, stood, entry_here, fronted, rows, forest}
use Rattle.nr_walk.specs.Walking.{entry, packed}
use Rattle.nr_parts.specs.Offsets.{entry_list}
use Rattle.nr_parts.proofs.Sweeping.{entries_all, all_tree}

-- the entries of keys that all begin with the place, without it
abbrev pub told : List ℕ → Paths → List Entry
told place ps = map (λ p. entry (packed (place ++ p.0)) p.1) ps

-- ---- keys that go on with a nibble from n on, below n + k
abbrev GoesOn : ℕ → ℕ → List ℕ → Type 0
GoesOn n k [] = ⊥
GoesOn n k (x ∷ key) = (n ≤ x) × (x < n + k)

abbrev AllGoOn : ℕ → ℕ → Paths → Type 0
AllGoOn n k ps = AllByRecursion (λ (p : List ℕ × List ℕ). GoesOn n k p.0) ps

-- those that go on with another one
abbrev others : ℕ → Paths → Paths
others n [] = []
others n (([], v) ∷ ps) = others n ps
others n ((x ∷ key, v) ∷ ps) = cond (x == n) (others n ps) ((x ∷ key, v) ∷ others n ps)

all_others : (n : ℕ) (P : List ℕ × List ℕ → Type 0) (ps : Paths) → AllByRecursion P ps → AllByRecursion P (others n ps)
all_others n P [] h = tt
all_others n P (([], v) ∷ ps) h = all_others n P ps h.1
all_others n P ((x ∷ key, v) ∷ ps) h = elim (x == n) as (λ b. AllByRecursion P (cond b (others n ps) ((x ∷ key, v) ∷ others n ps))) [ true ↦ all_others n P ps h.1 | false ↦ (h.0, all_others n P ps h.1) ]

rise_others : (n : ℕ) (ps : Paths) → Rise ps → Rise (others n ps)
rise_others n [] h = tt
rise_others n (([], v) ∷ ps) h = rise_others n ps h.1
rise_others n ((x ∷ key, v) ∷ ps) h = elim (x == n) as (λ b. Rise (cond b (others n ps) ((x ∷ key, v) ∷ others n ps))) [ true ↦ rise_others n ps h.1 | false ↦ (all_others n (λ (q : List ℕ × List ℕ). Before (x ∷ key) q.0) ps h.0, rise_others n ps h.1) ]

go_others : (n k : ℕ) (ps : Paths) → AllGoOn n (suc k) ps → AllGoOn (n + 1) k (others n ps)
go_others n k [] h = tt
go_others n k (([], v) ∷ ps) h = absurd h.0
go_others n k ((x ∷ key, v) ∷ ps) h =
    elim (x == n) as (λ b. (x == n) ≡ b → AllGoOn (n + 1) k (cond b (others n ps) ((x ∷ key, v) ∷ others n ps))) [
      | true ↦ λ e. go_others n k ps h.1
      | false ↦ λ e. let apart : x ≡ n → ⊥ = λ is. let yes : (x == n) ≡ true = eq-eqb x n is in absurd cc in
          ((omega (arith, h.0.0, apart), omega (arith, h.0.1)), go_others n k ps h.1)
    ] refl

-- ---- behind a key that goes on with more than n, all do
later : (n x : ℕ) (key : List ℕ) (ps : Paths) → n < x → AllByRecursion (λ (q : List ℕ × List ℕ). Before (x ∷ key) q.0) ps → (under n ps ≡ []) × (others n ps ≡ ps)
later n x key [] lt h = (refl, refl)
later n x key (([], v) ∷ ps) lt h = absurd h.0
later n x key ((y ∷ other, v) ∷ ps) lt h =
    let above : n < y = elim h.0 [ inl less ↦ omega (arith, less) | inr same ↦ let is : x ≡ y = same.0 in omega arith ] in
    let not_it : (y == n) ≡ false = ne_eqb y n (λ e. omega arith) in
    let rest = later n x key ps lt h.1 in
    (ap (λ b. cond b ((other, v) ∷ under n ps) (under n ps)) not_it ∙ rest.0, ap (λ b. cond b (others n ps) ((y ∷ other, v) ∷ others n ps)) not_it ∙ ap (λ (l : Paths). (y ∷ other, v) ∷ l) rest.1)

-- the keys that go on with n come first
told_first : (here : List ℕ) (n k : ℕ) (ps : Paths) → Rise ps → AllGoOn n k ps → told here ps ≡ told (here ++ n ∷ []) (under n ps) ++ told here (others n ps)
told_first here n k [] rise h = refl
told_first here n k (([], v) ∷ ps) rise h = absurd h.0
told_first here n k ((x ∷ key, v) ∷ ps) rise h =
    elim (cases_lt n x) [
      | inl lt ↦
          let rest = later n x key ps lt rise.0 in
          let not_it : (x == n) ≡ false = ne_eqb x n (λ e. omega arith) in
          sym ((λ i. told (here ++ n ∷ []) (cond (not_it i) ((key, v) ∷ under n ps) (under n ps)) ++ told here (cond (not_it i) (others n ps) ((x ∷ key, v) ∷ others n ps)))
          ∙ (λ i. told (here ++ n ∷ []) (rest.0 i) ++ told here ((x ∷ key, v) ∷ rest.1 i)))
      | inr le ↦
          let same : x ≡ n = omega (arith, le, h.0.0) in
          let it : (x == n) ≡ true = eq-eqb x n same in
          let key_is : here ++ x ∷ key ≡ (here ++ n ∷ []) ++ key = ap (λ m. here ++ m ∷ key) same ∙ sym (append_assoc here (n ∷ []) key) in
          (λ i. entry (packed (key_is i)) v ∷ told_first here n k ps rise.1 h.1 i)
          ∙ sym (λ i. told (here ++ n ∷ []) (cond (it i) ((key, v) ∷ under n ps) (under n ps)) ++ told here (cond (it i) (others n ps) ((x ∷ key, v) ∷ others n ps)))
    ]

under_others : (n m : ℕ) (ps : Paths) → n < m → under m ps ≡ under m (others n ps)
under_others n m [] lt = refl
under_others n m (([], v) ∷ ps) lt = under_others n m ps lt
under_others n m ((x ∷ key, v) ∷ ps) lt =
    elim (x == n) as (λ b. (x == n) ≡ b → cond (x == m) ((key, v) ∷ under m ps) (under m ps) ≡ under m (cond b (others n ps) ((x ∷ key, v) ∷ others n ps))) [
      | true ↦ λ e. let same : x ≡ n = eqb-true x n e in ap (λ b. cond b ((key, v) ∷ under m ps) (under m ps)) (ne_eqb x m (λ is. omega (arith, same, is))) ∙ under_others n m ps lt
      | false ↦ λ e. ap (λ (l : Paths). cond (x == m) ((key, v) ∷ l) l) (under_others n m ps lt)
    ] refl

rows_others : (here : List ℕ) (n : ℕ) (ps : Paths) (k j : ℕ) → n < j → flat_map (λ m. told (here ++ m ∷ []) (under m ps)) (range_with_len j k) ≡ flat_map (λ m. told (here ++ m ∷ []) (under m (others n ps))) (range_with_len j k)
rows_others here n ps zero j lt = refl
rows_others here n ps (suc k) j lt = (λ i. told (here ++ j ∷ []) (under_others n j ps lt i) ++ rows_others here n ps k (j + 1) (omega (arith, lt)) i)

none_left : (n : ℕ) (ps : Paths) → AllGoOn n 0 ps → ps ≡ []
none_left n [] h = refl
none_left n (([], v) ∷ ps) h = absurd h.0
none_left n ((x ∷ key, v) ∷ ps) h = absurd (omega (arith, h.0.0, h.0.1))

-- all of them, by their next nibble
told_rows : (here : List ℕ) (k n : ℕ) (ps : Paths) → Rise ps → AllGoOn n k ps → told here ps ≡ flat_map (λ m. told (here ++ m ∷ []) (under m ps)) (range_with_len n k)
told_rows here zero n ps rise h = ap (told here) (none_left n ps h)
told_rows here (suc k) n ps rise h =
    told_first here n (suc k) ps rise h
    ∙ ap (λ (l : List Entry). told (here ++ n ∷ []) (under n ps) ++ l) (told_rows here k (n + 1) (others n ps) (rise_others n ps rise) (go_others n k ps h) ∙ sym (rows_others here n ps k (n + 1) (omega arith)))

-- ---- the value whose key ends here, and then the others
go_small : (ps : Paths) (key : List ℕ) → AllByRecursion (λ (q : List ℕ × List ℕ). Before key q.0) ps → AllByRecursion (λ (p : List ℕ × List ℕ). IsNibbles p.0) ps → AllGoOn 0 16 ps
go_small [] key h small = tt
go_small (([], v) ∷ ps) key h small = absurd (never key h.0)
  where
    never : (key : List ℕ) → Before key [] → ⊥
    never [] b = b
    never (x ∷ key) b = b
go_small ((x ∷ rest, v) ∷ ps) key h small = ((omega arith, omega (arith, small.0 0)), go_small ps key h.1 small.1)

none_here : (ps : Paths) → AllGoOn 0 16 ps → value_here ps ≡ None
none_here [] h = refl
none_here (([], v) ∷ ps) h = absurd h.0
none_here ((x ∷ key, v) ∷ ps) h = none_here ps h.1

pub told_split : (here : List ℕ) (ps : Paths) → CanWalk ps → told here ps ≡ entry_list (entry_here here (value_here ps)) ++ flat_map (λ m. told (here ++ m ∷ []) (under m ps)) sixteen
told_split here [] walk = refl
told_split here (([], v) ∷ ps) walk =
    (λ i. entry (packed (append-nil here i)) v ∷ told_rows here 16 0 ps walk.order.1 (go_small ps [] walk.order.0 walk.small.1) i)
told_split here ((x ∷ key, v) ∷ ps) walk =
    let rest = go_small ps (x ∷ key) walk.order.0 walk.small.1 in
    told_rows here 16 0 ((x ∷ key, v) ∷ ps) walk.order ((omega arith, omega (arith, walk.small.0 0)), rest)
    ∙ ap (λ o. entry_list (entry_here here o) ++ flat_map (λ m. told (here ++ m ∷ []) (under m ((x ∷ key, v) ∷ ps))) sixteen) (sym (none_here ps rest))

-- ---- behind the front
told_behind : (place shared : List ℕ) (ps : Paths) → AllBegin shared ps → told place ps ≡ told (place ++ shared) (behind (length shared) ps)
told_behind place shared [] h = refl
told_behind place shared (p ∷ ps) h =
    let key : place ++ p.0 ≡ (place ++ shared) ++ drop (length shared) p.0 = ap (λ (k : List ℕ). place ++ k) (sym (joined_back shared p.0 h.0)) ∙ sym (append_assoc place shared (drop (length shared) p.0)) in
    (λ i. entry (packed (key i)) p.1 ∷ told_behind place shared ps h.1 i)

all_fronted : (place shared : List ℕ) (s : Summary) (top : Stood) (children beside : Forest) → entries_all (fronted place shared s top children beside) ≡ (entry_list top.entry ++ entries_all children) ++ entries_all beside
all_fronted place [] s top children beside = all_tree top children beside ∙ sym (append_assoc (entry_list top.entry) (entries_all children) (entries_all beside))
all_fronted place (x ∷ xs) s top children beside =
    all_tree (stood place (extension (key_part (x ∷ xs) false) s) None) (tree top children bare) beside
    ∙ ap (λ (l : List Entry). l ++ entries_all beside) (all_tree top children bare ∙ ap (λ (l : List Entry). entry_list top.entry ++ l) (append-nil (entries_all children)))

all_rows : (f : ℕ → Forest → Forest) (g : ℕ → List Entry) → ((n : ℕ) (others : Forest) → entries_all (f n others) ≡ g n ++ entries_all others) → (ns : List ℕ) → entries_all (rows f ns) ≡ flat_map g ns
all_rows f g each [] = refl
all_rows f g each (n ∷ ns) = each n (rows f ns) ∙ ap (λ (l : List Entry). g n ++ l) (all_rows f g each ns)

pub all_forest : (depth : ℕ) (place : List ℕ) (ps : Paths) (beside : Forest) → CanStand depth ps → CanWalk ps → entries_all (forest depth place ps beside) ≡ told place ps ++ entries_all beside
unfolding forest
all_forest depth place [] beside stands walk = refl
all_forest depth place (p ∷ []) beside stands walk = refl
all_forest zero place (p ∷ q ∷ ps) beside stands walk = absurd (omega (arith, stands.short.0))
all_forest (suc depth) place (p ∷ q ∷ ps) beside stands walk =
    let all = p ∷ q ∷ ps in
    let here = place ++ front all in
    let rest = cut all in
    let stand : CanStand (depth + 1) all = subst (λ n. CanStand n all) (sym (add-one depth)) stands in
    let each : (n : ℕ) (others : Forest) → entries_all (forest depth (here ++ n ∷ []) (under n rest) others) ≡ told (here ++ n ∷ []) (under n rest) ++ entries_all others =
    λ n others. all_forest depth (here ++ n ∷ []) (under n rest) others (stands_under depth n rest (under n rest) refl (stands_behind (depth + 1) all rest (front all) refl refl stand)) (walk_under n rest (walk_cut all walk)) in
    all_fronted place (front all) _ _ _ beside
    ∙ ap (λ (l : List Entry). l ++ entries_all beside)
    (ap (λ (l : List Entry). entry_list (entry_here here (value_here rest)) ++ l) (all_rows (λ n others. forest depth (here ++ n ∷ []) (under n rest) others) (λ n. told (here ++ n ∷ []) (under n rest)) each sixteen)
    ∙ sym (told_split here rest (walk_cut all walk))
    ∙ sym (told_behind place (front all) all (front_begins all)))

-- ---- keys of bytes
pub packed_nibbles : (key : List ℕ) → IsBytes key → packed (nibbles key) ≡ key
packed_nibbles [] fits = refl
packed_nibbles (b ∷ key) fits =
    let byte : 16 * (b / 16 % 16) + b % 16 % 16 ≡ b = omega (arith, fits 0) in
    λ i. byte i ∷ packed_nibbles key (λ j. fits (suc j)) i
