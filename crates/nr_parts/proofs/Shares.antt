-- Where offsets lie: below the usage of what they are of, and outside of a part whose offsets they don't meet.
use Rattle.std.proofs.Common.{◌≡◌, ◌<◌, ◌≤◌, ◌+◌, ◌-◌, ◌*◌, ◌/◌, ℕ, true, false, cond, List, [], ◌∷◌, ◌++◌, Some, None, refl, ap, subst, ◌∙◌, inl, inr, arith, eq-eqb}
use Rattle.std.specs.Prelude.{max, min}
use Rattle.std.specs.List.{flat_map}
use Rattle.std.proofs.lemmas.Bool.{cases_lt, lt-ltb, ltb-true, eqb-true}
use Rattle.std.proofs.lemmas.Nat.{le-div, mul-le}
use Rattle.std.proofs.Math.Nat.{div-mul-le_self}
use Rattle.std.proofs.lemmas.List.Concat.{flat_map-append}
use Rattle.nr_triedef.specs.Node.{usage_of}
use Rattle.nr_triedef.specs.declared.node.Node.{Node}
use Rattle.nr_triedef.specs.declared.node.Node.TheVariants.{Leaf, Extension, Branch}
use Rattle.nr_columns.specs.declared.entry.Entry.{Entry}
use Rattle.nr_walk.specs.Told.{own_usage}
use Rattle.nr_trielist.specs.Forest.{Stood, Forest, bare, tree}
use Rattle.nr_parts.specs.Offsets.{tops_usage, owned, placed, has, entry_list, entry_in, entries_in, ceiling, first_offset, end_offset, meets, Meets}
use Rattle.nr_parts.specs.declared.share.Share.{Share}
use Rattle.nr_parts.proofs.Grown.{IsGrown}

-- ---- the part's offsets
-- the quotient is this number only between two products
at_least : (a b k : ℕ) → 0 < b → a / b ≡ k → k * b ≤ a
at_least a b k some is = subst (λ n. n * b ≤ a) is (div-mul-le_self a b)

below : (a b k : ℕ) → 0 < b → a / b ≡ k → a < (k + 1) * b
below a b k some is =
    elim (cases_lt a ((k + 1) * b)) [
      | inl lt ↦ lt
      | inr le ↦ let more : k + 1 ≤ a / b = le-div (k + 1) a b some le in absurd (omega (arith, more, is))
    ]

ceiling_le : (a c o : ℕ) → 0 < c → a ≤ o * c → ceiling a c ≤ o
ceiling_le a c o some le =
    elim (cases_lt o (ceiling a c)) [
      | inl lt ↦ let times : (o + 1) * c ≤ a + (c - 1) = omega (arith, div-mul-le_self (a + (c - 1)) c, mul_more (o + 1) (ceiling a c) c (omega arith)) in absurd (omega arith)
      | inr le ↦ le
    ]
  where
    mul_more : (m n c : ℕ) → m ≤ n → m * c ≤ n * c
    mul_more m n c le = mul-le m c n c le (omega arith)

lt_ceiling : (a c o : ℕ) → 0 < c → o * c < a → o < ceiling a c
lt_ceiling a c o some lt = let more : o + 1 ≤ ceiling a c = le-div (o + 1) (a + (c - 1)) c some (omega arith) in omega arith

-- an offset of the part is met
pub met : (share : Share) (at usage o : ℕ) → 0 < share.whole → 0 < share.count → at ≤ o → o < at + usage → has share o ≡ true → meets share at usage ≡ true
met share at usage o some count low high is =
    let quotient : o * share.count / share.whole ≡ share.number = eqb-true (o * share.count / share.whole) share.number is in
    let first : first_offset share ≤ o = ceiling_le (share.number * share.whole) share.count o count (at_least (o * share.count) share.whole share.number some quotient) in
    let end : o < end_offset share = lt_ceiling ((share.number + 1) * share.whole) share.count o count (below (o * share.count) share.whole share.number some quotient) in
    lt-ltb (max at (first_offset share)) (min (at + usage) (end_offset share)) (omega arith)

-- and where offsets meet the part's, the later of both first ones is one of both
above_ceiling : (a c : ℕ) → 0 < c → a ≤ ceiling a c * c
above_ceiling a c some = omega (arith, below (a + (c - 1)) c (ceiling a c) some refl)

least_at : (a c o : ℕ) → 0 < c → ceiling a c ≤ o → a ≤ o * c
least_at a c o some le = omega (arith, above_ceiling a c some, mul-le (ceiling a c) c o c le (omega arith))

below_at : (a c o : ℕ) → 0 < c → o < ceiling a c → o * c < a
below_at a c o some lt =
    elim (cases_lt (o * c) a) [
      | inl less ↦ less
      | inr more ↦ let le : ceiling a c ≤ o = ceiling_le a c o some more in absurd (omega arith)
    ]

quotient_is : (a b k : ℕ) → 0 < b → k * b ≤ a → a < (k + 1) * b → a / b ≡ k
quotient_is a b k some low high =
    let least : k ≤ a / b = le-div k a b some low in
    elim (cases_lt (a / b) (k + 1)) [
      | inl lt ↦ omega (arith, least, lt)
      | inr more ↦ absurd (omega (arith, div-mul-le_self a b, mul-le (k + 1) b (a / b) b more (omega arith), high))
    ]

pub meeting : (share : Share) (at usage : ℕ) → 0 < share.whole → 0 < share.count → meets share at usage ≡ true → Meets share at usage
meeting share at usage some count is =
    let lt : max at (first_offset share) < min (at + usage) (end_offset share) = ltb-true (max at (first_offset share)) (min (at + usage) (end_offset share)) is in
    let first : first_offset share ≤ max at (first_offset share) = omega arith in
    let end : max at (first_offset share) < end_offset share = omega (arith, lt) in
    let low : share.number * share.whole ≤ max at (first_offset share) * share.count = least_at (share.number * share.whole) share.count (max at (first_offset share)) count first in
    let high : max at (first_offset share) * share.count < (share.number + 1) * share.whole = below_at ((share.number + 1) * share.whole) share.count (max at (first_offset share)) count end in
    let here : max at (first_offset share) * share.count / share.whole ≡ share.number = quotient_is (max at (first_offset share) * share.count) share.whole share.number some low high in
    (max at (first_offset share), omega arith, omega (arith, lt), eq-eqb (max at (first_offset share) * share.count / share.whole) share.number here)

pub unmet : (share : Share) (at usage o : ℕ) → 0 < share.whole → 0 < share.count → meets share at usage ≡ false → at ≤ o → o < at + usage → has share o ≡ false
unmet share at usage o some count not low high =
    elim (has share o) as (λ b. has share o ≡ b → b ≡ false) [
      | true ↦ λ is. let meet : meets share at usage ≡ true = met share at usage o some count low high is in absurd cc
      | false ↦ λ is. refl
    ] refl

-- ---- offsets of nodes
abbrev pub total : List (ℕ × Stood) → ℕ
total [] = 0
total (one ∷ others) = one.0 + total others

total_append : (xs ys : List (ℕ × Stood)) → total (xs ++ ys) ≡ total xs + total ys
total_append [] ys = omega arith
total_append (x ∷ xs) ys = omega (arith, total_append xs ys)

placed_append : (at : ℕ) (xs ys : List (ℕ × Stood)) → placed at (xs ++ ys) ≡ placed at xs ++ placed (at + total xs) ys
placed_append at [] ys = ap (λ n. placed n ys) (omega arith)
placed_append at (x ∷ xs) ys = ap (λ (others : List (ℕ × Stood)). (at, x.1) ∷ others) (placed_append (at + x.0) xs ys ∙ ap (λ n. placed (at + x.0) xs ++ placed n ys) (omega arith))

pub total_grown : (g : Forest) → IsGrown g → total (owned g) ≡ tops_usage g
total_grown bare h = refl
total_grown (tree top below beside) h = omega (arith, total_append (owned below) (owned beside), total_grown below h.1, total_grown beside h.2, h.0.usage)

-- the entries of a node, of those below it and of those beside it
pub entries_tree : (share : Share) (at : ℕ) (top : Stood) (below beside : Forest) → IsGrown (tree top below beside) → entries_in share at (tree top below beside) ≡ entry_in share (at, top) ++ (entries_in share (at + own_usage top.node) below ++ entries_in share (at + usage_of top.node) beside)
entries_tree share at top below beside h =
    let own : usage_of top.node - tops_usage below ≡ own_usage top.node = omega (arith, h.0.usage) in
    let end : (at + own_usage top.node) + total (owned below) ≡ at + usage_of top.node = omega (arith, h.0.usage, total_grown below h.1) in
    let next : placed (at + (usage_of top.node - tops_usage below)) (owned below ++ owned beside) ≡ placed (at + own_usage top.node) (owned below) ++ placed (at + usage_of top.node) (owned beside) =
    ap (λ n. placed (at + n) (owned below ++ owned beside)) own ∙ placed_append (at + own_usage top.node) (owned below) (owned beside) ∙ ap (λ n. placed (at + own_usage top.node) (owned below) ++ placed n (owned beside)) end in
    ap (λ (others : List (ℕ × Stood)). entry_in share (at, top) ++ flat_map (entry_in share) others) next
    ∙ ap (λ (others : List Entry). entry_in share (at, top) ++ others) (flat_map-append (entry_in share) (placed (at + own_usage top.node) (owned below)) (placed (at + usage_of top.node) (owned beside)))

pub some_own : (node : Node) → 0 < own_usage node
some_own (Leaf part size hash usage) = omega arith
some_own (Extension part child usage) = omega arith
some_own (Branch None children usage) = omega arith
some_own (Branch (Some value) children usage) = omega arith

none_here : (share : Share) (at : ℕ) (top : Stood) → has share at ≡ false → entry_in share (at, top) ≡ []
none_here share at top is = ap (λ b. cond b (entry_list top.entry) []) is

-- where no offset of theirs is the part's, they have none of its entries
pub entries_outside : (share : Share) (at : ℕ) (g : Forest) → IsGrown g → ((o : ℕ) → at ≤ o → o < at + tops_usage g → has share o ≡ false) → entries_in share at g ≡ []
entries_outside share at bare h none = refl
entries_outside share at (tree top below beside) h none =
    let here : entry_in share (at, top) ≡ [] = none_here share at top (none at (omega arith) (omega (arith, h.0.usage, some_own top.node))) in
    let under : entries_in share (at + own_usage top.node) below ≡ [] = entries_outside share (at + own_usage top.node) below h.1 (λ o low high. none o (omega arith) (omega (arith, h.0.usage))) in
    let other : entries_in share (at + usage_of top.node) beside ≡ [] = entries_outside share (at + usage_of top.node) beside h.2 (λ o low high. none o (omega arith) (omega (arith))) in
    entries_tree share at top below beside h ∙ (λ i. here i ++ (under i ++ other i))
