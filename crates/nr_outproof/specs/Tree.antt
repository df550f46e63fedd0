-- The tree over some items: each text that is hashed, and the way from an item to the top. This project's own; SHA-256
-- is that of FIPS 180-4.
use Rattle.std.specs.Prelude.{◌≡◌, ℕ, zero, suc, ◌-◌, ◌^◌, List, [], ◌∷◌, ◌++◌, length, take, drop, map, cond, nat_le}
use Rattle.std.specs.Prelude.{nat_lt, replicate, ◌⊎◌}
use Rattle.std.specs.Bool.{MatchBool}
use Rattle.sha2.specs.Sha256.{sha256}
use Rattle.nr_ids.specs.declared.key.Hash32.{Hash32}
use Rattle.nr_outproof.specs.declared.levels.Side.{Side}
use Rattle.nr_outproof.specs.declared.levels.Side.TheVariants.{Left, Right}

-- ---- texts and their hashes
abbrev pub digest : List ℕ → Hash32
digest text = record { 0 = sha256 text }

abbrev pub leaf_text : List ℕ → List ℕ
leaf_text item = 0 ∷ item

abbrev pub pair_text : Hash32 → Hash32 → List ℕ
pair_text left right = 1 ∷ (left.0 ++ right.0)

abbrev pub leaf_top : List ℕ → Hash32
leaf_top item = digest (leaf_text item)

abbrev pub pair_top : Hash32 → Hash32 → Hash32
pair_top left right = digest (pair_text left right)

-- the top of no item
abbrev pub no_top : Hash32
no_top = record { 0 = replicate 32 0 }

-- ---- the top of some tops
-- Of at most 2 ^ h: the first half has 2 ^ (h - 1), where there are more than these.
unfoldable pub top_at : ℕ → List Hash32 → Hash32
top_at zero [] = no_top
top_at zero (t ∷ ts) = t
top_at (suc h) ts =
    cond (nat_le (length ts) (2 ^ h)) (top_at h ts)
    (pair_top (top_at h (take (2 ^ h) ts)) (top_at h (drop (2 ^ h) ts)))

-- Of any number: n is at most 2 ^ n.
abbrev pub top_of : List Hash32 → Hash32
top_of ts = top_at (length ts) ts

abbrev pub leaf_tops : List (List ℕ) → List Hash32
leaf_tops items = map leaf_top items

-- ---- the way of a place among n, from the leaf upward: on which side of a pair it goes on
unfoldable pub way_at : ℕ → ℕ → ℕ → List Side
way_at zero n p = []
way_at (suc h) n p =
    cond (nat_le n (2 ^ h)) (way_at h n p) (cond (nat_lt p (2 ^ h)) (way_at h (2 ^ h) p ++ Left ∷ [])
    (way_at h (n - 2 ^ h) (p - 2 ^ h) ++ Right ∷ []))

abbrev pub way_of : ℕ → ℕ → List Side
way_of n p = way_at n n p

-- the tops beside that way
unfoldable pub path_at : ℕ → List Hash32 → ℕ → List Hash32
path_at zero ts p = []
path_at (suc h) ts p =
    cond (nat_le (length ts) (2 ^ h)) (path_at h ts p)
    (cond (nat_lt p (2 ^ h)) (path_at h (take (2 ^ h) ts) p ++ top_at h (drop (2 ^ h) ts) ∷ [])
    (path_at h (drop (2 ^ h) ts) (p - 2 ^ h) ++ top_at h (take (2 ^ h) ts) ∷ []))

abbrev pub path_of : List Hash32 → ℕ → List Hash32
path_of ts p = path_at (length ts) ts p

-- ---- hashing up a way
abbrev pub joined_text : Side → Hash32 → Hash32 → List ℕ
joined_text Left top beside = pair_text top beside
joined_text Right top beside = pair_text beside top

abbrev pub joined : Side → Hash32 → Hash32 → Hash32
joined side top beside = digest (joined_text side top beside)

unfoldable pub climb : List Side → Hash32 → List Hash32 → Hash32
climb [] top path = top
climb (side ∷ sides) top [] = top
climb (side ∷ sides) top (beside ∷ path) = climb sides (joined side top beside) path

-- ---- which texts are hashed
-- on the way up from a top
unfoldable pub IsOnWay : List Side → Hash32 → List Hash32 → List ℕ → Type 0
IsOnWay [] top path text = ⊥
IsOnWay (side ∷ sides) top [] text = ⊥
IsOnWay (side ∷ sides) top (beside ∷ path) text =
    (text ≡ joined_text side top beside) ⊎ IsOnWay sides (joined side top beside) path text

-- above the tops of a tree
unfoldable pub IsInside : ℕ → List Hash32 → List ℕ → Type 0
IsInside zero ts text = ⊥
IsInside (suc h) ts text = MatchBool (nat_le (length ts) (2 ^ h)) (IsInside h ts text)
    ((text ≡ pair_text (top_at h (take (2 ^ h) ts)) (top_at h (drop (2 ^ h) ts)))
    ⊎ (IsInside h (take (2 ^ h) ts) text ⊎ IsInside h (drop (2 ^ h) ts) text))
