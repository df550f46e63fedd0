-- Paths in order are those under each nibble, one nibble after the other, behind the value that ends here.
use Rattle.std.proofs.Common.{◌≡◌, ◌==◌, ◌<◌, ◌≤◌, ◌+◌, ℕ, zero, suc, true, false, cond, List, [], ◌∷◌, ◌++◌, Option, Some, None, refl, sym, ap, subst, ◌∙◌, arith, inl, inr}
use Rattle.std.specs.List.{AllByRecursion}
use Rattle.std.proofs.lemmas.Bool.{eqb-true, eqb-false}
use Rattle.nr_triedef.specs.Node.{IsNibbles}
use Rattle.nr_triedef.specs.Root.{Paths, value_here, under}
use Rattle.nr_store.specs.Tries.{Before, Rise, CanWalk}
use Rattle.nr_walk.specs.Shown.{placed}

abbrev pub Path : Type 0
Path = List ℕ × List ℕ

-- those under n and the c - 1 nibbles after it
abbrev pub rows : ℕ → ℕ → Paths → Paths
rows n zero ps = []
rows n (suc c) ps = placed (n ∷ []) (under n ps) ++ rows (suc n) c ps

-- the key goes on, with a nibble from n on and below m
abbrev Goes : ℕ → ℕ → List ℕ → Type 0
Goes n m [] = ⊥
Goes n m (x ∷ key) = (n ≤ x) × (x < m)

abbrev AllGo : ℕ → ℕ → Paths → Type 0
AllGo n m ps = AllByRecursion (λ (p : Path). Goes n m p.0) ps

none_rows : (n c : ℕ) → rows n c [] ≡ []
none_rows n zero = refl
none_rows n (suc c) = none_rows (suc n) c

none_go : (n : ℕ) (ps : Paths) → AllGo n n ps → ps ≡ []
none_go n [] h = refl
none_go n (([], v) ∷ ps) h = absurd h.0
none_go n ((x ∷ k, v) ∷ ps) h = absurd (omega (arith, h.0.0, h.0.1))

-- a path before n stands under no later nibble
passed : (n c x : ℕ) (k v : List ℕ) (ps : Paths) → x < n → rows n c ((x ∷ k, v) ∷ ps) ≡ rows n c ps
passed n zero x k v ps lt = refl
passed n (suc c) x k v ps lt =
    let apart : (x == n) ≡ false = elim (x == n) as (λ b. (x == n) ≡ b → b ≡ false) [ true ↦ λ e. absurd (omega (arith, eqb-true x n e)) | false ↦ λ e. refl ] refl in
    ap (λ b. placed (n ∷ []) (cond b ((k, v) ∷ under n ps) (under n ps)) ++ rows (suc n) c ((x ∷ k, v) ∷ ps)) apart
    ∙ ap (λ (qs : Paths). placed (n ∷ []) (under n ps) ++ qs) (passed (suc n) c x k v ps (omega arith))

none_under : (n m : ℕ) (ps : Paths) → AllGo (suc n) m ps → under n ps ≡ []
none_under n m [] h = refl
none_under n m (([], v) ∷ ps) h = absurd h.0
none_under n m ((x ∷ k, v) ∷ ps) h =
    elim (x == n) as (λ b. (x == n) ≡ b → cond b ((k, v) ∷ under n ps) (under n ps) ≡ []) [
      | true ↦ λ e. absurd (omega (arith, eqb-true x n e, h.0.0))
      | false ↦ λ e. none_under n m ps h.1
    ] refl

-- behind a key that goes on with x, each goes on with x at least
go_on : (x m : ℕ) (k : List ℕ) (n : ℕ) (ps : Paths) → AllByRecursion (λ (q : Path). Before (x ∷ k) q.0) ps → AllGo n m ps → AllGo x m ps
go_on x m k n [] b h = tt
go_on x m k n (([], v) ∷ ps) b h = absurd h.0
go_on x m k n ((y ∷ j, v) ∷ ps) b h = ((elim b.0 [ inl lt ↦ omega arith | inr e ↦ omega (arith, e.0) ], h.0.1), go_on x m k n ps b.1 h.1)

weaker : (n k m : ℕ) (ps : Paths) → k ≤ n → AllGo n m ps → AllGo k m ps
weaker n k m [] le h = tt
weaker n k m (([], v) ∷ ps) le h = absurd h.0
weaker n k m ((x ∷ j, v) ∷ ps) le h = ((omega (arith, h.0.0), h.0.1), weaker n k m ps le h.1)

abbrev HoldsFrom : ℕ → ℕ → Type 0
HoldsFrom n c = (ps : Paths) → AllGo n (n + c) ps → Rise ps → rows n c ps ≡ ps

bounded : (n a b : ℕ) (ps : Paths) → a ≡ b → AllGo n a ps → AllGo n b ps
bounded n a b ps e h = subst (λ (m : ℕ). AllGo n m ps) e h

inner : (c n : ℕ) → HoldsFrom (suc n) c → HoldsFrom n (suc c)
inner c n next [] h r = none_rows n (suc c)
inner c n next (([], v) ∷ ps) h r = absurd h.0
inner c n next ((x ∷ k, v) ∷ ps) h r =
    elim (x == n) as (λ b. (x == n) ≡ b → placed (n ∷ []) (cond b ((k, v) ∷ under n ps) (under n ps)) ++ rows (suc n) c ((x ∷ k, v) ∷ ps) ≡ (x ∷ k, v) ∷ ps) [
      | true ↦ λ e.
          let same : x ≡ n = eqb-true x n e in
          let more : rows n (suc c) ps ≡ ps = inner c n next ps h.1 r.1 in
          ap (λ (qs : Paths). (n ∷ k, v) ∷ (placed (n ∷ []) (under n ps) ++ qs)) (passed (suc n) c x k v ps (omega arith))
          ∙ ap (λ (qs : Paths). (n ∷ k, v) ∷ qs) more ∙ ap (λ (y : ℕ). (y ∷ k, v) ∷ ps) (sym same)
      | false ↦ λ e.
          let lt : suc n ≤ x = omega (arith, eqb-false x n e, h.0.0) in
          let sum : n + suc c ≡ suc n + c = omega arith in
          let behind : AllGo (suc n) (n + suc c) ps = weaker x (suc n) (n + suc c) ps lt (go_on x (n + suc c) k n ps r.0 h.1) in
          let all : AllGo (suc n) (suc n + c) ((x ∷ k, v) ∷ ps) = ((lt, omega (arith, h.0.1)), bounded (suc n) (n + suc c) (suc n + c) ps sum behind) in
          ap (λ (qs : Paths). placed (n ∷ []) qs ++ rows (suc n) c ((x ∷ k, v) ∷ ps)) (none_under n (n + suc c) ps behind) ∙ next ((x ∷ k, v) ∷ ps) all r
    ] refl

outer : (c n : ℕ) → HoldsFrom n c
outer zero n ps h r = sym (none_go n ps (bounded n (n + 0) n ps (omega arith) h))
outer (suc c) n ps h r = inner c n (outer c (suc n)) ps h r

-- ---- with the value that ends here
abbrev pub own_value : Option (List ℕ) → Paths
own_value None = []
own_value (Some value) = ([], value) ∷ []

skips_here : (n c : ℕ) (v : List ℕ) (ps : Paths) → rows n c (([], v) ∷ ps) ≡ rows n c ps
skips_here n zero v ps = refl
skips_here n (suc c) v ps = ap (λ (qs : Paths). placed (n ∷ []) (under n ps) ++ qs) (skips_here (suc n) c v ps)

all_go : (k : List ℕ) (ps : Paths) → AllByRecursion (λ (q : Path). Before k q.0) ps → AllByRecursion (λ (q : Path). IsNibbles q.0) ps → AllGo 0 16 ps
all_go k [] b s = tt
all_go [] (([], v) ∷ ps) b s = absurd b.0
all_go (x ∷ k) (([], v) ∷ ps) b s = absurd b.0
all_go k ((y ∷ j, v) ∷ ps) b s = ((omega arith, s.0 0), all_go k ps b.1 s.1)

no_value : (n m : ℕ) (ps : Paths) → AllGo n m ps → value_here ps ≡ None
no_value n m [] h = refl
no_value n m (([], v) ∷ ps) h = absurd h.0
no_value n m ((x ∷ k, v) ∷ ps) h = no_value n m ps h.1

pub rows_all : (ps : Paths) → CanWalk ps → own_value (value_here ps) ++ rows 0 16 ps ≡ ps
rows_all [] h = none_rows 0 16
rows_all (([], v) ∷ ps) h =
    let goes = all_go [] ps h.order.0 h.small.1 in
    ap (λ (qs : Paths). ([], v) ∷ qs) (skips_here 0 16 v ps ∙ outer 16 0 ps goes h.order.1)
rows_all ((x ∷ k, v) ∷ ps) h =
    let behind = all_go (x ∷ k) ps h.order.0 h.small.1 in
    let all : AllGo 0 16 ((x ∷ k, v) ∷ ps) = ((omega arith, h.small.0 0), behind) in
    ap (λ (o : Option (List ℕ)). own_value o ++ rows 0 16 ((x ∷ k, v) ∷ ps)) (no_value 0 16 ps behind) ∙ outer 16 0 ((x ∷ k, v) ∷ ps) all h.order
