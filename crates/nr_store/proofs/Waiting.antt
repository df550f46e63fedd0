-- Branches that wait for a child, and how much is left to do.
use Rattle.std.proofs.Common.{◌≡◌, ◌==◌, ◌<◌, ◌≤◌, ◌+◌, ◌-◌, ◌*◌, ℕ, suc, Bool, true, false, cond, List, [], ◌∷◌, ◌++◌, length, drop, Option, refl, ap, sym, subst, ◌∙◌, inl, inr, arith, length-drop, length-append, eq-eqb}
use mathlib.Core.Bool.{false≢true}
use Rattle.std.proofs.lemmas.Bool.{cases_lt, lt-ltb, le-ltb, ne_eqb}
use Rattle.nr_triedef.specs.declared.hash.Summary.{Summary}
use Rattle.nr_triedef.specs.Root.{Paths, front, behind, under}
use Rattle.nr_store.specs.Tries.{is_below, cut, Branching}

-- the keys are what the last branch waits for, whose keys are what the one before it waits for, up to all keys
abbrev pub Wait : List Branching → Paths → Paths → Type 0
Wait [] ps all = ps ≡ all
Wait (g ∷ gs) ps all = (length g.made < 16) × (ps ≡ under (length g.made) (cut g.keys)) × Wait gs g.keys all

-- ---- the nibbles of keys that aren't below n
abbrev pub left : ℕ → Paths → ℕ
left n [] = 0
left n (p ∷ ps) = cond (is_below n p.0) 0 (length p.0) + left n ps

-- the nibbles of all keys, and one for each key
abbrev pub total : Paths → ℕ
total [] = 0
total (p ∷ ps) = suc (length p.0) + total ps

left_under : (n : ℕ) (ps : Paths) → left n ps ≡ left (n + 1) ps + total (under n ps)
left_under n [] = refl
left_under n (([], v) ∷ ps) = let rest = left_under n ps in omega arith
left_under n ((x ∷ k, v) ∷ ps) =
    let rest = left_under n ps in
    elim (cases_lt x n) [
      | inl less ↦
          let a : cond (is_below n (x ∷ k)) 0 (suc (length k)) ≡ 0 = ap (λ b. cond b 0 (suc (length k))) (lt-ltb x n less) in
          let b : cond (is_below (n + 1) (x ∷ k)) 0 (suc (length k)) ≡ 0 = ap (λ b. cond b 0 (suc (length k))) (lt-ltb x (n + 1) (omega arith)) in
          let c : total (under n ((x ∷ k, v) ∷ ps)) ≡ total (under n ps) = ap (λ b. total (cond b ((k, v) ∷ under n ps) (under n ps))) (ne_eqb x n (λ e. omega arith)) in
          omega arith
      | inr more ↦ elim (cases_lt n x) [
        | inl above ↦
            let a : cond (is_below n (x ∷ k)) 0 (suc (length k)) ≡ suc (length k) = ap (λ b. cond b 0 (suc (length k))) (le-ltb x n more) in
            let b : cond (is_below (n + 1) (x ∷ k)) 0 (suc (length k)) ≡ suc (length k) = ap (λ b. cond b 0 (suc (length k))) (le-ltb x (n + 1) (omega arith)) in
            let c : total (under n ((x ∷ k, v) ∷ ps)) ≡ total (under n ps) = ap (λ b. total (cond b ((k, v) ∷ under n ps) (under n ps))) (ne_eqb x n (λ e. omega arith)) in
            omega arith
        | inr same ↦
            let a : cond (is_below n (x ∷ k)) 0 (suc (length k)) ≡ suc (length k) = ap (λ b. cond b 0 (suc (length k))) (le-ltb x n more) in
            let b : cond (is_below (n + 1) (x ∷ k)) 0 (suc (length k)) ≡ 0 = ap (λ b. cond b 0 (suc (length k))) (lt-ltb x (n + 1) (omega arith)) in
            let c : total (under n ((x ∷ k, v) ∷ ps)) ≡ suc (length k) + total (under n ps) = ap (λ b. total (cond b ((k, v) ∷ under n ps) (under n ps))) (eq-eqb x n (omega arith)) in
            omega arith
      ]
    ]

some_left : (b : Bool) (n : ℕ) → cond b 0 n ≤ n
some_left true n = omega arith
some_left false n = omega arith

left_behind : (k : ℕ) (ps : Paths) → left 0 (behind k ps) + length ps ≤ total ps
left_behind k [] = omega arith
left_behind k (p ∷ ps) = omega (arith, left_behind k ps, some_left (is_below 0 (drop k p.0)) (length (drop k p.0)), length-drop k p.0)

-- ---- what is left to do: 40 for each nibble, and one for each child
abbrev pub work : ℕ → ℕ → Paths → ℕ
work n made keys = 40 * left n (cut keys) + (17 - made)

-- of the branches that wait
abbrev pub works : List Branching → ℕ
works [] = 0
works (g ∷ gs) = work (length g.made + 1) (length g.made) g.keys + works gs

-- a child made
pub work_given : (keys : Paths) (made : ℕ) → made < 16 → work (made + 1) (made + 1) keys < work made made keys
work_given keys made lt = omega (arith, left_under made (cut keys))

-- a branch begun below
pub work_begun : (keys child : Paths) (made : ℕ) → made < 16 → child ≡ under made (cut keys) → 2 ≤ length child → work 0 0 child + work (made + 1) made keys < work made made keys
work_begun keys child made lt is many =
    let some : left 0 (cut child) + length child ≤ total (under made (cut keys)) = subst (λ (u : Paths). left 0 (cut child) + length child ≤ total u) is (left_behind (length (front child)) child) in
    omega (arith, left_under made (cut keys), some)

pub not_full : (b : Bool) (n : ℕ) → b ≡ (n == 16) → b ≡ false → n ≤ 16 → n < 16
not_full b n e f le = elim (cases_lt n 16) [
  | inl lt ↦ lt
  | inr ge ↦ let is : n ≡ 16 = omega arith in absurd (false≢true (sym f ∙ e ∙ eq-eqb n 16 is))
]

pub smaller_given : (gs : List Branching) (f g : Branching) (child : Option Summary) → length f.made < 16 → g.keys ≡ f.keys → g.made ≡ f.made ++ child ∷ [] → works gs + work (length g.made) (length g.made) g.keys < works gs + work (length f.made) (length f.made) f.keys
smaller_given gs f g child lt keys made =
    let more : length g.made ≡ length f.made + 1 = ap length made ∙ length-append f.made (child ∷ []) in
    let is : work (length g.made) (length g.made) g.keys ≡ work (length f.made + 1) (length f.made + 1) f.keys = (λ i. work (more i) (more i) (keys i)) in
    let less : work (length f.made + 1) (length f.made + 1) f.keys < work (length f.made) (length f.made) f.keys = work_given f.keys (length f.made) lt in
    subst (λ n. works gs + n < works gs + work (length f.made) (length f.made) f.keys) (sym is) (omega arith)

pub smaller_begun : (gs hs : List Branching) (f g : Branching) (child : Paths) → length f.made < 16 → child ≡ under (length f.made) (cut f.keys) → 2 ≤ length child → hs ≡ f ∷ gs → g.keys ≡ child → g.made ≡ [] → works hs + work (length g.made) (length g.made) g.keys < works gs + work (length f.made) (length f.made) f.keys
smaller_begun gs hs f g child lt is many above keys made =
    let n : works hs ≡ work (length f.made + 1) (length f.made) f.keys + works gs = ap works above in
    let m : work (length g.made) (length g.made) g.keys ≡ work 0 0 child = (λ i. work (length (made i)) (length (made i)) (keys i)) in
    let less : work 0 0 child + work (length f.made + 1) (length f.made) f.keys < work (length f.made) (length f.made) f.keys = work_begun f.keys child (length f.made) lt is many in
    subst (λ k. k + work (length g.made) (length g.made) g.keys < works gs + work (length f.made) (length f.made) f.keys) (sym n)
    (subst (λ k. (work (length f.made + 1) (length f.made) f.keys + works gs) + k < works gs + work (length f.made) (length f.made) f.keys) (sym m) (omega arith))
