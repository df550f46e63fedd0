-- Keys in the order of their nibbles, and the tries of such keys. This project's own.
use Rattle.std.specs.Prelude.{◌≡◌, ◌==◌, ◌<◌, ◌⊎◌, ℕ, Bool, true, false, nat_lt, List, [], ◌∷◌, length, Option, Some}
use Rattle.std.specs.Prelude.{None}
use Rattle.std.specs.List.{AllByRecursion}
use Rattle.nr_triedef.specs.declared.hash.Summary.{Summary}
use Rattle.nr_triedef.specs.Node.{IsNibbles}
use Rattle.nr_triedef.specs.Root.{Paths, front, behind, depth, trie}

abbrev pub first : List ℕ → Option ℕ
first [] = None
first (x ∷ key) = Some x

-- both keys go on, with the same nibble
abbrev pub meet : List ℕ → List ℕ → Bool
meet [] other = false
meet (x ∷ key) [] = false
meet (x ∷ key) (y ∷ other) = x == y

-- the key ends, or goes on with a nibble below n
abbrev pub is_below : ℕ → List ℕ → Bool
is_below n [] = true
is_below n (x ∷ key) = nat_lt x n

-- the one key stands before the other
abbrev pub Before : List ℕ → List ℕ → Type 0
Before key [] = ⊥
Before [] (y ∷ other) = Unit {0}
Before (x ∷ key) (y ∷ other) = (x < y) ⊎ ((x ≡ y) × Before key other)

-- each key stands before those behind it
abbrev pub Rise : Paths → Type 0
Rise [] = Unit {0}
Rise (p ∷ ps) = AllByRecursion (λ (q : List ℕ × List ℕ). Before p.0 q.0) ps × Rise ps

-- keys of nibbles, in order
pub record CanWalk (ps : Paths) : Type 0 where
  pub order : Rise ps
  pub small : AllByRecursion (λ (p : List ℕ × List ℕ). IsNibbles p.0) ps

-- the first key with its value, where there is one
abbrev pub first_path : Paths → List ℕ × List ℕ
first_path [] = ([], [])
first_path (p ∷ ps) = p

-- without their longest front
abbrev pub cut : Paths → Paths
cut ps = behind (length (front ps)) ps

-- the trie of all of them
unfoldable pub whole : Paths → Option Summary
whole ps = trie (depth ps) ps

-- a branch that is being made: its keys, and the children made so far
pub record Branching : Type 0 where
  pub keys : Paths
  pub made : List (Option Summary)
