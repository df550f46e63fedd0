-- A walk's part of a map, and a map whose searched entries are replaced. This project's own.
use Rattle.std.specs.Prelude.{◌≡◌, ℕ, true, not, T, List, [], ◌∷◌}
use Rattle.std.specs.List.{AllByRecursion}
use Rattle.std.specs.FinMap.{entries, insert, is_sorted, retain_keys}
use Rattle.nr_bytes.specs.Numbers.{IsBytes}
use Rattle.nr_columns.specs.Orders.{bytes_cmp}
use Rattle.nr_columns.specs.declared.entry.Entry.{Entry}
use Rattle.nr_remake.specs.Merging.{IsKept, pairs_of}
use Rattle.nr_triedef.specs.Root.{Contents, paths}
use Rattle.nr_walk.specs.declared.walking.Kept.{Kept}
use Rattle.nr_stateless.specs.Accounts.{searched_of, is_searched, found_of, rest_of}

-- what is kept stands for the entries of the map that aren't searched
abbrev pub IsPart : List (List ℕ) → Contents → List Kept → Type 0
IsPart accounts m part = IsKept (searched_of accounts) (paths (entries m)) part

-- keys of bytes
abbrev pub HasBytes : Contents → Type 0
HasBytes m = AllByRecursion (λ (e : List ℕ × List ℕ). IsBytes e.0) (entries m)

-- a map of keys of bytes that has the entries of another one, but for those that are searched, which are these
pub record IsReplaced (accounts : List (List ℕ)) (m n : Contents) (es : List Entry) : Type 0 where
  pub others : rest_of accounts n ≡ rest_of accounts m
  pub searched : found_of accounts n ≡ pairs_of es
  pub bytes : HasBytes n

-- entries of searched keys, of bytes, in the order of their keys, which differ
pub record AreNew (accounts : List (List ℕ)) (es : List Entry) : Type 0 where
  pub searched : AllByRecursion (λ (e : List ℕ × List ℕ). is_searched accounts e.0 ≡ true) (pairs_of es)
  pub bytes : AllByRecursion (λ (e : List ℕ × List ℕ). IsBytes e.0) (pairs_of es)
  pub order : T (is_sorted bytes_cmp (pairs_of es))

-- with these entries set
abbrev pub with_all : Contents → List (List ℕ × List ℕ) → Contents
with_all m [] = m
with_all m (e ∷ es) = insert (with_all m es) e.0 e.1

-- the map with its searched entries replaced by these
abbrev pub replaced : List (List ℕ) → Contents → List Entry → Contents
replaced accounts m es = with_all (retain_keys m (λ key. not (is_searched accounts key))) (pairs_of es)
