-- The orders of the state's keys: of account ids, and of pairs that begin with one. This project's own.
use Rattle.std.specs.Prelude.{ℕ, List}
use Rattle.std.specs.Ordering.{nat_cmp, ordering_then}
use Rattle.std.specs.declared.cmp.Ordering.{Ordering}
use Rattle.std.specs.Cmp.Lexicographic.{slice_cmp}
use Rattle.nr_ids.specs.declared.key.PublicKey.{PublicKey}
use Rattle.nr_ids.specs.Keys.{key_bytes}

abbrev pub bytes_cmp : List ℕ → List ℕ → Ordering
bytes_cmp = slice_cmp nat_cmp

-- by the owner, and then by the second part
abbrev pub pair_cmp : List ℕ × List ℕ → List ℕ × List ℕ → Ordering
pair_cmp a b = ordering_then (bytes_cmp a.0 b.0) (bytes_cmp a.1 b.1)

-- by the owner, and then by the key's spelling
abbrev pub key_cmp : List ℕ × PublicKey → List ℕ × PublicKey → Ordering
key_cmp a b = ordering_then (bytes_cmp a.0 b.0) (bytes_cmp (key_bytes a.1) (key_bytes b.1))
