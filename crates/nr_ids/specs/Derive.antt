-- Hashes that are derived from one another (FIPS 180-4, SHA-256).
use Rattle.std.specs.Prelude.{ℕ, ◌++◌}
use Rattle.std.specs.Int.{w64, to_le_bytes}
use Rattle.sha2.specs.Sha256.{sha256}
use Rattle.nr_ids.specs.declared.key.Hash32.{Hash32}

-- SHA-256 of the parent, the height and the ordinal, each number as 8 bytes, the lowest first
unfoldable pub derived : Hash32 → ℕ → ℕ → Hash32
derived parent height ordinal = record { 0 = sha256 (parent.0 ++ to_le_bytes w64 height ++ to_le_bytes w64 ordinal) }
