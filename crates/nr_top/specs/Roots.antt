-- A root as a word of 64 digits of base 16. This project's own.
use Rattle.std.specs.Prelude.{ℕ, List, [], unwrap_or}
use Rattle.std.specs.Result.{result_ok}
use Rattle.hex.specs.Hex.{decode_of}
use Rattle.nr_ids.specs.declared.key.Hash32.{Hash32}

-- the root that the digits spell
abbrev pub root_in : List ℕ → Hash32
root_in word = record { 0 = unwrap_or (result_ok (decode_of word)) [] }
