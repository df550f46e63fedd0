-- What all registers hold after a write.
use Rattle.std.proofs.Common.{◌≡◌, ℕ, ◌+◌, List, length}
use Rattle.std.specs.BTreeMap.{is_at, insert_entry}
use Rattle.std.specs.List.Sorted.{IsStrictlySortedBy}
use Rattle.std.specs.Map.{keys_of, lookup}
use Rattle.std.specs.Option.{option_map, unwrap_or}
use Rattle.std.specs.Ordering.{nat_cmp}
use Rattle.std.proofs.lemmas.Cmp.{nat_cmp_total}
use Rattle.std.proofs.lemmas.Map.Entries.{sum_by-insert_entry}
use Rattle.nr_guest.specs.Guest.{all_bytes}

pub total_after : (es : List (ℕ × List ℕ)) (id : ℕ) (bytes : List ℕ) → IsStrictlySortedBy nat_cmp (keys_of es)
    → all_bytes (insert_entry nat_cmp es id bytes) + unwrap_or (option_map length (lookup (is_at (nat_cmp id)) es)) 0 ≡ all_bytes es + length bytes
total_after es id bytes o = sum_by-insert_entry length nat_cmp_total es id bytes o
