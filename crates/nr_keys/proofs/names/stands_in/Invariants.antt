-- What holds at the loop of `names::stands_in`.
use Rattle.std.proofs.Common.{◌≡◌, ℕ, List, length}
use Rattle.std.specs.List.{list_any, flat_map, AllByRecursion}
use Rattle.std.specs.Str.{bytes_eq}
use Rattle.nr_bytes.specs.Spelling.{IsString}
use Rattle.nr_bytes.specs.Writing.{counted_bytes}
use Rattle.nr_keys.specs.Names.{IsLeft}
use Rattle.nr_keys.proofs.names.stands_in.Given as goal

-- whatever the names are, those that are left decide
abbrev pub invariant-names : goal.invariant-names
invariant-names l =
    (names : List (List ℕ)) → AllByRecursion IsString names → l.fn.bytes ≡ flat_map counted_bytes names
    → IsLeft l.fn.name l.rest (list_any (bytes_eq l.fn.name) names)

abbrev pub decreases-names : goal.decreases-names
decreases-names l = length l.rest
