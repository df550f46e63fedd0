-- Account ids (Nomicon, data structures, account id rules): which bytes are one, and the first
-- fault of those that aren't; sub-accounts, top accounts, implicit accounts and the system account.
use Rattle.std.specs.Prelude.{◌≡◌, ◌≢◌, ℕ, zero, suc, ◌+◌, ◌-◌, List, ◌∷◌, ◌++◌, length, drop, Bool, false, not, ◌&&◌}
use Rattle.std.specs.Prelude.{◌||◌, ◌==◌, Option, Some, None, Result, Ok, Err, nat_lt, if◌then◌else◌, slice_index}
use Rattle.std.specs.Prelude.{codes}
use Rattle.std.specs.Option.{option_or}
use Rattle.std.specs.List.{position, position_or_len, list_any, list_all}
use Rattle.std.specs.Cmp.Lexicographic.{pointwise}
use Rattle.std.specs.Char.{is_ascii_digit, is_ascii_lowercase}
use Rattle.nr_ids.specs.declared.fault.IdFault.{IdFault}
use Rattle.nr_ids.specs.declared.fault.IdFault.TheVariants.{Length, Character, Separator, Memory}

abbrev pub is_dot : ℕ → Bool
is_dot b = b == 46

-- '-', '_' or '.'
abbrev pub is_separator : ℕ → Bool
is_separator b = b == 45 || b == 95 || b == 46

abbrev pub is_id_byte : ℕ → Bool
is_id_byte b = is_ascii_lowercase b || is_ascii_digit b || is_separator b

-- at place i stands a separator that is first, last or right behind another
abbrev pub is_bad_separator : List ℕ → ℕ → Bool
is_bad_separator bytes i =
    is_separator (slice_index bytes i) && (i == 0 || i + 1 == length bytes || is_separator (slice_index bytes (i - 1)))

-- the first place below n that passes the test
unfoldable pub first_below : (ℕ → Bool) → ℕ → Option ℕ
first_below test zero = None
first_below test (suc n) = option_or (first_below test n) (if test n then Some n else None)

abbrev pub first_bad_separator : List ℕ → Option ℕ
first_bad_separator bytes = first_below (is_bad_separator bytes) (length bytes)

abbrev pub separator_fault : Option ℕ → Option IdFault
separator_fault None = None
separator_fault (Some at) = Some (Separator at)

abbrev pub character_fault : Option ℕ → Option IdFault → Option IdFault
character_fault None otherwise = otherwise
character_fault (Some at) otherwise = Some (Character at)

-- the first fault: of the length, else of a byte, else of a separator
unfoldable pub id_fault : List ℕ → Option IdFault
id_fault bytes =
    if nat_lt (length bytes) 2 || nat_lt 64 (length bytes) then Some Length
    else character_fault (position (λ b. not (is_id_byte b)) bytes) (separator_fault (first_bad_separator bytes))

-- what parsing answers
abbrev pub Judges : Result (List ℕ) IdFault → List ℕ → Type 0
Judges (Ok id) bytes = (id ≡ bytes) × (id_fault bytes ≡ None)
Judges (Err fault) bytes = fault ≢ Memory → id_fault bytes ≡ Some fault

-- id is q, a dot and parent, where q has no dot
abbrev pub IsSubOf : List ℕ → List ℕ → Type 0
IsSubOf id parent = (q : List ℕ) × (id ≡ q ++ 46 ∷ parent) × (list_any is_dot q ≡ false)

-- from its first dot on, id is a dot and parent
unfoldable pub is_sub_of : List ℕ → List ℕ → Bool
is_sub_of id parent = pointwise ◌==◌ (drop (position_or_len is_dot id) id) (46 ∷ parent)

unfoldable pub is_top : List ℕ → Bool
is_top id = not (list_any is_dot id)

-- '0' to '9' or 'a' to 'f'
abbrev pub is_hex_digit : ℕ → Bool
is_hex_digit b = is_ascii_digit b || (is_ascii_lowercase b && nat_lt b 103)

unfoldable pub is_implicit : List ℕ → Bool
is_implicit id = (length id == 64) && list_all is_hex_digit id

-- the id of the system account
abbrev pub system : List ℕ
system = codes "system"

unfoldable pub is_system : List ℕ → Bool
is_system id = pointwise ◌==◌ id system
