-- The contract of a generated chain, as the bytes of a module (WebAssembly 1.0, Binary Format). What it does is this
-- project's own.
use Rattle.std.specs.Prelude.{ℕ, zero, suc, ◌+◌, ◌/◌, ◌%◌, List, [], ◌∷◌, ◌++◌, length, replicate, nat_lt}
use Rattle.std.specs.Prelude.{if◌then◌else◌, codes}
use Rattle.std.specs.List.{flat_map}
use Rattle.nr_gen.specs.Turns.{joined_below}

-- ---- numbers as LEB128, in as few bytes as there can be (Binary Format, Values, Integers)
-- in at most k further bytes
unfoldable pub unsigned_in : ℕ → ℕ → List ℕ
unsigned_in zero n = n ∷ []
unsigned_in (suc k) n = if nat_lt n 128 then n ∷ [] else (n % 128 + 128) ∷ unsigned_in k (n / 128)

unfoldable pub unsigned : ℕ → List ℕ
unsigned n = unsigned_in 4 n

-- of a signed number that isn't negative: the bit below the highest of the last byte is its sign
unfoldable pub signed_in : ℕ → ℕ → List ℕ
signed_in zero n = n ∷ []
signed_in (suc k) n = if nat_lt n 64 then n ∷ [] else (n % 128 + 128) ∷ signed_in k (n / 128)

unfoldable pub signed : ℕ → List ℕ
signed n = signed_in 9 n

abbrev pub minus_one : List ℕ
minus_one = 127 ∷ []

-- ---- vectors and sections (Binary Format, Conventions and Modules)
abbrev pub counted : List ℕ → List ℕ
counted bytes = unsigned (length bytes) ++ bytes

abbrev pub vector : List (List ℕ) → List ℕ
vector items = unsigned (length items) ++ flat_map (λ item. item) items

abbrev pub section : ℕ → List ℕ → List ℕ
section id contents = id ∷ counted contents

-- ---- types and imports
-- a function of so many i64 with so many results of type i64
abbrev pub function_type : ℕ → ℕ → List ℕ
function_type params results = 96 ∷ counted (replicate params 126) ++ counted (replicate results 126)

unfoldable pub type_section : List ℕ
type_section =
    section 1 (vector (function_type 0 0 ∷ function_type 1 0 ∷ function_type 2 0 ∷ function_type 1 1
    ∷ function_type 2 1 ∷ function_type 3 1 ∷ function_type 5 1 ∷ function_type 8 1 ∷ function_type 9 1 ∷ []))

-- a function of the host, with the number of its type
abbrev pub import_of : List ℕ → ℕ → List ℕ
import_of name type = counted (codes "env") ++ counted name ++ 0 ∷ unsigned type

unfoldable pub import_section : List ℕ
import_section =
    section 2 (vector (
    import_of (codes "input") 1
    ∷ import_of (codes "read_register") 2
    ∷ import_of (codes "current_account_id") 1
    ∷ import_of (codes "value_return") 2
    ∷ import_of (codes "promise_result") 4
    ∷ import_of (codes "storage_read") 5
    ∷ import_of (codes "storage_write") 6
    ∷ import_of (codes "promise_create") 7
    ∷ import_of (codes "promise_then") 8
    ∷ []
    ))

-- ---- functions, memory and exports
-- three functions of type 0, and 700 fillers of type 3
unfoldable pub function_section : List ℕ
function_section = section 3 (vector (replicate 3 (unsigned 0) ++ replicate 700 (unsigned 3)))

-- one of at least a page
unfoldable pub memory_section : List ℕ
memory_section = section 5 (vector ((0 ∷ unsigned 1) ∷ []))

abbrev pub export_of : List ℕ → ℕ → List ℕ
export_of name function = counted name ++ 0 ∷ unsigned function

unfoldable pub export_section : List ℕ
export_section =
    section 7 (vector (export_of (codes "send") 9 ∷ export_of (codes "recv") 10 ∷ export_of (codes "done") 11 ∷ []))

-- ---- instructions (Binary Format, Instructions)
abbrev pub unreachable : List ℕ
unreachable = 0 ∷ []

abbrev pub if_without_result : List ℕ
if_without_result = 4 ∷ 64 ∷ []

abbrev pub otherwise : List ℕ
otherwise = 5 ∷ []

abbrev pub end : List ℕ
end = 11 ∷ []

abbrev pub call : ℕ → List ℕ
call function = 16 ∷ unsigned function

abbrev pub drop : List ℕ
drop = 26 ∷ []

abbrev pub local_get : ℕ → List ℕ
local_get local = 32 ∷ unsigned local

-- of an i64 in memory at the address, with alignment 3 and offset 0
abbrev pub i64_load : List ℕ
i64_load = 41 ∷ unsigned 3 ++ unsigned 0

abbrev pub i64_store : List ℕ
i64_store = 55 ∷ unsigned 3 ++ unsigned 0

abbrev pub i32_const : ℕ → List ℕ
i32_const n = 65 ∷ signed n

abbrev pub i64_const : ℕ → List ℕ
i64_const n = 66 ∷ signed n

abbrev pub i64_minus_one : List ℕ
i64_minus_one = 66 ∷ minus_one

-- one constant after another
abbrev pub i64_consts : List ℕ → List ℕ
i64_consts = flat_map i64_const

abbrev pub i64_eqz : List ℕ
i64_eqz = 80 ∷ []

abbrev pub i64_ne : List ℕ
i64_ne = 82 ∷ []

abbrev pub i64_add : List ℕ
i64_add = 124 ∷ []

-- ---- the bodies; the imports are the functions 0 to 8
-- a body without locals
abbrev pub body : List ℕ → List ℕ
body instructions = counted (unsigned 0 ++ instructions ++ end)

-- The contract that the arguments name is called by its method `recv`; `done` of the own contract is called with what
-- that returns.
unfoldable pub send_body : List ℕ
send_body =
    body (
    i64_consts (0 ∷ []) ++ call 0
    ++ i64_minus_one ++ i64_consts (0 ∷ 4 ∷ 0 ∷ 0 ∷ 0 ∷ 64 ∷ 500000 ∷ []) ++ call 7
    ++ i64_consts (1 ∷ []) ++ call 2
    ++ i64_minus_one ++ i64_consts (1 ∷ 4 ∷ 8 ∷ 0 ∷ 0 ∷ 64 ∷ 500000 ∷ []) ++ call 8
    ++ drop
    )

-- The number under the key `n` is counted up, written back and returned.
unfoldable pub recv_body : List ℕ
recv_body =
    body (
    i64_consts (1 ∷ 16 ∷ 2 ∷ []) ++ call 5 ++ i64_eqz
    ++ if_without_result ++ otherwise ++ i64_consts (2 ∷ 32 ∷ []) ++ call 1 ++ end
    ++ i32_const 32 ++ i32_const 32 ++ i64_load ++ i64_consts (1 ∷ []) ++ i64_add ++ i64_store
    ++ i64_consts (1 ∷ 16 ∷ 8 ∷ 32 ∷ 3 ∷ []) ++ call 6 ++ drop
    ++ i64_consts (8 ∷ 32 ∷ []) ++ call 3
    )

-- It traps where the other contract failed.
unfoldable pub done_body : List ℕ
done_body =
    body (i64_consts (0 ∷ 4 ∷ []) ++ call 4 ++ i64_consts (1 ∷ []) ++ i64_ne ++ if_without_result ++ unreachable
    ++ end)

-- Filler j adds 20 numbers, from 64 + j on, to its argument.
abbrev pub addition : ℕ → ℕ → List ℕ
addition j i = i64_const (64 + j + i) ++ i64_add

unfoldable pub filler_body : ℕ → List ℕ
filler_body j = body (local_get 0 ++ joined_below 20 (addition j))

unfoldable pub code_section : List ℕ
code_section = section 10 (unsigned 703 ++ send_body ++ recv_body ++ done_body ++ joined_below 700 filler_body)

-- ---- memory as it is at first
-- names of methods at 0 and 8, and a key at 16
abbrev pub first_bytes : List ℕ
first_bytes = codes "recv" ++ replicate 4 0 ++ codes "done" ++ replicate 4 0 ++ codes "n"

unfoldable pub data_section : List ℕ
data_section = section 11 (vector ((unsigned 0 ++ i32_const 0 ++ end ++ counted first_bytes) ∷ []))

-- ---- the module: its magic word and version, and its sections
unfoldable pub front : List ℕ
front =
    (0 ∷ codes "asm") ++ (1 ∷ 0 ∷ 0 ∷ 0 ∷ []) ++ type_section ++ import_section ++ function_section ++ memory_section
    ++ export_section

unfoldable pub contract_code : List ℕ
contract_code = front ++ code_section ++ data_section
