-- The bytes that the sections of the contract are.
use Rattle.std.proofs.Common.{◌≡◌, ℕ, zero, suc, ◌+◌, ◌*◌, ◌/◌, ◌%◌, ◌<◌, ◌≤◌, true, false, ltb, List, [], ◌∷◌, ◌++◌, length, replicate, refl, sym, ap, ◌∙◌, arith}
use Rattle.std.proofs.lemmas.Bool.{le-ltb, lt-ltb}
use Rattle.std.proofs.lemmas.List.{length-append}
use Rattle.nr_gen.specs.Code.{addition, code_section, contract_code, data_section, done_body, export_section, filler_body, front, function_section, i64_add, i64_const, import_section, memory_section, recv_body, send_body, signed, signed_in, type_section, unsigned, unsigned_in}
use Rattle.nr_gen.proofs.Lists.{behind}
use Rattle.nr_gen.specs.Turns.{joined_below}
use Rattle.nr_gen.specs.declared.code.TheConstants.{BODIES, DATA, DONE, EXPORTS, FUNCTIONS, IMPORTS, MAGIC, MEMORY, RECV, SEND, TYPES}

-- a constant of two bytes
pub two_bytes : (n : ℕ) → 64 ≤ n → n < 8192 → i64_const n ≡ 66 ∷ (n % 128 + 128) ∷ n / 128 ∷ []
unfolding signed signed_in
two_bytes n low high =
    let large : ltb n 64 ≡ false = le-ltb n 64 low in
    let top : n / 128 < 64 = omega arith in
    let small : ltb (n / 128) 64 ≡ true = lt-ltb _ _ top in
    rw (large, small) refl

pub types_are : type_section ≡ TYPES
unfolding type_section unsigned unsigned_in
types_are = refl

pub imports_are : import_section ≡ IMPORTS
unfolding import_section unsigned unsigned_in
imports_are = refl

pub functions_are : function_section ≡ FUNCTIONS ++ replicate 700 3
unfolding function_section unsigned unsigned_in
functions_are = refl

-- the same as it is put together
pub functions_whole : (old begun new : List ℕ) (n : ℕ) → n ≡ 700 → begun ≡ old ++ FUNCTIONS → new ≡ begun ++ replicate n 3 → new ≡ old ++ function_section
functions_whole old begun new n all first second =
    behind old FUNCTIONS (replicate 700 3) begun new first (second ∙ ap (λ k. begun ++ replicate k 3) all) ∙ ap (λ l. old ++ l) (sym functions_are)

pub memory_is : memory_section ≡ MEMORY
unfolding memory_section unsigned unsigned_in
memory_is = refl

pub exports_are : export_section ≡ EXPORTS
unfolding export_section unsigned unsigned_in
exports_are = refl

pub send_is : send_body ≡ SEND
unfolding send_body unsigned unsigned_in signed signed_in
send_is = refl

pub recv_is : recv_body ≡ RECV
unfolding recv_body unsigned unsigned_in signed signed_in
recv_is = refl

pub done_is : done_body ≡ DONE
unfolding done_body unsigned unsigned_in signed signed_in
done_is = refl

pub data_is : data_section ≡ DATA
unfolding data_section unsigned unsigned_in signed signed_in
data_is = refl

-- ---- the fillers
length_additions : (j n : ℕ) → j < 700 → n ≤ 20 → length (joined_below n (addition j)) ≡ 4 * n
unfolding joined_below
length_additions j zero small few = refl
length_additions j (suc n) small few =
    let one : addition j n ≡ 66 ∷ ((64 + j + n) % 128 + 128) ∷ (64 + j + n) / 128 ∷ i64_add = ap (λ l. l ++ i64_add) (two_bytes (64 + j + n) (omega arith) (omega arith)) in
    omega (arith, length-append (joined_below n (addition j)) (addition j n), ap length one, length_additions j n small (omega arith))

abbrev filler_front : List ℕ
filler_front = 84 ∷ 0 ∷ 32 ∷ 0 ∷ []

pub filler_is : (j : ℕ) → j < 700 → filler_body j ≡ (84 ∷ 0 ∷ 32 ∷ 0 ∷ []) ++ joined_below 20 (addition j) ++ 11 ∷ []
unfolding filler_body unsigned unsigned_in
filler_is j small =
    let additions = joined_below 20 (addition j) in
    let long : length (0 ∷ 32 ∷ 0 ∷ additions ++ 11 ∷ []) ≡ 84 = omega (arith, length-append additions (11 ∷ []), length_additions j 20 small (omega arith)) in
    rw long refl

-- the same as it is put together
pub filler_whole : (j : ℕ) → j < 700 → (old begun added new : List ℕ) (n : ℕ) → n ≡ 20 → begun ≡ old ++ (84 ∷ 0 ∷ 32 ∷ 0 ∷ []) → added ≡ begun ++ joined_below n (addition j) → new ≡ added ++ 11 ∷ [] → new ≡ old ++ filler_body j
filler_whole j small old begun added new n all first second third =
    let additions = joined_below 20 (addition j) in
    behind old (filler_front ++ additions) (11 ∷ []) added new (behind old filler_front additions begun added first (second ∙ ap (λ k. begun ++ joined_below k (addition j)) all)) third
    ∙ ap (λ l. old ++ l) (sym (filler_is j small))

length_fillers : (n : ℕ) → n ≤ 700 → length (joined_below n filler_body) ≡ 85 * n
unfolding joined_below
length_fillers zero few = refl
length_fillers (suc n) few =
    let one : length (filler_body n) ≡ 85 = omega (arith, ap length (filler_is n (omega arith)), length-append (joined_below 20 (addition n)) (11 ∷ []), length_additions n 20 (omega arith) (omega arith)) in
    omega (arith, length-append (joined_below n filler_body) (filler_body n), one, length_fillers n (omega arith))

-- the section of bodies
pub bodies_are : code_section ≡ BODIES ++ SEND ++ RECV ++ DONE ++ joined_below 700 filler_body
unfolding code_section unsigned unsigned_in
bodies_are =
    let fillers = joined_below 700 filler_body in
    let long : length (unsigned 703 ++ SEND ++ RECV ++ DONE ++ fillers) ≡ 59626 = omega (arith, length-append SEND (RECV ++ DONE ++ fillers), length_fillers 700 (omega arith)) in
    rw (send_is, recv_is, done_is, long) refl

-- the same as it is put together
pub bodies_whole : (old a b c d e : List ℕ) → a ≡ old ++ BODIES → b ≡ a ++ SEND → c ≡ b ++ RECV → d ≡ c ++ DONE → e ≡ d ++ joined_below 700 filler_body → e ≡ old ++ code_section
bodies_whole old a b c d e one two three four five =
    behind old (BODIES ++ SEND ++ RECV ++ DONE) (joined_below 700 filler_body) d e (behind old (BODIES ++ SEND ++ RECV) DONE c d (behind old (BODIES ++ SEND) RECV b c (behind old BODIES SEND a b one two) three) four) five
    ∙ ap (λ l. old ++ l) (sym bodies_are)

-- what stands before it
front_is : front ≡ MAGIC ++ TYPES ++ IMPORTS ++ function_section ++ MEMORY ++ EXPORTS
unfolding front
front_is = rw (types_are, imports_are, memory_is, exports_are) refl

pub front_whole : (old a b c d e f : List ℕ) → a ≡ old ++ MAGIC → b ≡ a ++ TYPES → c ≡ b ++ IMPORTS → d ≡ c ++ function_section → e ≡ d ++ MEMORY → f ≡ e ++ EXPORTS → f ≡ old ++ front
front_whole old a b c d e f one two three four five six =
    let upto = behind old (MAGIC ++ TYPES) IMPORTS b c (behind old MAGIC TYPES a b one two) three in
    behind old (MAGIC ++ TYPES ++ IMPORTS ++ function_section ++ MEMORY) EXPORTS e f (behind old (MAGIC ++ TYPES ++ IMPORTS ++ function_section) MEMORY d e (behind old (MAGIC ++ TYPES ++ IMPORTS) function_section c d upto four) five) six
    ∙ ap (λ l. old ++ l) (sym front_is)

-- ---- the size of it all
length_front : length front ≡ 992
length_front =
    let functions : length function_section ≡ 708 = ap length functions_are in
    omega (arith, ap length front_is, length-append (function_section ++ MEMORY) EXPORTS, length-append function_section MEMORY, functions)

length_bodies : length code_section ≡ 59630
length_bodies = omega (arith, ap length bodies_are, length_fillers 700 (omega arith))

pub length_code : length contract_code ≡ 60647
unfolding contract_code
length_code =
    let last : length data_section ≡ 25 = ap length data_is in
    omega (arith, length-append (front ++ code_section) data_section, length-append front code_section, length_front, length_bodies, last)
