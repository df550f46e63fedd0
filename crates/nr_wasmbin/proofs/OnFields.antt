-- Steps of reading, one after the other, and the contents of a section.
use Rattle.std.proofs.Common.{◌≡◌, ℕ, ◌+◌, ◌-◌, ◌<◌, ◌≤◌, List, [], length, take, drop, Ok, Err, Result, refl, sym, ap, ◌∙◌, arith, length-drop}
use Rattle.std.proofs.lemmas.List.{drop_more, drop-drop, drop-take}
use Rattle.std.proofs.lemmas.Bool.{le-ltb}
use Rattle.nr_bytes.specs.Reading.{Input, past, ◌>>=◌}
use Rattle.nr_bytes.specs.Fields.{Read, items_at}
use Rattle.nr_bytes.proofs.Items.{with_front}
use Rattle.nr_wasmbin.specs.Fields.{contents_at, taken, filled_of}
use Rattle.nr_wasmbin.specs.declared.fault.DecodeFault.TheVariants as fault

pub goes : {A B F : Type 0} (r : Result A F) (f : A → Result B F) (x : A) (y : Result B F) → r ≡ Ok x → f x ≡ y → (r >>= f) ≡ y
goes r f x y e h = ap (λ r. r >>= f) e ∙ h

pub filled_more : (bytes : List ℕ) (at : ℕ) → at < length bytes → filled_of (drop at bytes) at ≡ Err (fault.Section at)
filled_more bytes at h = ap (λ l. filled_of l at) (drop_more bytes at 0 h)

pub contents_is : (bytes : List ℕ) (at size : ℕ) → at ≤ length bytes → size ≤ length bytes - at
    → contents_at size (record { left = drop at bytes; at = at }) ≡ Ok (record { left = drop at (take (at + size) bytes); at = at }, record { left = drop (at + size) bytes; at = at + size })
contents_is bytes at size within h =
    let long : size ≤ length (drop at bytes) = omega (arith, length-drop at bytes) in
    rw (le-ltb (length (drop at bytes)) size long, drop-take at size bytes, drop-drop) refl

pub taken_is : (bytes : List ℕ) (at size : ℕ) → at ≤ length bytes → size ≤ length bytes - at
    → taken at (size, record { left = drop at bytes; at = at }) ≡ Ok (take (at + size - at) (drop at bytes), record { left = drop (at + size) bytes; at = at + size })
taken_is bytes at size within h =
    let long : size ≤ length (drop at bytes) = omega (arith, length-drop at bytes) in
    let same : at + size - at ≡ size = omega arith in
    rw (le-ltb (length (drop at bytes)) size long, drop-drop, same) refl

pub passed : (bytes : List ℕ) (at : ℕ) (s : Input) → record { left = drop at bytes; at = at } ≡ s → record { left = drop (at + 1) bytes; at = at + 1 } ≡ past 1 s
passed bytes at s e = ap (λ (l : List ℕ). record { left = l; at = at + 1 }) (sym (drop-drop 1 at bytes)) ∙ ap (past 1) e

-- ---- a list's items, before the first one
with_none : {F X : Type 0} (read : Read F (List X)) → with_front [] read ≡ read
with_none (Ok x) = refl
with_none (Err e) = refl

pub items_begin : {F X : Type 0} (item : Input → Read F X) (front : List X) (count : ℕ) (s : Input) → front ≡ [] → with_front front (items_at item (count - 0) s) ≡ items_at item count s
items_begin {F} {X} item front count s none =
    let all : count - 0 ≡ count = omega arith in
    ap (λ (xs : List X). with_front xs (items_at item (count - 0) s)) none ∙ ap (λ (n : ℕ). with_front [] (items_at item n s)) all ∙ with_none (items_at item count s)
