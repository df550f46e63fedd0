-- The loop over the rows, which reads a number for each.
use Rattle.std.proofs.Common.{◌≡◌, ℕ, ◌+◌, ◌≤◌, ◌<◌, List, [], ◌∷◌, ◌++◌, Result, Ok, Err, length, map, take, drop, get_or, slice_set, refl, sym, ap, ◌∙◌, append_assoc}
use Rattle.std.proofs.lemmas.List.{append-nil, drop_more, drop_all, take_all, take_more, take_more_set, map-append}
use Rattle.serde_json.specs.Data.{Data}
use Rattle.serde_json.specs.Find.{get}
use Rattle.nr_config.specs.Rows.{row_of}
use Rattle.nr_bytes.specs.Reading.{◌>>=◌}
use Rattle.nr_config.specs.Reading.{named, numbers}
use Rattle.nr_config.specs.declared.fault.ConfigFault.{ConfigFault}
use Rattle.nr_config.specs.declared.table.Row as code

-- what was read before, and what is still read
abbrev pub with_front : List ℕ → Result (List ℕ) ConfigFault → Result (List ℕ) ConfigFault
with_front front rest = rest >>= λ xs. Ok (front ++ xs)

-- the whole answer is what the first i rows gave, with what the others give
abbrev pub HasRead : ℕ → List ℕ → List code.Row → Data → Type 0
HasRead i found rows d = with_front (take i found) (numbers (i + 1) (map row_of (drop i rows)) d) ≡ numbers 1 (map row_of rows) d

regroup : (front : List ℕ) (x : ℕ) (rest : Result (List ℕ) ConfigFault) → with_front front (rest >>= λ xs. Ok (x ∷ xs)) ≡ with_front (front ++ x ∷ []) rest
regroup front x (Ok xs) = ap (λ (ys : List ℕ). Ok ys) (simp append_assoc)
regroup front x (Err e) = refl

pub goes_on : (i : ℕ) (found : List ℕ) (rows : List code.Row) (d : Data) (s : code.Row) (x : ℕ) → i < length rows → i < length found
    → named (i + 1) (row_of (get_or rows i s)) (get (get_or rows i s).name.now d) ≡ Ok x → HasRead i found rows d → HasRead (i + 1) (slice_set found i x) rows d
goes_on i found rows d s x l m one so_far =
    let rest : drop i rows ≡ get_or rows i s ∷ drop (i + 1) rows = drop_more rows i s l in
    let before : with_front (take i found) (numbers (i + 1) (map row_of (drop i rows)) d) ≡ with_front (take i found) (numbers (i + 1 + 1) (map row_of (drop (i + 1) rows)) d >>= λ xs. Ok (x ∷ xs)) = rw (rest, one) refl in
    rw (take_more_set found i x m) (sym (regroup (take i found) x (numbers (i + 1 + 1) (map row_of (drop (i + 1) rows)) d)) ∙ sym before ∙ so_far)

pub is_done : (i : ℕ) (found : List ℕ) (rows : List code.Row) (d : Data) → length rows ≤ i → length found ≤ i → HasRead i found rows d → numbers 1 (map row_of rows) d ≡ Ok found
is_done i found rows d l m so_far =
    let before : with_front (take i found) (numbers (i + 1) (map row_of (drop i rows)) d) ≡ Ok found = rw (drop_all i rows l, take_all i found m) (ap (λ (ys : List ℕ). Ok ys) (append-nil found)) in
    sym so_far ∙ before

-- a loop that takes one number of each row
pub column_more : (f : code.Row → ℕ) (i : ℕ) (found : List ℕ) (rows : List code.Row) (s : code.Row) → i < length rows → i < length found
    → take i found ≡ map f (take i rows) → take (i + 1) (slice_set found i (f (get_or rows i s))) ≡ map f (take (i + 1) rows)
column_more f i found rows s l m so_far =
    rw (take_more_set found i (f (get_or rows i s)) m, take_more rows i s l, map-append f (take i rows) (get_or rows i s ∷ []), so_far) refl

pub column_done : (f : code.Row → ℕ) (i : ℕ) (found : List ℕ) (rows : List code.Row) → length rows ≤ i → length found ≤ i → take i found ≡ map f (take i rows) → found ≡ map f rows
column_done f i found rows l m so_far = sym (take_all i found m) ∙ so_far ∙ ap (map f) (take_all i rows l)
