-- Names as they are spelled: one is told apart from those behind it.
use Rattle.std.proofs.Common.{◌≡◌, ℕ, ◌+◌, ◌≤◌, Bool, true, false, List, [], ◌∷◌, ◌++◌, length, drop, Option, Some, None, Ok, refl, sym, ap, subst, ◌∙◌, arith}
use Rattle.std.specs.Prelude.{◌==◌, ◌||◌, IsSome}
use Rattle.std.specs.List.{list_any, flat_map, AllByRecursion}
use Rattle.std.specs.Str.{bytes_eq}
use Rattle.std.proofs.lemmas.Bool.{eq-eqb, ne_eqb}
use Rattle.std.proofs.lemmas.List.{length-append, drop_at}
use Rattle.nr_bytes.specs.Numbers.{little, IsBytes}
use Rattle.nr_bytes.specs.Reading.{Input, past, counted, counted_of}
use Rattle.nr_bytes.specs.Spelling.{IsRead, IsCounted, IsString, FitsList, list, before}
use Rattle.nr_bytes.specs.Writing.{counted_bytes}
use Rattle.nr_bytes.proofs.Combined.{list_law}
use Rattle.nr_bytes.proofs.Fields.{blob_law, length-counted, string_law}
use Rattle.nr_bytes.proofs.Numbers.{length-little}
use Rattle.nr_bytes.proofs.Steps.{lifted_ok, ok_is}
use Rattle.nr_bytes.proofs.Whole.{whole_taken, whole_again}
use Rattle.nr_records.specs.Fault.{record_fault}
use Rattle.nr_records.specs.Reading.{all_of, list_at, string_at}
use Rattle.nr_columns.specs.Tables.{read_of}
use Rattle.nr_columns.proofs.SpelledKeys.{is_read, read_ok}
use Rattle.nr_keys.specs.Names.{names_read, names_in, SpellNames, IsLeft}

-- ---- all names

pub names_law : IsRead (list_at string_at) (list counted_bytes) (FitsList IsString)
names_law = list_law record_fault string_at counted_bytes IsString (string_law record_fault)

pub names_so : (bytes : List ℕ) (names : List (List ℕ)) → IsBytes bytes → names_read bytes ≡ Some names → FitsList IsString names × (bytes ≡ list counted_bytes names)
names_so bytes names fits e =
    whole_taken record_fault (list_at string_at) (list counted_bytes) (FitsList IsString) names_law bytes names fits (read_ok (all_of (list_at string_at) bytes) names e)

pub names_again : (names : List (List ℕ)) → FitsList IsString names → names_read (list counted_bytes names) ≡ Some names
names_again names fits = ap read_of (whole_again record_fault (list_at string_at) (list counted_bytes) (FitsList IsString) names_law names fits)

-- ---- the first of them

from_field : (s : Input) (o : Option (List ℕ)) (name : List ℕ) (t : Input) → counted_of s o ≡ Ok (name, t) → o ≡ Some name
from_field s None name t e = absurd cc
from_field s (Some bytes) name t e = ap (λ (p : List ℕ × Input). Some p.0) (ok_is (bytes, past (4 + length bytes) s) (name, t) e)

counted_front : (name rest : List ℕ) → IsCounted name → counted (counted_bytes name ++ rest) ≡ Some name
counted_front name rest few =
    from_field (before (counted_bytes name) 0 rest) (counted (counted_bytes name ++ rest)) name _ (lifted_ok record_fault _ _ ((blob_law record_fault).again name 0 rest few))

nothing : (rest name : List ℕ) → rest ≡ [] → counted rest ≡ Some name → Some name ≡ None
unfolding counted
nothing rest name e is = sym is ∙ ap counted e

abbrev some : List ℕ → Option (List ℕ)
some x = Some x

some_is : (x y : List ℕ) → some x ≡ some y → x ≡ y
some_is x y e = cc

pub none_left : (name rest : List ℕ) (answer : Bool) → IsLeft name rest answer → counted rest ≡ None → false ≡ answer
none_left name rest answer left none = by_names left.names left.fits left.spelled left.same
  where
    by_names : (names : List (List ℕ)) → AllByRecursion IsString names → rest ≡ flat_map counted_bytes names → list_any (bytes_eq name) names ≡ answer → false ≡ answer
    by_names [] fits spelled same = same
    by_names (n ∷ ns) fits spelled same =
        let first : None ≡ some n = sym none ∙ ap counted spelled ∙ counted_front n (flat_map counted_bytes ns) fits.0.0 in absurd cc

-- the first name and what is behind it, where there are names
pub data First (name rest first : List ℕ) (answer : Bool) : Type 0 where
  IsFirst : (ns : List (List ℕ)) → AllByRecursion IsString ns → rest ≡ counted_bytes first ++ flat_map counted_bytes ns → (bytes_eq name first || list_any (bytes_eq name) ns) ≡ answer → First name rest first answer

first_of : (name rest first : List ℕ) (answer : Bool) → IsLeft name rest answer → counted rest ≡ Some first → First name rest first answer
first_of name rest first answer left is = by_names left.names left.fits left.spelled left.same
  where
    by_names : (names : List (List ℕ)) → AllByRecursion IsString names → rest ≡ flat_map counted_bytes names → list_any (bytes_eq name) names ≡ answer → First name rest first answer
    by_names [] fits spelled same = let none = nothing rest first spelled is in absurd cc
    by_names (n ∷ ns) fits spelled same =
        let is_n : n ≡ first = some_is n first (sym (counted_front n (flat_map counted_bytes ns) fits.0.0) ∙ ap counted (sym spelled) ∙ is) in
        IsFirst ns fits.1 (spelled ∙ ap (λ (x : List ℕ). counted_bytes x ++ flat_map counted_bytes ns) is_n) (ap (λ (x : List ℕ). bytes_eq name x || list_any (bytes_eq name) ns) (sym is_n) ∙ same)

pub found_first : (name rest first : List ℕ) (answer : Bool) → IsLeft name rest answer → counted rest ≡ Some first → bytes_eq name first ≡ true → true ≡ answer
found_first name rest first answer left is same = by_first (first_of name rest first answer left is)
  where
    by_first : First name rest first answer → true ≡ answer
    by_first (IsFirst ns fits spelled any) = sym (ap (λ b. b || list_any (bytes_eq name) ns) same) ∙ any

pub left_behind : (name rest first more : List ℕ) (answer : Bool) → IsLeft name rest answer → counted rest ≡ Some first → more ≡ drop (4 + length first) rest → bytes_eq name first ≡ false → IsLeft name more answer
left_behind name rest first more answer left is behind other = by_first (first_of name rest first answer left is)
  where
    by_first : First name rest first answer → IsLeft name more answer
    by_first (IsFirst ns fits spelled any) = record {
      names = ns;
      fits = fits;
      spelled = behind ∙ ap (drop (4 + length first)) spelled ∙ drop_at (counted_bytes first) (flat_map counted_bytes ns) (4 + length first) (length-counted first);
      same = sym (ap (λ b. b || list_any (bytes_eq name) ns) other) ∙ any;
    }

-- ---- how many there are

pub names_behind : (bytes : List ℕ) (names : List (List ℕ)) → bytes ≡ list counted_bytes names → (4 ≤ length bytes) × (drop 4 bytes ≡ flat_map counted_bytes names)
names_behind bytes names e = (
  subst (λ (b : List ℕ). 4 ≤ length b) (sym e) (omega (arith, length-append (little 4 (length names)) (flat_map counted_bytes names), length-little 4 (length names))),
  ap (drop 4) e ∙ drop_at (little 4 (length names)) (flat_map counted_bytes names) 4 (length-little 4 (length names)),
)

pub names_empty : (bytes : List ℕ) (names : List (List ℕ)) → bytes ≡ list counted_bytes names → (length bytes == 4) ≡ (length names == 0)
names_empty bytes names e = ap (λ (b : List ℕ). length b == 4) e ∙ by_names names
  where
    by_names : (names : List (List ℕ)) → (length (list counted_bytes names) == 4) ≡ (length names == 0)
    by_names [] =
        let four : length (list counted_bytes []) ≡ 4 = omega (arith, length-append (little 4 0) [], length-little 4 0) in
        eq-eqb (length (list counted_bytes [])) 4 four ∙ sym (eq-eqb 0 0 refl)
    by_names (n ∷ ns) =
        let more : 8 ≤ length (list counted_bytes (n ∷ ns)) = omega (arith, length-append (little 4 (length (n ∷ ns))) (flat_map counted_bytes (n ∷ ns)), length-little 4 (length (n ∷ ns)), length-append (counted_bytes n) (flat_map counted_bytes ns), length-counted n) in
        ne_eqb (length (list counted_bytes (n ∷ ns))) 4 (λ e. omega (arith, e, more)) ∙ sym (ne_eqb (length (n ∷ ns)) 0 (λ e. omega (arith, e)))

-- ---- of bytes that spell names

pub is_spelled : (bytes : List ℕ) → IsSome (names_read bytes) → names_read bytes ≡ Some (names_in bytes)
is_spelled bytes there = is_read (names_read bytes) [] there

pub spelled_bytes : (bytes : List ℕ) → SpellNames bytes → bytes ≡ list counted_bytes (names_in bytes)
spelled_bytes bytes is = (names_so bytes (names_in bytes) is.0 is.1).1

pub spelled_fits : (bytes : List ℕ) → SpellNames bytes → FitsList IsString (names_in bytes)
spelled_fits bytes is = (names_so bytes (names_in bytes) is.0 is.1).0

pub is_empty : (bytes : List ℕ) → SpellNames bytes → (length bytes == 4) ≡ (length (names_in bytes) == 0)
is_empty bytes is = names_empty bytes (names_in bytes) (spelled_bytes bytes is)

pub behind_count : (bytes : List ℕ) → SpellNames bytes → 4 ≤ length bytes
behind_count bytes is = (names_behind bytes (names_in bytes) (spelled_bytes bytes is)).0

pub names_from_4 : (bytes : List ℕ) → SpellNames bytes → drop 4 bytes ≡ flat_map counted_bytes (names_in bytes)
names_from_4 bytes is = (names_behind bytes (names_in bytes) (spelled_bytes bytes is)).1
