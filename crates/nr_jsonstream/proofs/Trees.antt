-- A tree over a text, level by level, and the loops that make a value of it.
use Rattle.std.proofs.Common.{◌≡◌, ℕ, ◌+◌, ◌<◌, ◌≤◌, Bool, List, [], ◌∷◌, ◌++◌, length, map, drop, get_or, Option, Some, option_map, option_and_then}
use Rattle.std.proofs.Common.{Vec, BTreeMap, String, Global, Bor, sym, ap, subst, ◌∙◌, append_assoc, arith, rules}
use Rattle.std.proofs.lemmas.List.{append-nil, drop_more, drop_all, map-append}
use Rattle.json.specs.Json as json
use Rattle.json.specs.Tree.{json_tokens, items_tokens, members_tokens}
use Rattle.json.specs.Value as parsed
use Rattle.json.specs.Value.{value_view}
use Rattle.json.specs.declared.value.Value as shape
use Rattle.json.specs.declared.value.Value.{Value as Tree, the_lemmas}
use Rattle.json.proofs.Trees as levels
use Rattle.serde_json.specs.Data.{Data, null, boolean, number, string, array, object, item, Members, no_members, put}
use Rattle.serde_json.specs.Read.{number_of, of_json, of_items, of_members}
use Rattle.serde_json.specs.View.{view, items_of, items_view, members_view}
use Rattle.serde_json.specs.declared.value.Value.{Value, Array, Object}
use Rattle.serde_json.proofs.Views.{Entry, view-Array, view-Object}

-- a member of an object over a text
abbrev pub Pair : Type 0
Pair = Bor (List ℕ) × Tree Global

-- ---- one level
null_level : value_view {A = Global} shape.Null ≡ json.null
null_level = search (rules, the_lemmas)

boolean_level : (b : Bool) → value_view {A = Global} (shape.Bool b) ≡ json.boolean b
boolean_level b = search (rules, the_lemmas)

number_level : (s : Bor (List ℕ)) → value_view {A = Global} (shape.Number s) ≡ json.number s.now
number_level s = search (rules, the_lemmas)

string_level : (s : Bor (List ℕ)) → value_view {A = Global} (shape.String s) ≡ json.string s.now
string_level s = search (rules, the_lemmas)

abbrev taken : Tree Global → Option Data
taken t = of_json (value_view t)

pub of_null : (t : Tree Global) → t ≡ shape.Null → of_json (value_view t) ≡ Some null
of_null t is = ap taken is ∙ ap of_json null_level

pub of_boolean : (t : Tree Global) (b : Bool) → t ≡ shape.Bool b → of_json (value_view t) ≡ Some (boolean b)
of_boolean t b is = ap taken is ∙ ap of_json (boolean_level b)

pub of_number : (t : Tree Global) (s : Bor (List ℕ)) (v : Value) → t ≡ shape.Number s → option_map number (number_of s.now) ≡ Some (view v) → of_json (value_view t) ≡ Some (view v)
of_number t s v is one = ap taken is ∙ ap of_json (number_level s) ∙ one

pub of_string : (t : Tree Global) (s : Bor (List ℕ)) (v : Value) → t ≡ shape.String s → view v ≡ string s.now → of_json (value_view t) ≡ Some (view v)
of_string t s v is one = ap taken is ∙ ap of_json (string_level s) ∙ ap (λ (d : Data). Some d) (sym one)

pub of_array : (t : Tree Global) (js : Vec (Tree Global) Global) (vs : Vec Value Global) → t ≡ shape.Array js → of_items (parsed.items_view js.items) ≡ Some (items_view vs.items) → of_json (value_view t) ≡ Some (view (Array vs))
of_array t js vs is all = ap taken is ∙ ap of_json (levels.view-Array js) ∙ ap (option_map array) all ∙ ap (λ (d : Data). Some d) (sym (view-Array vs))

pub of_object : (t : Tree Global) (ms : Vec Pair Global) (m : BTreeMap (String Global) Value) → t ≡ shape.Object ms → of_members (parsed.members_view ms.items) no_members ≡ Some (members_view m.entries)
    → of_json (value_view t) ≡ Some (view (Object m))
of_object t ms m is all = ap taken is ∙ ap of_json (levels.view-Object ms) ∙ ap (option_map object) all ∙ ap (λ (d : Data). Some d) (sym (view-Object m))

-- ---- what falls
pub list_below : (t : Tree Global) (js : Vec (Tree Global) Global) → t ≡ shape.Array js → length (items_tokens (parsed.items_view js.items)) < length (json_tokens (value_view t))
list_below t js is =
    let seen : value_view t ≡ json.array (parsed.items_view js.items) = ap value_view is ∙ levels.view-Array js in
    subst (λ (j : json.Json). length (items_tokens (parsed.items_view js.items)) < length (json_tokens j)) (sym seen) (omega arith)

pub object_below : (t : Tree Global) (ms : Vec Pair Global) → t ≡ shape.Object ms → length (members_tokens (parsed.members_view ms.items)) < length (json_tokens (value_view t))
object_below t ms is =
    let seen : value_view t ≡ json.object (parsed.members_view ms.items) = ap value_view is ∙ levels.view-Object ms in
    subst (λ (j : json.Json). length (members_tokens (parsed.members_view ms.items)) < length (json_tokens j)) (sym seen) (omega arith)

pub item_below : (xs ys : List (Tree Global)) (i : ℕ) (x : Tree Global) → i < length xs → x ≡ get_or xs i x → xs ≡ ys → length (json_tokens (value_view x)) < length (items_tokens (parsed.items_view ys))
item_below xs ys i x within is same =
    subst (λ (zs : List (Tree Global)). length (json_tokens (value_view x)) < length (items_tokens (parsed.items_view zs))) same
    (subst (λ (y : Tree Global). length (json_tokens (value_view y)) < length (items_tokens (parsed.items_view xs))) (sym is) (levels.item_smaller xs i x within))

pub member_below : (xs ys : List Pair) (i : ℕ) (x : Pair) → i < length xs → x ≡ get_or xs i x → xs ≡ ys → length (json_tokens (value_view x.1)) < length (members_tokens (parsed.members_view ys))
member_below xs ys i x within is same =
    subst (λ (zs : List Pair). length (json_tokens (value_view x.1)) < length (members_tokens (parsed.members_view zs))) same
    (subst (λ (y : Pair). length (json_tokens (value_view y.1)) < length (members_tokens (parsed.members_view xs))) (sym is) (levels.member_smaller xs i x within))

-- ---- lists

-- what was found of the first i items, with what the others are, is what all are
abbrev pub ListSoFar : List (Tree Global) → ℕ → List Value → Type 0
ListSoFar xs i found =
    (rest : List Data) → of_items (parsed.items_view (drop i xs)) ≡ Some (items_of rest) → of_items (parsed.items_view xs) ≡ Some (items_of (map view found ++ rest))

pub list_begins : (xs : List (Tree Global)) (found : List Value) → found ≡ [] → ListSoFar xs 0 found
list_begins xs found none rest e =
    subst (λ (vs : List Value). of_items (parsed.items_view xs) ≡ Some (items_of (map view vs ++ rest))) (sym none) e

pub list_goes_on : (xs : List (Tree Global)) (i : ℕ) (x : Tree Global) (found : List Value) (v : Value) → i < length xs → x ≡ get_or xs i x → of_json (value_view x) ≡ Some (view v)
    → ListSoFar xs i found → ListSoFar xs (i + 1) (found ++ v ∷ [])
list_goes_on xs i x found v within is one so_far rest e =
    let here : drop i xs ≡ x ∷ drop (i + 1) xs = drop_more xs i x within ∙ ap (λ (y : Tree Global). y ∷ drop (i + 1) xs) (sym is) in
    let first : of_items (parsed.items_view (x ∷ drop (i + 1) xs)) ≡ Some (items_of (view v ∷ rest)) =
    ap (option_and_then (λ (d : Data). option_map (item d) (of_items (parsed.items_view (drop (i + 1) xs))))) one ∙ ap (option_map (item (view v))) e in
    let joined : map view (found ++ v ∷ []) ++ rest ≡ map view found ++ view v ∷ rest =
    ap (λ (ds : List Data). ds ++ rest) (map-append view found (v ∷ [])) ∙ append_assoc (map view found) (view v ∷ []) rest in
    so_far (view v ∷ rest) (ap (λ (ys : List (Tree Global)). of_items (parsed.items_view ys)) here ∙ first) ∙ ap (λ (ds : List Data). Some (items_of ds)) (sym joined)

pub list_done : (xs : List (Tree Global)) (i : ℕ) (found : List Value) → length xs ≤ i → ListSoFar xs i found → of_items (parsed.items_view xs) ≡ Some (items_view found)
list_done xs i found past so_far =
    so_far [] (ap (λ (ys : List (Tree Global)). of_items (parsed.items_view ys)) (drop_all i xs past)) ∙ ap (λ (ds : List Data). Some (items_of ds)) (append-nil (map view found))

-- ---- objects

-- the first i members gave old, and the others put into it give what all give
abbrev pub ObjectSoFar : List Pair → ℕ → Members → Type 0
ObjectSoFar xs i old = of_members (parsed.members_view (drop i xs)) old ≡ of_members (parsed.members_view xs) no_members

pub object_begins : (xs : List Pair) (found : List Entry) → found ≡ [] → ObjectSoFar xs 0 (members_view found)
object_begins xs found none = ap (λ (es : List Entry). of_members (parsed.members_view xs) (members_view es)) none

pub object_goes_on : (xs : List Pair) (i : ℕ) (x : Pair) (old : Members) (v : Value) → i < length xs → x ≡ get_or xs i x → of_json (value_view x.1) ≡ Some (view v)
    → ObjectSoFar xs i old → ObjectSoFar xs (i + 1) (put x.0.now (view v) old)
object_goes_on xs i x old v within is one so_far =
    let here : drop i xs ≡ x ∷ drop (i + 1) xs = drop_more xs i x within ∙ ap (λ (y : Pair). y ∷ drop (i + 1) xs) (sym is) in
    let step : of_members (parsed.members_view (x ∷ drop (i + 1) xs)) old ≡ of_members (parsed.members_view (drop (i + 1) xs)) (put x.0.now (view v) old) =
    ap (option_and_then (λ (d : Data). of_members (parsed.members_view (drop (i + 1) xs)) (put x.0.now d old))) one in
    sym (ap (λ (ys : List Pair). of_members (parsed.members_view ys) old) here ∙ step) ∙ so_far

pub object_done : (xs : List Pair) (i : ℕ) (old : Members) → length xs ≤ i → ObjectSoFar xs i old → of_members (parsed.members_view xs) no_members ≡ Some old
object_done xs i old past so_far = sym so_far ∙ ap (λ (ys : List Pair). of_members (parsed.members_view ys) old) (drop_all i xs past)
