-- How reading goes on: what stands before the reader, with whatever is read from it on, is what the whole is.
use Rattle.std.proofs.Common.{◌≡◌, ℕ, ◌-◌, ◌<◌, ◌≤◌, List, [], ◌∷◌, ◌++◌, length, Option, Some, None, refl, sym, ap, ◌∙◌}
use Rattle.std.proofs.Common.{option_map, option_and_then, append_assoc}
use Rattle.std.proofs.lemmas.List.{append-nil}
use Rattle.json.specs.Lex.{tokens}
use Rattle.json.specs.Token.{Token}
use Rattle.json.specs.Json as json
use Rattle.json.specs.Json.{Parse, parse_map, after_end_array, read_key, items, members, if_last}
use Rattle.json.proofs.Grammar.{items_end, items_more, members_end, members_more}
use Rattle.serde_json.specs.Data.{Data, item, Members, no_members, put}
use Rattle.serde_json.specs.Read.{of_json, of_items, of_members, read}
use Rattle.serde_json.specs.View.{items_of}

-- ---- lists

-- ds came before ts: any items that are read from there come behind them
abbrev pub ItemsLead : Parse json.Json → List Token → List Data → ℕ → List Token → Type 0
ItemsLead p start ds n ts =
    (more : json.Items) (rest : List Data) (left : List Token) → items p n ts ≡ Some (more, left) → of_items more ≡ Some (items_of rest)
    → (whole : json.Items) × (items p (length start) start ≡ Some (whole, left)) × (of_items whole ≡ Some (items_of (ds ++ rest)))

pub items_begin : (p : Parse json.Json) (start : List Token) → ItemsLead p start [] (length start) start
items_begin p start more rest left e is = (more, e, is)

pub one_more_item : (p : Parse json.Json) (start ts r : List Token) (ds : List Data) (n : ℕ) (j : json.Json) (d : Data) → 0 < n → after_end_array ts ≡ None → p ts ≡ Some (j, r) → of_json j ≡ Some d
    → ItemsLead p start ds n ts → ItemsLead p start (ds ++ d ∷ []) (n - 1) r
one_more_item p start ts r ds n j d some going one is lead more rest left e others =
    let found : of_items (json.item j more) ≡ Some (items_of (d ∷ rest)) =
    ap (option_and_then (λ (x : Data). option_map (item x) (of_items more))) is ∙ ap (option_map (item d)) others in
    let last = lead (json.item j more) (d ∷ rest) left (items_more p n ts r j some going one ∙ ap (parse_map (json.item j)) e) found in
    (last.0, last.1, last.2 ∙ ap (λ (xs : List Data). Some (items_of xs)) (sym (append_assoc ds (d ∷ []) rest)))

pub items_over : (p : Parse json.Json) (start ts r : List Token) (ds : List Data) (n : ℕ) → length ts ≤ n → after_end_array ts ≡ Some r → ItemsLead p start ds n ts
    → (whole : json.Items) × (items p (length start) start ≡ Some (whole, r)) × (of_items whole ≡ Some (items_of ds))
items_over p start ts r ds n enough over lead =
    let last = lead json.no_items [] r (items_end p n ts r enough over) refl in
    (last.0, last.1, last.2 ∙ ap (λ (xs : List Data). Some (items_of xs)) (append-nil ds))

-- ---- members

-- these are the members before ts: any that are read from there are put into them
abbrev pub MembersLead : Parse json.Json → List Token → Members → ℕ → List Token → Type 0
MembersLead p start old n ts =
    (more : json.Members) (all : Members) (left : List Token) → members p n ts ≡ Some (more, left) → of_members more old ≡ Some all
    → (whole : json.Members) × (members p (length start) start ≡ Some (whole, left)) × (of_members whole no_members ≡ Some all)

pub members_begin : (p : Parse json.Json) (start : List Token) → MembersLead p start no_members (length start) start
members_begin p start more all left e is = (more, e, is)

pub one_more_member : (p : Parse json.Json) (start ts s r : List Token) (old : Members) (n : ℕ) (k : List ℕ) (j : json.Json) (d : Data) → 0 < n → read_key ts ≡ Some (Some k, s) → p s ≡ Some (j, r) → of_json j ≡ Some d
    → MembersLead p start old n ts → MembersLead p start (put k d old) (n - 1) r
one_more_member p start ts s r old n k j d some key one is lead more all left e others =
    let found : of_members (json.member k j more) old ≡ Some all = ap (option_and_then (λ (x : Data). of_members more (put k x old))) is ∙ others in
    lead (json.member k j more) all left (members_more p n k ts s r j some key one ∙ ap (parse_map (json.member k j)) e) found

pub members_over : (p : Parse json.Json) (start ts r : List Token) (old : Members) (n : ℕ) → length ts ≤ n → read_key ts ≡ Some (None, r) → MembersLead p start old n ts
    → (whole : json.Members) × (members p (length start) start ≡ Some (whole, r)) × (of_members whole no_members ≡ Some old)
members_over p start ts r old n enough over lead = lead json.no_members old r (members_end p n ts r enough over) refl

-- ---- the whole text
abbrev value_then : Option (json.Json × List Token) → Option Data
value_then o = option_and_then of_json (option_and_then (λ q. if_last q.0 q.1) o)

pub text_read : (text : List ℕ) (ts left : List Token) (j : json.Json) (d : Data) → ts ≡ tokens text → left ≡ [] → json.value 127 ts ≡ Some (j, left) → of_json j ≡ Some d → read text ≡ Some d
text_read text ts left j d is over e one =
    let whole : json.value 127 (tokens text) ≡ Some (j, []) = ap (json.value 127) (sym is) ∙ e ∙ ap (λ (rest : List Token). Some (j, rest)) over in
    ap value_then whole ∙ one
