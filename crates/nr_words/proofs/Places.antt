-- What clap makes of plain words at the places of one form.
use Rattle.std.proofs.Common.{◌≡◌, ◌≢◌, ◌⊎◌, ◌<◌, ◌≤◌, ◌+◌, ◌&&◌, ◌||◌, ◌==◌, ℕ, Bool, true, false, cond, not, List, [], ◌∷◌, ◌++◌, Option, Some, None, find, fold, length, map, min, option_and_then, slice_get, refl, sym, ap, ap₂, subst, ◌∙◌, append_assoc, append-nil, true≢false, arith, inl, inr, leb, suc}
use Rattle.std.specs.List.{list_all, list_any}
use Rattle.std.specs.Option.{option_map_or}
use Rattle.std.specs.Str.{bytes_eq}
use Rattle.std.proofs.lemmas.Bool.{eq-eqb, eqb-true, leb-true, not-true}
use Rattle.std.proofs.Math.Nat.{le-min, min-eq_left, min-le_right}
use Rattle.std.proofs.lemmas.List.{length-map}
use Rattle.std.proofs.lemmas.Slice.Eq.{bytes_eq-Decides}
use mathlib.Core.Bool.{and-false, or-true}
use Rattle.clap.specs.Lexer.{usize_max}
use Rattle.clap.specs.Kinds.{Kinds, or_else}
use Rattle.clap.specs.Faults.{check_fault, default_fault, defaults_fault, positional_fault, settle_fault, step_fault, stray_fault, use_fault}
use Rattle.clap.specs.Simple.{Shape, built_leaf, filled, filled_from, inherited, with_index}
use Rattle.clap.specs.Facts.{explicit_source}
use Rattle.clap.specs.Takes.{is_given}
use Rattle.clap.specs.Walk.{Held, Row, Rule, Text, Walk, arg_by_id, arg_by_index, finished, has_row, idle, is_pending, nothing_held, pushed, reading_by, rows_after, settled, settled_rows, to_positional, used, used_by_id, value, walk_from, with_default, with_values, without}
use Rattle.clap.specs.declared.error.kind.ErrorKind.{ErrorKind}
use Rattle.clap.specs.declared.error.kind.ErrorKind.TheVariants.{InvalidSubcommand, MissingRequiredArgument, UnknownArgument}
use Rattle.clap.specs.declared.parser.matches.ValueSource.TheVariants.{CommandLine}
use Rattle.nr_words.specs.Forms.{Form, Place, Value, are_distinct, before, is_form, is_plain, name_of, place_value, values}
use Rattle.nr_words.specs.Parsing.{form_app, forms_app, values_by, word_rule}
use Rattle.nr_words.proofs.Both.{both_left, both_right, cond-same, either_left, either_right}
use Rattle.nr_words.proofs.Plain.{form_fails, form_fault, form_rows, placed, placed_fault}

-- ---- the rules of names from position i on, as they are built
abbrev rule : ℕ → Text → Rule
rule i name = with_index i (filled (word_rule name))

abbrev pub after : ℕ → ℕ
after i = min (i + 1) usize_max

abbrev pub rules : ℕ → List Text → List Rule
rules i names = filled_from i (map word_rule names)

-- each name is found by its position and by itself, and nothing is behind them
abbrev Known : List Rule → ℕ → List Text → Type 0
Known c i [] = arg_by_index c i ≡ None
Known c i (n ∷ ns) = (arg_by_index c i ≡ Some (rule i n)) × (arg_by_id c n ≡ Some (rule i n)) × Known c (after i) ns

same_text : (n : Text) → bytes_eq n n ≡ true
same_text n = (bytes_eq-Decides n n).1 refl

other_number : (i j : ℕ) → i < j → (i == j) ≡ false
other_number i j less = go (i == j) refl
  where
    go : (t : Bool) → (i == j) ≡ t → t ≡ false
    go true is = let same : i ≡ j = eqb-true i j is in absurd (omega (arith, same, less))
    go false is = refl

after-is : (i : ℕ) → i < usize_max → after i ≡ i + 1
after-is i less = min-eq_left (omega (arith, less))

after_small : (i : ℕ) → after i ≤ usize_max
after_small i = min-le_right (i + 1) usize_max

-- a position below one that is in range stays below the next
stays_below : (i j : ℕ) → i < j → j ≤ usize_max → i < after j
stays_below i j less most =
    let next : suc i ≤ j + 1 = omega (arith, less) in
    let last : suc i ≤ usize_max = omega (arith, less, most) in
    let both : suc i ≤ after j = le-min next last in
    omega (arith, both)

-- a rule before them hides none of them
hides_none : (c : List Rule) (i j : ℕ) (n : Text) (ns : List Text) → i < j → j ≤ usize_max → list_any (bytes_eq n) ns ≡ false → Known c j ns → Known (rule i n ∷ c) j ns
hides_none c i j n [] less most other known = rw (other_number i j less) known
hides_none c i j n (m ∷ ms) less most other known =
    let later : i < after j = stays_below i j less most in (
      rw (other_number i j less) known.0,
      rw (either_left (bytes_eq n m) (list_any (bytes_eq n) ms) other) known.1,
      hides_none c i (after j) n ms later (after_small j) (either_right (bytes_eq n m) (list_any (bytes_eq n) ms) other) known.2,
    )

knows : (i : ℕ) (names : List Text) → i + length names ≤ usize_max → are_distinct names ≡ true → Known (rules i names) i names
knows i [] few differ = refl
knows i (n ∷ ns) few differ =
    let room : i < usize_max = omega (arith, few) in
    let less : i < after i = subst (λ k. i < k) (sym (after-is i room)) (omega arith) in
    let rest : (i + 1) + length ns ≤ usize_max = omega (arith, few) in
    let fewer : after i + length ns ≤ usize_max = subst (λ k. k + length ns ≤ usize_max) (sym (after-is i room)) rest in
    let other : list_any (bytes_eq n) ns ≡ false = not-true (list_any (bytes_eq n) ns) (both_left (not (list_any (bytes_eq n) ns)) (are_distinct ns) differ) in (
      rw (eq-eqb i i refl) refl,
      rw (same_text n) refl,
      hides_none (rules (after i) ns) i (after i) n ns less (after_small i) other (knows (after i) ns fewer (both_right (not (list_any (bytes_eq n) ns)) (are_distinct ns) differ)),
    )

few_enough : (n : ℕ) → leb n 100 ≡ true → 1 + n ≤ usize_max
few_enough n few = let le : n ≤ 100 = leb-true n 100 few in omega (arith, le)

-- ---- rows
abbrev row : Text → Text → Row
row name word = record { id = name; values = word ∷ []; count = None; source = Some CommandLine; reading = reading_by (rule 1 name) }

-- a row for each name that has a word
abbrev filled_rows : List Text → List Text → List Row
filled_rows [] words = []
filled_rows (n ∷ ns) [] = []
filled_rows (n ∷ ns) (word ∷ words) = row n word ∷ filled_rows ns words

-- none of the rows is one of the names, which differ
abbrev AreFresh : List Row → List Text → Type 0
AreFresh rows [] = Unit {0}
AreFresh rows (n ∷ ns) = (has_row n rows ≡ false) × (list_any (bytes_eq n) ns ≡ false) × AreFresh rows ns

fresh : (names : List Text) → are_distinct names ≡ true → AreFresh [] names
fresh [] e = tt
fresh (n ∷ ns) e = (refl, not-true (list_any (bytes_eq n) ns) (both_left (not (list_any (bytes_eq n) ns)) (are_distinct ns) e), fresh ns (both_right (not (list_any (bytes_eq n) ns)) (are_distinct ns) e))

no_row : (rows : List Row) (n m word : Text) → has_row m rows ≡ false → bytes_eq n m ≡ false → has_row m (rows ++ row n word ∷ []) ≡ false
no_row [] n m word none other = rw other refl
no_row (r ∷ rs) n m word none other = rw (either_left (bytes_eq r.id m) (has_row m rs) none) (no_row rs n m word (either_right (bytes_eq r.id m) (has_row m rs) none) other)

still_fresh : (rows : List Row) (n word : Text) (names : List Text) → list_any (bytes_eq n) names ≡ false → AreFresh rows names → AreFresh (rows ++ row n word ∷ []) names
still_fresh rows n word [] other f = tt
still_fresh rows n word (m ∷ ms) other f =
    (no_row rows n m word f.0 (either_left (bytes_eq n m) (list_any (bytes_eq n) ms) other), f.1, still_fresh rows n word ms (either_right (bytes_eq n m) (list_any (bytes_eq n) ms) other) f.2)

without_none : (n : Text) (rows : List Row) → has_row n rows ≡ false → without n rows ≡ rows
without_none n [] none = refl
without_none n (r ∷ rs) none = rw (either_left (bytes_eq r.id n) (has_row n rs) none) (ap (λ (xs : List Row). r ∷ xs) (without_none n rs (either_right (bytes_eq r.id n) (has_row n rs) none)))

added : (n word : Text) (rows : List Row) → has_row n rows ≡ false → with_values n (reading_by (rule 1 n)) CommandLine (word ∷ []) rows ≡ rows ++ row n word ∷ []
added n word [] none = refl
added n word (r ∷ rs) none = rw (either_left (bytes_eq r.id n) (has_row n rs) none) (ap (λ (xs : List Row). r ∷ xs) (added n word rs (either_right (bytes_eq r.id n) (has_row n rs) none)))

uses : (i : ℕ) (n word : Text) (rows : List Row) → has_row n rows ≡ false → used (rule i n) (word ∷ []) rows ≡ rows ++ row n word ∷ []
uses i n word rows none = ap (with_values n (reading_by (rule 1 n)) CommandLine (word ∷ [])) (without_none n rows none) ∙ added n word rows none

use_passes : (again : Bool) (i : ℕ) (n word : Text) (rows : List Row) → has_row n rows ≡ false → use_fault again (rule i n) (word ∷ []) rows ≡ []
use_passes again i n word rows none = rw none refl

-- ---- the walk over the words
abbrev walk_at : ℕ → Held → Walk
walk_at i h = record { held = h; waiting = idle; position = i; is_trailing = false; stopped = None }

-- what is held comes to these rows, and passes
abbrev ComesTo : List Rule → Bool → Held → List Row → Type 0
ComesTo c again h rows = (settled_rows c h.pending h.rows ≡ rows) × (settle_fault c again h ≡ [])

abbrev pending : List Rule → Text → Text → Held → Held
pending c n word h = record { rows = settled_rows c h.pending h.rows; pending = Some (n, word ∷ []); skip = h.skip }

takes_next : (c : List Rule) (i : ℕ) (n word : Text) (h : Held) → arg_by_index c i ≡ Some (rule i n) → to_positional c (arg_by_index c i) word (walk_at i h) h ≡ walk_at (after i) (pending c n word h)
takes_next c i n word h known =
    ap (λ (o : Option Rule). to_positional c o word (walk_at i h) h) known
    ∙ ap (λ (b : Bool). walk_at (after i) (pushed n word (cond b h (settled c h)))) (and-false (is_pending (rule i n) h.pending))

takes_none : (c : List Rule) (i : ℕ) (word : Text) (h : Held) → arg_by_index c i ≡ None → to_positional c (arg_by_index c i) word (walk_at i h) h ≡ walk_at i h
takes_none c i word h none = ap (λ (o : Option Rule). to_positional c o word (walk_at i h) h) none

comes : (c : List Rule) (again : Bool) (i : ℕ) (n word : Text) (h : Held) (rows : List Row) → arg_by_id c n ≡ Some (rule i n) → has_row n rows ≡ false → ComesTo c again h rows → ComesTo c again (pending c n word h) (rows ++ row n word ∷ [])
comes c again i n word h rows known none to =
    let before : List Row = settled_rows c h.pending h.rows in
    let fresh_before : has_row n before ≡ false = ap (has_row n) to.0 ∙ none in (
      ap (λ (o : Option Rule). used_by_id o (word ∷ []) before) known ∙ uses i n word before fresh_before ∙ ap (λ (xs : List Row). xs ++ row n word ∷ []) to.0,
      ap (λ (o : Option Rule). option_map_or (λ a. use_fault again a (word ∷ []) before) o []) known ∙ use_passes again i n word before fresh_before,
    )

ends : (c : List Rule) (again : Bool) (names : List Text) (i : ℕ) (h : Held) (rows : List Row) (words : List Text) → Known c i names → AreFresh rows names → ComesTo c again h rows → ComesTo c again (placed c (walk_at i h) words).held (rows ++ filled_rows names words)
unfolding placed
ends c again [] i h rows [] known f to = (to.0 ∙ sym (append-nil rows), to.1)
ends c again [] i h rows (word ∷ words) known f to =
    subst (λ (w : Walk). ComesTo c again (placed c w words).held (rows ++ [])) (sym (takes_none c i word h known)) (ends c again [] i h rows words known f to)
ends c again (n ∷ ns) i h rows [] known f to = (to.0 ∙ sym (append-nil rows), to.1)
ends c again (n ∷ ns) i h rows (word ∷ words) known f to =
    let next = ends c again ns (after i) (pending c n word h) (rows ++ row n word ∷ []) words known.2 (still_fresh rows n word ns f.1 f.2) (comes c again i n word h rows known.1 f.0 to) in
    let there : ComesTo c again (placed c (walk_at (after i) (pending c n word h)) words).held (rows ++ row n word ∷ filled_rows ns words) = subst (ComesTo c again (placed c (walk_at (after i) (pending c n word h)) words).held) (append_assoc rows (row n word ∷ []) (filled_rows ns words)) next in
    subst (λ (w : Walk). ComesTo c again (placed c w words).held (rows ++ row n word ∷ filled_rows ns words)) (sym (takes_next c i n word h known.0)) there

-- ---- more words than places, and fewer
abbrev pub is_long : List Text → List Text → Bool
is_long [] [] = false
is_long [] (word ∷ words) = true
is_long (n ∷ ns) [] = false
is_long (n ∷ ns) (word ∷ words) = is_long ns words

abbrev pub is_short : List Text → List Text → Bool
is_short [] words = false
is_short (n ∷ ns) [] = true
is_short (n ∷ ns) (word ∷ words) = is_short ns words

abbrev strays : Bool → Kinds
strays long = cond long (UnknownArgument ∷ []) []

abbrev lacks : Bool → Kinds
lacks short = cond short (MissingRequiredArgument ∷ []) []

abbrev step_by : Shape → Held → Option Rule → Kinds
step_by s h o = option_map_or (λ a. positional_fault s.rules s.args_override_self a h) o (stray_fault s)

walk_fails : (s : Shape) (names : List Text) (i : ℕ) (h : Held) (rows : List Row) (words : List Text) → s.is_leaf ≡ true → Known s.rules i names → AreFresh rows names → ComesTo s.rules s.args_override_self h rows → placed_fault s (walk_at i h) words ≡ strays (is_long names words)
unfolding placed_fault
walk_fails s [] i h rows [] leaf known f to = refl
walk_fails s [] i h rows (word ∷ words) leaf known f to =
    let here : step_fault s i h value ≡ UnknownArgument ∷ [] = ap (step_by s h) known ∙ ap (λ (b : Bool). cond b (UnknownArgument ∷ []) (UnknownArgument ∷ InvalidSubcommand ∷ [])) leaf in
    ap (λ (front : Kinds). or_else front (placed_fault s (to_positional s.rules (arg_by_index s.rules i) word (walk_at i h) h) words)) here
walk_fails s (n ∷ ns) i h rows [] leaf known f to = refl
walk_fails s (n ∷ ns) i h rows (word ∷ words) leaf known f to =
    let quiet : Bool → Kinds = λ b. cond b [] (settle_fault s.rules s.args_override_self h) in
    let here : step_fault s i h value ≡ [] = ap (step_by s h) known.0 ∙ ap quiet (and-false (is_pending (rule i n) h.pending)) ∙ to.1 in
    ap₂ or_else here (ap (λ (w : Walk). placed_fault s w words) (takes_next s.rules i n word h known.0)
    ∙ walk_fails s ns (after i) (pending s.rules n word h) (rows ++ row n word ∷ []) words leaf known.2 (still_fresh rows n word ns f.1 f.2) (comes s.rules s.args_override_self i n word h rows known.1 f.0 to))

-- ---- after the walk
no_default : (rows : List Row) (i : ℕ) (n : Text) → with_default rows (rule i n) ≡ rows
no_default rows i n = cond-same (has_row n rows) rows

no_defaults : (rows : List Row) (i : ℕ) (names : List Text) → fold with_default rows (rules i names) ≡ rows
no_defaults rows i [] = refl
no_defaults rows i (n ∷ ns) = ap (λ (r : List Row). fold with_default r (rules (after i) ns)) (no_default rows i n) ∙ no_defaults rows (after i) ns

defaults_pass : (rows : List Row) (i : ℕ) (names : List Text) → defaults_fault rows (rules i names) ≡ []
unfolding defaults_fault
defaults_pass rows i [] = refl
defaults_pass rows i (n ∷ ns) =
    let here : default_fault rows (rule i n) ≡ [] = rw (or-true (has_row n rows)) refl in
    ap₂ or_else here (defaults_pass (with_default rows (rule i n)) (after i) ns)

found_none : (n : Text) (rows : List Row) → has_row n rows ≡ false → find (λ r. bytes_eq r.id n) (rows ++ []) ≡ None
found_none n [] none = refl
found_none n (r ∷ rs) none = rw (either_left (bytes_eq r.id n) (has_row n rs) none) (found_none n rs (either_right (bytes_eq r.id n) (has_row n rs) none))

found_there : (n word : Text) (rows more : List Row) → has_row n rows ≡ false → find (λ r. bytes_eq r.id n) (rows ++ row n word ∷ more) ≡ Some (row n word)
found_there n word [] more none = rw (same_text n) refl
found_there n word (r ∷ rs) more none = rw (either_left (bytes_eq r.id n) (has_row n rs) none) (found_there n word rs more (either_right (bytes_eq r.id n) (has_row n rs) none))

abbrev is_there : Option Row → Bool
is_there o = option_map_or (λ r. explicit_source r.source) o false

abbrev is_missing : List Row → Rule → Bool
is_missing rows a = a.required && not (is_given a.id rows)

misses : (names words : List Text) (i : ℕ) (rows : List Row) → AreFresh rows names → list_any (is_missing (rows ++ filled_rows names words)) (rules i names) ≡ is_short names words
misses [] words i rows f = refl
misses (n ∷ ns) [] i rows f = ap (λ (o : Option Row). not (is_there o) || list_any (is_missing (rows ++ [])) (rules (after i) ns)) (found_none n rows f.0)
misses (n ∷ ns) (word ∷ words) i rows f =
    ap (λ (o : Option Row). not (is_there o) || list_any (is_missing (rows ++ row n word ∷ filled_rows ns words)) (rules (after i) ns)) (found_there n word rows (filled_rows ns words) f.0)
    ∙ (ap (λ (r : List Row). list_any (is_missing r) (rules (after i) ns)) (sym (append_assoc rows (row n word ∷ []) (filled_rows ns words)))
    ∙ misses ns words (after i) (rows ++ row n word ∷ []) (still_fresh rows n word ns f.1 f.2))

-- ---- values
abbrev names_in : List Place → List Text
names_in = map name_of

abbrev first_word : Row → Option Text
first_word r = slice_get r.values 0

valued : (places : List Place) (words : List Text) (rows : List Row) → AreFresh rows (names_in places) → is_long (names_in places) words ≡ false → values_by places (rows ++ filled_rows (names_in places) words) ≡ values places words
valued [] [] rows f fits = refl
valued [] (word ∷ words) rows f fits = absurd (true≢false fits)
valued (p ∷ ps) [] rows f fits = ap (λ (o : Option Row). before (option_and_then (place_value p) (option_and_then first_word o)) (values_by ps (rows ++ []))) (found_none (name_of p) rows f.0)
valued (p ∷ ps) (word ∷ words) rows f fits =
    ap (λ (o : Option Row). before (option_and_then (place_value p) (option_and_then first_word o)) (values_by ps (rows ++ row (name_of p) word ∷ filled_rows (names_in ps) words))) (found_there (name_of p) word rows (filled_rows (names_in ps) words) f.0)
    ∙ (ap (before (place_value p word)) (ap (values_by ps) (sym (append_assoc rows (row (name_of p) word ∷ []) (filled_rows (names_in ps) words)))
    ∙ valued ps words (rows ++ row (name_of p) word ∷ []) (still_fresh rows (name_of p) word (names_in ps) f.1 f.2) fits))

before-none : (v : Option Value) → before v None ≡ None
before-none None = refl
before-none (Some v) = refl

long_none : (places : List Place) (words : List Text) → is_long (names_in places) words ≡ true → values places words ≡ None
long_none [] [] long = absurd (true≢false (sym long))
long_none [] (word ∷ words) long = refl
long_none (p ∷ ps) [] long = refl
long_none (p ∷ ps) (word ∷ words) long = ap (before (place_value p word)) (long_none ps words long) ∙ before-none (place_value p word)

short_none : (places : List Place) (words : List Text) → is_short (names_in places) words ≡ true → values places words ≡ None
short_none [] words short = absurd (true≢false (sym short))
short_none (p ∷ ps) [] short = refl
short_none (p ∷ ps) (word ∷ words) short = ap (before (place_value p word)) (short_none ps words short) ∙ before-none (place_value p word)

-- ---- the words are read, and what is found gives it; or they are none, and there is a fault
abbrev pub Reads : {A : Type 0} → Kinds → Option A → Option A → Type 0
Reads fault found meant = ((fault ≡ []) × (found ≡ meant)) ⊎ ((meant ≡ None) × (fault ≢ []))

some_kind : (k : ErrorKind) (ks : Kinds) → k ∷ ks ≢ []
some_kind k ks e = let bad : 1 ≡ 0 = ap (λ (xs : Kinds). length (kept xs)) e in absurd (omega (arith, bad))
  where
    kept : Kinds → List ℕ
    kept [] = []
    kept (x ∷ xs) = 0 ∷ []

pub fails : {A : Type 0} (fault : Kinds) (found meant : Option A) (k : ErrorKind) (ks : Kinds) → meant ≡ None → fault ≡ k ∷ ks → Reads fault found meant
fails fault found meant k ks none is = inr (none, λ e. some_kind k ks (sym is ∙ e))

-- ---- a form, as it is built
abbrev pub leaf : Form → Shape
leaf form = built_leaf (inherited (forms_app []).top (form_app form).top)

module _ (form : Form) (words : List Text) (good : is_form form ≡ true) (plain : list_all is_plain words ≡ true) where
  abbrev names : List Text
  names = names_in form.places

  abbrev rows : List Row
  rows = filled_rows names words

  abbrev end : Walk
  end = placed (leaf form).rules (walk_from nothing_held) words

  differ : are_distinct names ≡ true
  differ = both_left (are_distinct names) (leb (length form.places) 100) good

  known : Known (leaf form).rules 1 names
  known = knows 1 names (few_enough (length names) (ap (λ n. leb n 100) (length-map form.places name_of) ∙ both_right (are_distinct names) (leb (length form.places) 100) good)) differ

  to : ComesTo (leaf form).rules (leaf form).args_override_self end.held rows
  to = ends (leaf form).rules (leaf form).args_override_self names 1 nothing_held [] words known (fresh names differ) (refl, refl)

  rows_are : finished (leaf form).rules end.held ≡ rows
  rows_are = no_defaults (settled (leaf form).rules end.held).rows 1 names ∙ to.0

  fault_is : form_fault (leaf form) words ≡ or_else (strays (is_long names words)) (lacks (is_short names words))
  fault_is =
      form_fails (leaf form) words plain
      ∙ ap₂ or_else (walk_fails (leaf form) names 1 nothing_held [] words refl known (fresh names differ) (refl, refl))
      (ap₂ or_else to.1
      (ap₂ or_else (defaults_pass (settled (leaf form).rules end.held).rows 1 names)
      (ap (λ (r : List Row). check_fault (leaf form) r false) rows_are ∙ ap lacks (misses names words 1 [] (fresh names differ)))))

  pub form_reads : Reads (form_fault (leaf form) words) (values_by form.places (rows_after (leaf form).rules [] words)) (values form.places words)
  form_reads = go (is_long names words) (is_short names words) refl refl
    where
      go : (long short : Bool) → is_long names words ≡ long → is_short names words ≡ short → Reads (form_fault (leaf form) words) (values_by form.places (rows_after (leaf form).rules [] words)) (values form.places words)
      go true short is_l is_s = fails _ _ _ UnknownArgument [] (long_none form.places words is_l) (fault_is ∙ ap (λ b. or_else (strays b) (lacks (is_short names words))) is_l)
      go false true is_l is_s = fails _ _ _ MissingRequiredArgument [] (short_none form.places words is_s) (fault_is ∙ ap₂ (λ l s. or_else (strays l) (lacks s)) is_l is_s)
      go false false is_l is_s =
          inl (
            fault_is ∙ ap₂ (λ l s. or_else (strays l) (lacks s)) is_l is_s,
            ap (values_by form.places) (form_rows (leaf form) words plain ∙ rows_are) ∙ valued form.places words [] (fresh names differ) is_l,
          )
