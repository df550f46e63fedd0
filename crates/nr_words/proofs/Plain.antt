-- How clap reads words that are plain.
use Rattle.std.proofs.Common.{◌≡◌, ◌==◌, ℕ, Bool, true, false, not, cond, ◌&&◌, List, [], ◌∷◌, ◌++◌, Option, Some, None, codes, fold, refl, sym, ap, ap₂, ◌∙◌, append_assoc, append-nil, true≢false, is_some}
use Rattle.std.specs.List.{list_all}
use Rattle.std.specs.Str.{bytes_eq}
use mathlib.Core.Bool.{and-false}
use Rattle.std.proofs.lemmas.Bool.{not-true}
use Rattle.clap.specs.Kinds.{Kinds, or_else}
use Rattle.clap.specs.Faults.{built_fault, check_fault, defaults_fault, entered_fault, level_fault, settle_fault, step_fault, stray_fault, turn_fault, walk_fault, word_fault}
use Rattle.clap.specs.Simple.{App, Shape, entered, names_of}
use Rattle.clap.specs.Walk.{Held, Names, Rule, Step, Text, Waiting, Walk, after_step, arg_by_index, finished, idle, is_multiple, nothing_held, option, positional, rows_after, settled, subcommand_met, to_positional, value, walk, walk_from, walked, walked_from, word_met}
use Rattle.clap.specs.declared.error.kind.ErrorKind.{ErrorKind}
use Rattle.nr_words.specs.Forms.{is_plain}
use Rattle.nr_words.proofs.Both.{both_left, both_right}

-- ---- one word, where nothing but a positional may take it
abbrev is_option : Waiting → Bool
is_option (option id) = true
is_option idle = false
is_option positional = false

goes_on : (c : List Rule) (is_trailing : Bool) (waiting : Waiting) (i : ℕ) (word : Text) (h : Held) → is_option waiting ≡ false → is_plain word ≡ true → word_met c [] is_trailing waiting i word h ≡ (h, value)
goes_on c t w i [] h ready e = absurd (true≢false (sym e))
goes_on c true w i (x ∷ xs) h ready e = refl
goes_on c false idle i (x ∷ xs) h ready e = rw (not-true (x == 45) e, not-true (x == 45) e) refl
goes_on c false positional i (x ∷ xs) h ready e = rw (not-true (x == 45) e, not-true (x == 45) e) refl
goes_on c false (option id) i (x ∷ xs) h ready e = absurd (true≢false ready)

has_no_fault : (s : Shape) (is_trailing : Bool) (waiting : Waiting) (word : Text) (h : Held) → is_option waiting ≡ false → is_plain word ≡ true → word_fault s [] is_trailing waiting word h ≡ []
has_no_fault s t w [] h ready e = absurd (true≢false (sym e))
has_no_fault s true w (x ∷ xs) h ready e = refl
has_no_fault s false idle (x ∷ xs) h ready e = rw (not-true (x == 45) e, not-true (x == 45) e) refl
has_no_fault s false positional (x ∷ xs) h ready e = rw (not-true (x == 45) e, not-true (x == 45) e) refl
has_no_fault s false (option id) (x ∷ xs) h ready e = absurd (true≢false ready)

abbrev IsReady : Walk → Type 0
IsReady w = (w.stopped ≡ None) × (is_option w.waiting ≡ false)

stays_ready : (c : List Rule) (found : Option Rule) (word : Text) (w : Walk) → IsReady w → IsReady (to_positional c found word w w.held)
stays_ready c None word w ready = ready
stays_ready c (Some a) word w ready = (refl, go (is_multiple a))
  where
    go : (b : Bool) → is_option (cond b positional idle) ≡ false
    go true = refl
    go false = refl

abbrev placed_once : List Rule → Walk → Text → Walk
placed_once c w word = to_positional c (arg_by_index c w.position) word w w.held

walks_once : (c : List Rule) (w : Walk) (word : Text) → IsReady w → is_plain word ≡ true → walked c [] w word ≡ placed_once c w word
unfolding walked
walks_once c w word ready e =
    ap (λ s. walked_from c [] s w word) ready.0
    ∙ ap (λ (m : Held × Step). after_step c word w m.0 m.1) (goes_on c w.is_trailing w.waiting w.position word w.held ready.1 e)

turns_once : (s : Shape) (w : Walk) (word : Text) → IsReady w → is_plain word ≡ true → turn_fault s [] w word ≡ step_fault s w.position w.held value
turns_once s w word ready e =
    let met : Held × Step = word_met s.rules [] w.is_trailing w.waiting w.position word w.held in
    ap (λ (o : Option (Text × List Text)). cond (is_some o) [] (or_else (word_fault s [] w.is_trailing w.waiting word w.held) (step_fault s w.position met.0 met.1))) ready.0
    ∙ ap₂ (λ (k : Kinds) (m : Held × Step). or_else k (step_fault s w.position m.0 m.1))
    (has_no_fault s w.is_trailing w.waiting word w.held ready.1 e)
    (goes_on s.rules w.is_trailing w.waiting w.position word w.held ready.1 e)

-- ---- words that go to the positionals, one after another
unfoldable pub placed : List Rule → Walk → List Text → Walk
placed c w [] = w
placed c w (word ∷ rest) = placed c (to_positional c (arg_by_index c w.position) word w w.held) rest

unfoldable pub placed_fault : Shape → Walk → List Text → Kinds
placed_fault s w [] = []
placed_fault s w (word ∷ rest) = or_else (step_fault s w.position w.held value) (placed_fault s (to_positional s.rules (arg_by_index s.rules w.position) word w w.held) rest)

walks : (c : List Rule) (w : Walk) (words : List Text) → IsReady w → list_all is_plain words ≡ true → fold (walked c []) w words ≡ placed c w words
unfolding placed
walks c w [] ready e = refl
walks c w (word ∷ rest) ready e =
    ap (λ v. fold (walked c []) v rest) (walks_once c w word ready (both_left (is_plain word) (list_all is_plain rest) e))
    ∙ walks c (placed_once c w word) rest (stays_ready c (arg_by_index c w.position) word w ready) (both_right (is_plain word) (list_all is_plain rest) e)

faults : (s : Shape) (w : Walk) (words : List Text) → IsReady w → list_all is_plain words ≡ true → walk_fault s [] w words ≡ placed_fault s w words
unfolding placed_fault walk_fault
faults s w [] ready e = refl
faults s w (word ∷ rest) ready e =
    let plain : is_plain word ≡ true = both_left (is_plain word) (list_all is_plain rest) e in
    ap₂ or_else (turns_once s w word ready plain)
    (ap (λ v. walk_fault s [] v rest) (walks_once s.rules w word ready plain)
    ∙ faults s (placed_once s.rules w word) rest (stays_ready s.rules (arg_by_index s.rules w.position) word w ready) (both_right (is_plain word) (list_all is_plain rest) e))

-- the fault of a form, and its matches, by the walk that it is
abbrev pub fault_by : Shape → Walk → Kinds → Kinds
fault_by s w front = or_else front (or_else (settle_fault s.rules s.args_override_self w.held) (or_else (defaults_fault (settled s.rules w.held).rows s.rules) (check_fault s (finished s.rules w.held) false)))

abbrev pub form_fault : Shape → List Text → Kinds
form_fault s words = level_fault s [] nothing_held words false []

pub form_fails : (s : Shape) (words : List Text) → list_all is_plain words ≡ true → form_fault s words ≡ fault_by s (placed s.rules (walk_from nothing_held) words) (placed_fault s (walk_from nothing_held) words)
form_fails s words e = ap₂ (fault_by s) (walks s.rules (walk_from nothing_held) words (refl, refl) e) (faults s (walk_from nothing_held) words (refl, refl) e)

pub form_rows : (s : Shape) (words : List Text) → list_all is_plain words ≡ true → rows_after s.rules [] words ≡ finished s.rules (placed s.rules (walk_from nothing_held) words).held
form_rows s words e = ap (λ (w : Walk). finished s.rules w.held) (walks s.rules (walk_from nothing_held) words (refl, refl) e)

-- ---- a word that names a form, and all words behind it
abbrev pub entered_at : Held → Text × List Text → Walk
entered_at h p = record { held = h; waiting = idle; position = 1; is_trailing = false; stopped = Some p }

stays_in : (c : List Rule) (names : Names) (h : Held) (name : Text) (words rest : List Text) → fold (walked c names) (entered_at h (name, words)) rest ≡ entered_at h (name, words ++ rest)
unfolding walked
stays_in c names h name words [] = ap (λ (ws : List Text). entered_at h (name, ws)) (sym (append-nil words))
stays_in c names h name words (word ∷ rest) = stays_in c names h name (words ++ word ∷ []) rest ∙ ap (λ (ws : List Text). entered_at h (name, ws)) (append_assoc words (word ∷ []) rest)

passes_in : (s : Shape) (names : Names) (h : Held) (p : Text × List Text) (rest : List Text) → walk_fault s names (entered_at h p) rest ≡ []
unfolding walk_fault walked
passes_in s names h p [] = refl
passes_in s names h p (word ∷ rest) = passes_in s names h (p.0, p.1 ++ word ∷ []) rest

abbrev level_by : App → Walk → Kinds → Kinds
level_by a w front =
    or_else front
    (or_else (entered_fault a w.stopped) (or_else (settle_fault a.top.rules a.top.args_override_self w.held)
    (or_else (defaults_fault (settled a.top.rules w.held).rows a.top.rules)
    (check_fault a.top (finished a.top.rules w.held) (is_some (entered a w.stopped))))))

module _ (a : App) (word name : Text) (rest : List Text) (met : subcommand_met (names_of a) idle word ≡ Some name) where
  enters_once : walked a.top.rules (names_of a) (walk_from nothing_held) word ≡ entered_at nothing_held (name, [])
  unfolding walked
  enters_once = rw met refl

  enters : walk a.top.rules (names_of a) nothing_held (word ∷ rest) ≡ entered_at nothing_held (name, rest)
  enters = ap (λ w. fold (walked a.top.rules (names_of a)) w rest) enters_once ∙ stays_in a.top.rules (names_of a) nothing_held name [] rest

  passes : a.top.disable_help_subcommand ≡ true → walk_fault a.top (names_of a) (walk_from nothing_held) (word ∷ rest) ≡ []
  unfolding walk_fault
  passes no_help =
      let quiet : (bytes_eq name (codes "help") && not a.top.disable_help_subcommand) ≡ false = ap (λ b. bytes_eq name (codes "help") && not b) no_help ∙ and-false (bytes_eq name (codes "help")) in
      let here : turn_fault a.top (names_of a) (walk_from nothing_held) word ≡ [] = rw (met, quiet) refl in
      ap₂ or_else here (ap (λ w. walk_fault a.top (names_of a) w rest) enters_once ∙ passes_in a.top (names_of a) nothing_held (name, []) rest)

  pub entered_fails : a.top.disable_help_subcommand ≡ true → built_fault a nothing_held (word ∷ rest) ≡ level_by a (entered_at nothing_held (name, rest)) []
  entered_fails no_help = ap₂ (level_by a) enters (passes no_help)

  pub entered_matches : entered a (walk a.top.rules (names_of a) nothing_held (word ∷ rest)).stopped ≡ entered a (Some (name, rest))
  entered_matches = ap (λ (w : Walk). entered a w.stopped) enters

-- ---- a word that names no form, where the program has no words of its own
strays : (a : App) (word : Text) → arg_by_index a.top.rules 1 ≡ None → subcommand_met (names_of a) idle word ≡ None → is_plain word ≡ true → turn_fault a.top (names_of a) (walk_from nothing_held) word ≡ stray_fault a.top
strays a [] none met e = absurd (true≢false (sym e))
strays a (x ∷ xs) none met e = rw (met, not-true (x == 45) e, not-true (x == 45) e, none) refl

pub stray_fails : (a : App) (word : Text) (rest : List Text) (k : ErrorKind) (ks : Kinds) → arg_by_index a.top.rules 1 ≡ None → subcommand_met (names_of a) idle word ≡ None → is_plain word ≡ true → stray_fault a.top ≡ k ∷ ks
    → built_fault a nothing_held (word ∷ rest) ≡ k ∷ ks
unfolding walk_fault
stray_fails a word rest k ks none met e stray =
    let w = walk a.top.rules (names_of a) nothing_held (word ∷ rest) in
    let here : turn_fault a.top (names_of a) (walk_from nothing_held) word ≡ k ∷ ks = strays a word none met e ∙ stray in
    ap (λ front. level_by a w (or_else front (walk_fault a.top (names_of a) (walked a.top.rules (names_of a) (walk_from nothing_held) word) rest))) here
