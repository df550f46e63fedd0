-- What a store over nodes stands for after a call.
use Rattle.std.proofs.Common.{◌≡◌, ℕ, ◌+◌, ◌≤◌, Bool, true, false, cond, List, [], ◌∷◌, length, Option, Some, None, refl, sym, ap, subst, ◌∙◌, arith}
use Rattle.std.specs.Option.{is_some}
use Rattle.std.specs.List.{AllByRecursion}
use Rattle.std.specs.FinMap.{empty, insert, get, entries}
use Rattle.std.proofs.lemmas.List.{nil_from_length}
use Rattle.nr_triedef.specs.Root.{Contents}
use Rattle.nr_trienodes.specs.Merging.{with_value}
use Rattle.nr_trieupdate.specs.Overlays.{kept, over, joined, weight, most_debt, IsLayer}
use Rattle.nr_trieupdate.proofs.Overlays.{picked, get-over, over_put, over_empty, joined_none, most_put, debt_empty}
use Rattle.nr_trieupdate.proofs.Layers.{layers_more, layers_as, listed, layer_put}

-- ---- a look-up
pub found_new : (p b : Contents) (k : List ℕ) (r : Option (List ℕ)) → get p k ≡ None → r ≡ get b k → r ≡ get (over p b) k
found_new p b k r none e = e ∙ sym (get-over p b k ∙ ap (λ o. picked o (get b k)) none)

pub found_held : (p b : Contents) (k held : List ℕ) (r : Option (List ℕ)) → get p k ≡ Some held → r ≡ kept held → r ≡ get (over p b) k
found_held p b k held r some e = e ∙ sym (get-over p b k ∙ ap (λ o. picked o (get b k)) some)

-- ---- a change noted
pub noted_contents : (b p q : Contents) (k held : List ℕ) → q ≡ insert p k held → over q b ≡ with_value (over p b) k (kept held)
noted_contents b p q k held e = ap (λ m. over m b) e ∙ over_put p b k held

pub noted_debt : (p q : Contents) (ms ns : List Contents) (k held : List ℕ) → q ≡ insert p k held → ns ≡ ms → most_debt (q ∷ ns) ≤ most_debt (p ∷ ms) + weight k
noted_debt p q ms ns k held e f = omega (arith, most_put p ms k held, ap most_debt (listed (insert p k held) q ms ns e f))

count_grows : (found : Bool) (count grown : ℕ) → grown ≡ cond found count (count + 1) → count ≤ grown
count_grows true count grown e = omega arith
count_grows false count grown e = omega arith

pub set_layers : (b p q : Contents) (ms ns : List Contents) (k held : List ℕ) (found : Bool) (count grown : ℕ) → q ≡ insert p k held → ns ≡ ms → (found ≡ true → is_some (get (joined p b) k) ≡ true) → grown ≡ cond found count (count + 1) → AllByRecursion (IsLayer b count) (p ∷ ms) → AllByRecursion (IsLayer b grown) (q ∷ ns)
set_layers b p q ms ns k held found count grown e f there g h =
    layers_as (IsLayer b grown) (insert p k held ∷ ms) (q ∷ ns) (listed (insert p k held) q ms ns e f)
    (layer_put b p k held found count grown there g h.0, layers_more b count grown ms (count_grows found count grown g) h.1)

-- ---- all changes moved into the trie: the count is the trie's
pub settled_contents : (b c p q : Contents) → over q c ≡ over p b → q ≡ empty → c ≡ over p b
settled_contents b c p q held e = sym (over_empty q c e) ∙ held

pub settled_count : (b c p q : Contents) (ms : List Contents) (count grown : ℕ) → length (entries (joined q c)) ≤ length (entries (joined p b)) → q ≡ empty → grown ≡ length (entries c) → AllByRecursion (IsLayer b count) (p ∷ ms) → grown ≤ count
settled_count b c p q ms count grown few e is h =
    let same : length (entries (joined q c)) ≡ length (entries c) = ap (λ (m : Contents). length (entries m)) (joined_none q c e) in
    omega (arith, is, same, few, h.0)

pub settled_layers : (c d q : Contents) (ms ns : List Contents) (grown : ℕ) → d ≡ c → q ≡ empty → ms ≡ [] → ns ≡ ms → grown ≡ length (entries c) → AllByRecursion (IsLayer d grown) (q ∷ ns)
settled_layers c d q ms ns grown base e none f is =
    let many : length (entries (joined q d)) ≡ length (entries c) = ap (λ (m : Contents). length (entries m)) (joined_none q d e ∙ base) in
    layers_as (IsLayer d grown) (q ∷ []) (q ∷ ns) (listed q q [] ns refl (f ∙ none)) (omega (arith, is, many), tt)

pub settled_debt : (q : Contents) (ms ns : List Contents) → q ≡ empty → ms ≡ [] → ns ≡ ms → most_debt (q ∷ ns) ≡ 0
settled_debt q ms ns e none f = ap most_debt (listed empty q [] ns e (f ∙ none)) ∙ nothing
  where
    nothing : most_debt (empty ∷ []) ≡ 0
    nothing = omega (arith, debt_empty)

pub nothing_stands : (standing : ℕ) (ms : List Contents) → standing ≡ length ms → standing ≤ 0 → ms ≡ []
nothing_stands standing ms e l = nil_from_length ms (omega arith)

-- ---- the trie under another name
pub same_layers : (p q b c : Contents) (ms ns : List Contents) (count : ℕ) → q ≡ p → ns ≡ ms → c ≡ b → AllByRecursion (IsLayer b count) (p ∷ ms) → AllByRecursion (IsLayer c count) (q ∷ ns)
same_layers p q b c ms ns count e f g h =
    subst (λ (m : Contents). AllByRecursion (IsLayer m count) (q ∷ ns)) (sym g) (layers_as (IsLayer b count) (p ∷ ms) (q ∷ ns) (listed p q ms ns e f) h)
