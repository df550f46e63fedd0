-- Texts that are listed, each once, are held.
use Rattle.std.proofs.Common.{◌≡◌, ℕ, Bool, true, false, cond, List, [], ◌∷◌, Option, Some, None, refl, sym, ap, subst, ◌∙◌}
use Rattle.std.specs.Prelude.{is_some, fold}
use Rattle.std.specs.List.{AllByRecursion}
use Rattle.std.specs.FinMap.{empty, get, insert, get-insert}
use Rattle.std.specs.Ordering.{eq_by_cmp}
use Rattle.std.specs.Cmp.Lexicographic.{nat_list_cmp_total}
use Rattle.std.proofs.lemmas.Cmp.{eq_by_cmp_equiv}
use Rattle.nr_store.proofs.Held.{R}
use Rattle.nr_triedef.specs.Node.{digest}
use Rattle.nr_triedef.specs.Root.{Contents}
use Rattle.nr_walk.specs.Texts.{with_text, texts_of}
use Rattle.nr_walk.specs.Tries.{IsOwn}
use Rattle.nr_gather.specs.Gathered.{once}

-- something is held under the hash of the text
abbrev pub IsHeld : Contents → List ℕ → Type 0
IsHeld m text = is_some (get m (digest text).0) ≡ true

-- ---- the same are held as if each stood as often as it did
same_held : (held : Contents) (texts : List (List ℕ)) → fold with_text held (once held texts) ≡ fold with_text held texts
same_held held [] = refl
same_held held (text ∷ texts) =
    elim (is_some (get held (digest text).0)) as (λ b. is_some (get held (digest text).0) ≡ b → fold with_text held (cond b (once held texts) (text ∷ once (with_text held text) texts)) ≡ fold with_text (with_text held text) texts) [
      | true ↦ λ e. let with : with_text held text ≡ held = ap (λ b. cond b held (insert held (digest text).0 text)) e in
          same_held held texts ∙ ap (λ (m : Contents). fold with_text m texts) (sym with)
      | false ↦ λ e. same_held (with_text held text) texts
    ] refl

-- ---- what was held stays held, and each of them is held
still : (held : Contents) (text h : List ℕ) → is_some (get held h) ≡ true → is_some (get (with_text held text) h) ≡ true
still held text h e =
    elim (is_some (get held (digest text).0)) as (λ b. is_some (get (cond b held (insert held (digest text).0 text)) h) ≡ true) [
      | true ↦ e
      | false ↦ ap is_some (get-insert nat_list_cmp_total held (digest text).0 text h) ∙ either (eq_by_cmp R h (digest text).0)
    ]
  where
    either : (b : Bool) → is_some (cond b (Some text) (get held h)) ≡ true
    either true = refl
    either false = e

now_held : (held : Contents) (text : List ℕ) → IsHeld (with_text held text) text
now_held held text =
    elim (is_some (get held (digest text).0)) as (λ b. is_some (get held (digest text).0) ≡ b → is_some (get (cond b held (insert held (digest text).0 text)) (digest text).0) ≡ true) [
      | true ↦ λ e. e
      | false ↦ λ e. ap is_some (get-insert nat_list_cmp_total held (digest text).0 text (digest text).0) ∙ ap (λ b. is_some (cond b (Some text) (get held (digest text).0))) ((eq_by_cmp_equiv nat_list_cmp_total).refl (digest text).0)
    ] refl

all_still : (held : Contents) (texts : List (List ℕ)) (h : List ℕ) → is_some (get held h) ≡ true → is_some (get (fold with_text held texts) h) ≡ true
all_still held [] h e = e
all_still held (text ∷ texts) h e = all_still (with_text held text) texts h (still held text h e)

all_held : (held : Contents) (texts : List (List ℕ)) → AllByRecursion (IsHeld (fold with_text held texts)) texts
all_held held [] = tt
all_held held (text ∷ texts) = (all_still (with_text held text) texts (digest text).0 (now_held held text), all_held (with_text held text) texts)

-- each of the texts is held where they are listed once
pub once_all : (texts : List (List ℕ)) → AllByRecursion (IsHeld (texts_of (once empty texts))) texts
unfolding texts_of
once_all texts = subst (λ (m : Contents). AllByRecursion (IsHeld m) texts) (sym (same_held empty texts)) (all_held empty texts)

-- what is held there, where it is nothing else, is the text
pub is_own : (m : Contents) (text : List ℕ) → IsHeld m text → IsOwn m text → get m (digest text).0 ≡ Some text
is_own m text h own =
    elim (get m (digest text).0) as (λ (o : Option (List ℕ)). get m (digest text).0 ≡ o → is_some o ≡ true → o ≡ Some text) [
      | None ↦ λ e is. absurd (nothing is)
      | Some held ↦ λ e is. ap (λ (t : List ℕ). Some t) (own held e)
    ] refl h
  where
    nothing : false ≡ true → ⊥
    nothing e = absurd cc
