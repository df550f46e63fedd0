-- A chunk that takes lists one after another is that which takes all their receipts in one.
use Rattle.std.proofs.Common.{◌≡◌, ℕ, zero, suc, ◌+◌, ◌-◌, ◌<◌, ◌≤◌, true, List, [], ◌∷◌, ◌++◌, length, Option, Some, None, refl, sym, ap, subst, ◌∙◌, arith, add-one, take}
use Rattle.std.specs.Prelude.{slice_get, unwrap_or}
use Rattle.std.specs.List.{flat_map}
use Rattle.std.proofs.lemmas.List.{append-nil}
use Rattle.std.proofs.lemmas.List.Concat.{flat_map-append}
use Rattle.std.proofs.lemmas.List.Sums.{fold-append, sum_by-append}
use Rattle.nr_chunk.specs.Chain.{Chain, IsChain, kept_tokens, opened, rules_of, working_tokens}
use Rattle.nr_chunk.specs.Chunk.{serve, serve_all}
use Rattle.nr_chunk.specs.Goodness.{AreGood, IsGood}
use Rattle.nr_chunk.specs.Lasting.{good_sent}
use Rattle.nr_chunk.specs.Lawful.{tokens_kept}
use Rattle.nr_chunk.specs.Views.{Kept, Working}
use Rattle.nr_config.specs.Config.{Config}
use Rattle.nr_fees.specs.Fees.{receipt_tokens}
use Rattle.nr_extract.specs.Chunk.{before, due_lists, due_to}
use Rattle.nr_overlap.specs.Rules.{Rules}
use Rattle.nr_overlap.specs.Serial.{due_after, list_to, sealing_at, with_list, work}
use Rattle.nr_overlap.proofs.Basics.{each_append, take_next}
use Rattle.nr_overlap.proofs.DueLemmas.{due_at, first_small}
use Rattle.nr_overlap.proofs.SerialLemmas.{work_first, work_next}
use Rattle.nr_records.specs.declared.chunk_result.ChunkResult.{ChunkResult}
use Rattle.nr_records.specs.declared.receipt.Receipt.{Receipt}
use Rattle.nr_state.specs.Tokens.{list_tokens}

-- a list has an element at each place below its length
record Next {A : Type 0} (xs : List A) (n : ℕ) : Type 0 where
  pub item : A
  pub there : slice_get xs n ≡ Some item

next_of : {A : Type 0} (xs : List A) (n : ℕ) → n < length xs → Next xs n
next_of [] n l = absurd (omega (arith, l))
next_of (y ∷ ys) zero l = record { item = y; there = refl }
next_of (y ∷ ys) (suc n) l = let rest = next_of ys n (omega (arith, l)) in record { item = rest.item; there = rest.there }

take_all : {A : Type 0} (xs : List A) → take (length xs) xs ≡ xs
take_all [] = refl
take_all (y ∷ ys) = ap (λ zs. y ∷ zs) (take_all ys)

module _ (x : Chain) (s below : ℕ) where
  abbrev r : Rules Kept Working (List Receipt) ChunkResult
  r = rules_of x

  abbrev c : Config
  c = x.config

  abbrev dues : List (ℕ × ℕ)
  dues = due_after r s below

  -- the receipts of the first lists
  abbrev first_lists : ℕ → List Receipt
  first_lists n = flat_map (due_to x s) (take n dues)

  more : (n : ℕ) (pair : ℕ × ℕ) → slice_get dues n ≡ Some pair → first_lists (n + 1) ≡ first_lists n ++ due_to x s pair
  more n pair e =
      ap (flat_map (due_to x s)) (take_next dues n pair e) ∙ flat_map-append (due_to x s) (take n dues) (pair ∷ [])
      ∙ ap (λ ys. first_lists n ++ ys) (append-nil (due_to x s pair))

  -- ---- the working state
  abbrev given : Option (List Receipt) → List Receipt
  given o = unwrap_or o []

  one : (k : Working) (o : Option (List Receipt)) → with_list r k o ≡ serve_all c x.call k (given o)
  one k None = refl
  one k (Some list) = refl

  abbrev IsWork : ℕ → Type 0
  IsWork n = work r s below n ≡ serve_all c x.call (opened x s (below + 1) (before x s below)) (first_lists n)

  pub work_is : (n : ℕ) → n ≤ length dues → IsWork n
  work_is zero l = work_first r s below
  work_is (suc n) l =
      let next = next_of dues n l in
      let pair : ℕ × ℕ = next.item in
      let so_far = work_is n (omega (arith, l)) in
      subst IsWork (add-one n)
      (work_next r s below n pair next.there
      ∙ one (work r s below n) (list_to r (sealing_at r pair.1 pair.0) s)
      ∙ ap (λ k. serve_all c x.call k (due_to x s pair)) so_far
      ∙ sym (fold-append (serve c x.call) (opened x s (below + 1) (before x s below)) (first_lists n) (due_to x s pair))
      ∙ ap (serve_all c x.call (opened x s (below + 1) (before x s below))) (sym (more n pair next.there)))

  module _ (is : IsChain x) (inside : s < r.shards) (within : below < r.heights) (there : r.present s (below + 1) ≡ true) where
    -- ---- tokens
    step_tokens : (n : ℕ) (pair : ℕ × ℕ) (o : Option (List Receipt)) → slice_get dues n ≡ Some pair
        → list_to r (sealing_at r pair.1 pair.0) s ≡ o
        → working_tokens c (work r s below (n + 1)) ≡ working_tokens c (work r s below n) + list_tokens c (given o)
    step_tokens n pair None next e =
        let same = ap (working_tokens c) (work_next r s below n pair next ∙ ap (with_list r (work r s below n)) e) in
        omega (arith, same)
    step_tokens n pair (Some list) next e =
        let kept = (tokens_kept x is).takes s below n pair list inside within there next e in omega (arith, kept)

    abbrev HasTokens : ℕ → Type 0
    HasTokens n = working_tokens c (work r s below n) ≡ kept_tokens c (before x s below) + list_tokens c (first_lists n)

    pub tokens_are : (n : ℕ) → n ≤ length dues → HasTokens n
    tokens_are zero l = let kept = (tokens_kept x is).opens s below inside within there in omega (arith, kept)
    tokens_are (suc n) l =
        let next = next_of dues n l in
        let pair : ℕ × ℕ = next.item in
        let stepped = step_tokens n pair (list_to r (sealing_at r pair.1 pair.0) s) next.there refl in
        let so_far = tokens_are n (omega (arith, l)) in
        let all : list_tokens c (first_lists (n + 1)) ≡ list_tokens c (first_lists n) + list_tokens c (due_to x s pair) =
        ap (list_tokens c) (more n pair next.there) ∙ sum_by-append (receipt_tokens c) (first_lists n) (due_to x s pair) in
        subst HasTokens (add-one n) (omega (arith, stepped, so_far, all))

    -- ---- bounds
    good_given : (source h : ℕ) (o : Option (List Receipt)) → source < r.shards → h < r.heights → r.present source (h + 1) ≡ true
        → list_to r (sealing_at r source (h + 1)) s ≡ o → AreGood c (given o)
    good_given source h None l m p e = tt
    good_given source h (Some list) l m p e = good_sent x is source h s list l m p e

    good_due : (n : ℕ) (pair : ℕ × ℕ) → slice_get dues n ≡ Some pair → AreGood c (due_to x s pair)
    good_due n pair e =
        let due = due_at r s below n pair (first_small r s below) e in
        let back : pair.0 - 1 + 1 ≡ pair.0 = omega (arith, due.from) in
        subst (λ h. AreGood c (given (list_to r (sealing_at r pair.1 h) s))) back
        (good_given pair.1 (pair.0 - 1) (list_to r (sealing_at r pair.1 (pair.0 - 1 + 1)) s) due.source
        (omega (arith, due.to, within, due.from)) (ap (r.present pair.1) back ∙ due.there) refl)

    pub good_lists : (n : ℕ) → n ≤ length dues → AreGood c (first_lists n)
    good_lists zero l = tt
    good_lists (suc n) l =
        let next = next_of dues n l in
        subst (λ m. AreGood c (first_lists m)) (add-one n)
        (subst (AreGood c) (sym (more n next.item next.there))
        (each_append (IsGood c) (first_lists n) (due_to x s next.item) (good_lists n (omega (arith, l)))
        (good_due n next.item next.there)))

  -- ---- all of them
  pub all_lists : first_lists (length dues) ≡ due_lists x s below
  all_lists = ap (flat_map (due_to x s)) (take_all dues)
