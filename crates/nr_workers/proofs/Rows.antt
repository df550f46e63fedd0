-- The lists that no chunk takes, before the next one.
use Rattle.std.proofs.Common.{◌≡◌, ℕ, ◌+◌, ◌<◌, ◌≤◌, Bool, true, false, cond, None, Option, refl, sym, ap, ◌∙◌, arith}
use Rattle.std.specs.Prelude.{nat_lt}
use Rattle.std.proofs.lemmas.Bool.Decides.{nat_tests}
use mathlib.Core.Logic.{dite}
use native.Mathlib.Decide.{ℕ_discrete}
use Rattle.nr_overlap.specs.Rules.{Rules}
use Rattle.nr_overlap.specs.Serial.{list_to, sealing_at}
use Rattle.nr_overlap.proofs.Basics.{is_lt, not_lt, ge_of}
use Rattle.nr_workers.specs.Taking.{taken_to, source_after, done_after}
use Rattle.nr_workers.specs.Left.{list_among}
use Rattle.nr_workers.proofs.Orders.{one_more, this_one, none_of, by_next}

module _ {W K L R : Type 0} (r : Rules W K L R) where
  -- no height is behind the last one and from the next one on
  none_among : (s first last t h : ℕ) → last + 1 ≡ first → list_among r s first last t h ≡ None
  none_among s first last t h e = by (nat_lt h first) refl
    where
      by : (b : Bool) → nat_lt h first ≡ b → cond b None (cond (nat_lt last h) None (list_to r (sealing_at r t h) s)) ≡ None
      by true f = refl
      by false f = let from : first ≤ h = ge_of h first f in ap (λ b. cond b None (list_to r (sealing_at r t h) s)) (is_lt last h (omega (arith, e, from)))

  pub no_list_yet : (s first done source t h : ℕ) → done + 1 ≡ first → source ≡ 0 → list_among r s first (taken_to r done source t) t h ≡ None
  no_list_yet s first done source t h e none =
      ap (λ (n : ℕ). list_among r s first (cond (nat_lt t n) (done + 1) done) t h) none
      ∙ ap (λ (n : ℕ). list_among r s first n t h) (none_of t 0 (done + 1) done (omega arith)) ∙ none_among s first done t h e

  among_here : (s first h t : ℕ) → first ≤ h → list_among r s first h t h ≡ list_to r (sealing_at r t h) s
  among_here s first h t from =
      ap (λ b. cond b None (cond (nat_lt h h) None (list_to r (sealing_at r t h) s))) (not_lt h first from)
      ∙ ap (λ b. cond b None (list_to r (sealing_at r t h) s)) (not_lt h h (omega arith))

  -- at other heights one more changes nothing
  among_other : (s first last t h : ℕ) → (h ≡ last + 1 → ⊥) → list_among r s first last t h ≡ list_among r s first (last + 1) t h
  among_other s first last t h ne = ap (λ b. cond (nat_lt h first) None (cond b None (list_to r (sealing_at r t h) s))) same
    where
      same : nat_lt last h ≡ nat_lt (last + 1) h
      same = grind (arith, nat_tests)

  at_source : (s first done source : ℕ) (slot slot' : ℕ → Option L) → first ≤ done + 1 → slot' (done + 1) ≡ list_to r (sealing_at r source (done + 1)) s
      → ((h : ℕ) → (h ≡ done + 1 → ⊥) → slot' h ≡ slot h) → ((h : ℕ) → slot h ≡ list_among r s first done source h) → (h : ℕ) → slot' h ≡ list_among r s first (done + 1) source h
  at_source s first done source slot slot' from this others before h =
      dite (ℕ_discrete h (done + 1))
      (λ same. ap slot' same ∙ this ∙ sym (among_here s first (done + 1) source from) ∙ ap (list_among r s first (done + 1) source) (sym same))
      (λ apart. others h apart ∙ before h ∙ among_other s first done source h apart)

  -- a list more, at the place of the next one
  pub list_after : (s first done source done' source' : ℕ) (list : Option L) (slots slots' : ℕ → ℕ → Option L) → first ≤ done + 1 → source < r.shards → done' ≡ done_after r.shards done source → source' ≡ source_after r.shards source
      → list ≡ list_to r (sealing_at r source (done + 1)) s → ((t h : ℕ) → t < r.shards → slots t h ≡ list_among r s first (taken_to r done source t) t h)
      → slots' source (done + 1) ≡ list → ((t h : ℕ) → (t ≡ source → h ≡ done + 1 → ⊥) → slots' t h ≡ slots t h)
      → (t h : ℕ) → t < r.shards → slots' t h ≡ list_among r s first (taken_to r done' source' t) t h
  list_after s first done source done' source' list slots slots' from there done_is source_is list_is slots_are this others t h inside =
      dite (ℕ_discrete t source)
      (λ here.
      ap (λ (u : ℕ). slots' u h) here
      ∙ at_source s first done source (slots source) (slots' source) from (this ∙ list_is) (λ k apart. others source k (λ same at. apart at))
      (λ k. slots_are source k there ∙ ap (λ (n : ℕ). list_among r s first n source k) (none_of source source (done + 1) done (omega arith))) h
      ∙ ap (λ (n : ℕ). list_among r s first n source h) (sym (this_one source (done + 1) done))
      ∙ ap (λ (u : ℕ). list_among r s first (cond (nat_lt u (source + 1)) (done + 1) done) u h) (sym here))
      (λ apart. others t h (λ same at. apart same) ∙ slots_are t h inside ∙ ap (λ (n : ℕ). list_among r s first n t h) (sym (one_more t source (done + 1) done apart)))
      ∙ ap (λ (n : ℕ). list_among r s first n t h) (sym (by_next (nat_lt (source + 1) r.shards) r.shards done source t refl inside))
      ∙ (λ i. list_among r s first (taken_to r (sym done_is i) (sym source_is i) t) t h)
