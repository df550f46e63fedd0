-- Where a list of events leads, an event at a time.
use Rattle.std.proofs.Common.{◌≡◌, ℕ, ◌+◌, List, [], ◌∷◌, ◌++◌, Option, Some, None, length, ◌<◌, sym, refl, ap, ◌∙◌, subst, add-one, drop-cons, take, drop}
use Rattle.std.specs.Prelude.{slice_get}
use Rattle.nr_overlap.specs.Rules.{Rules}
use Rattle.nr_overlap.specs.Inside.{AreInside}
use Rattle.nr_overlap.specs.Moves.{refusal, moved}
use Rattle.nr_overlap.specs.Run.{moved_if, tried, run_of, whole_at}
use Rattle.nr_overlap.specs.declared.event.Event.{Event}
use Rattle.nr_overlap.specs.declared.event.Event.TheVariants.{OpenChunk}
use Rattle.nr_overlap.specs.declared.event.Why.{Why}
use Rattle.nr_overlap.specs.declared.position.Position.{Position}
use Rattle.nr_overlap.specs.CoreView.{CoreView}
use Rattle.nr_overlap.proofs.Basics.{take_next}

pub inside_next : (shards : ℕ) (es : List Event) (n : ℕ) → n < length es → AreInside shards (drop n es) → AreInside shards (drop (n + 1) es)
inside_next shards es n l are = subst (λ m. AreInside shards (drop m es)) (sym (add-one n)) (subst (AreInside shards) (drop-cons es n (OpenChunk (record { 0 = 0 })) l) are).1

module _ {W K L R : Type 0} (r : Rules W K L R) where
  pub tries_made : (ps : List Position) (e : Event) → refusal r ps e ≡ None → tried r ps e ≡ moved ps e
  tries_made ps e n = ap (λ (o : Option Why). moved_if o ps e) n

  pub tries_not : (ps : List Position) (e : Event) (why : Why) → refusal r ps e ≡ Some why → tried r ps e ≡ ps
  tries_not ps e why n = ap (λ (o : Option Why). moved_if o ps e) n

  pub run_more : (ps : List Position) (es : List Event) (e : Event) → run_of r ps (es ++ e ∷ []) ≡ tried r (run_of r ps es) e
  run_more ps [] e = refl
  run_more ps (x ∷ es) e = run_more (tried r ps x) es e

module _ {W K L R P : Type 0} (rules : P → Rules W K L R) where
  -- an event more, after these or after the first n
  pub one_more : (first old new : CoreView P) (es : List Event) (e : Event) → new ≡ whole_at old (tried (rules old.phases) old.positions e) → old.phases ≡ first.phases
      → old.positions ≡ run_of (rules first.phases) first.positions es → new.positions ≡ run_of (rules first.phases) first.positions (es ++ e ∷ [])
  one_more first old new es e made same told =
      ap (λ (v : CoreView P). v.positions) made ∙ (λ i. tried (rules (same i)) (told i) e) ∙ sym (run_more (rules first.phases) first.positions es e)

  pub one_next : (first old new : CoreView P) (es : List Event) (n : ℕ) (e : Event) → new ≡ whole_at old (tried (rules old.phases) old.positions e) → old.phases ≡ first.phases
      → old.positions ≡ run_of (rules first.phases) first.positions (take n es) → slice_get es n ≡ Some e → new.positions ≡ run_of (rules first.phases) first.positions (take (n + 1) es)
  one_next first old new es n e made same told here =
      one_more first old new (take n es) e made same told ∙ ap (run_of (rules first.phases) first.positions) (sym (take_next es n e here))
