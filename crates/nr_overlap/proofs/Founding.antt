-- All shards before their first chunk.
use Rattle.std.proofs.Common.{◌≡◌, ◌⊎◌, ℕ, zero, suc, ◌+◌, ◌<◌, Bool, true, false, cond, List, [], ◌∷◌, ◌++◌, Option, Some, None, length, length-append, inl, inr, sym, refl, ap, ◌∙◌, subst, arith, add-one}
use Rattle.std.specs.Prelude.{slice_get, Vec, replicate}
use Rattle.std.specs.declared.alloc.Global.{Global}
use Rattle.std.specs.Option.{option_map}
use Rattle.std.proofs.lemmas.Option.{slice_get_cases}
use Rattle.std.specs.Global.{Box}
use Rattle.nr_bytes.proofs.Basics.{none≢some}
use Rattle.nr_overlap.specs.Rules.{Rules}
use Rattle.nr_overlap.specs.Serial.{list_to, world_after, past_after, sealing_at}
use Rattle.nr_overlap.specs.Positions.{at, start}
use Rattle.nr_overlap.specs.Moment.{took, shown}
use Rattle.nr_overlap.specs.Held.{IsReached, IsSerial, IsHeld, row_of, row_entry, row_slot, row_report}
use Rattle.nr_overlap.specs.declared.shards.Held.{Held}
use Rattle.nr_overlap.specs.declared.shards.Held.TheVariants.{World, Working, Nothing}
use Rattle.nr_overlap.specs.declared.shards.Row.{Row}
use Rattle.nr_overlap.specs.declared.shards.Shards.{Shards}
use Rattle.nr_overlap.specs.declared.position.Stage.TheVariants.{Idle, Opened}
use Rattle.nr_overlap.specs.declared.position.Position.{Position}
use Rattle.nr_overlap.proofs.Basics.{some_alike, lt_of, not_le}
use Rattle.nr_overlap.proofs.SerialLemmas.{sealing_first}
use Rattle.nr_overlap.proofs.Sums.{first_sums}
use Rattle.nr_overlap.proofs.Serially.{row_read}

-- ---- lists that grow
pub get_grown : {A : Type 0} (xs : List A) (y : A) (i : ℕ) (z : A) → slice_get (xs ++ y ∷ []) i ≡ Some z → (slice_get xs i ≡ Some z) ⊎ ((i ≡ length xs) × (z ≡ y))
get_grown [] y zero z e = inr (refl, sym (some_alike y z e))
get_grown [] y (suc i) z e = absurd (none≢some z e)
get_grown (x ∷ xs) y zero z e = inl e
get_grown (x ∷ xs) y (suc i) z e = elim (get_grown xs y i z e) [ inl p ↦ inl p | inr p ↦ inr (ap suc p.0, p.1) ]

pub replicate_grown : {A : Type 0} (n : ℕ) (x : A) → replicate n x ++ x ∷ [] ≡ replicate (n + 1) x
replicate_grown zero x = refl
replicate_grown (suc n) x = rw (add-one (suc n)) (ap (λ ys. x ∷ ys) (replicate_grown n x ∙ ap (λ m. replicate m x) (add-one n)))

pub at_replicate : (n s : ℕ) → at (replicate n start) s ≡ start
at_replicate zero s = refl
at_replicate (suc n) zero = refl
at_replicate (suc n) (suc s) = at_replicate n s

pub length_replicate : {A : Type 0} (n : ℕ) (x : A) → length (replicate n x) ≡ n
length_replicate zero x = refl
length_replicate (suc n) x = ap suc (length_replicate n x)

module _ {W K L R : Type 0} (r : Rules W K L R) where
  abbrev pub IsFirstHeld : ℕ → Held W K → Type 0
  IsFirstHeld s (World w) = w ≡ r.begins s
  IsFirstHeld s (Working k) = ⊥
  IsFirstHeld s Nothing = ⊥

  -- the first n of them
  pub record AreFirst (n : ℕ) (x : Shards W K L R) : Type 0 where
    pub positions : x.positions.items ≡ replicate n start
    pub held : length x.held.items ≡ n
    pub dues : length x.dues.items ≡ n
    pub rows : length x.rows.items ≡ n
    pub values : (s : ℕ) (v : Held W K) → slice_get x.held.items s ≡ Some v → IsFirstHeld s v
    pub each : (s : ℕ) (row : Vec (Option (Box (Row L R))) Global) → slice_get x.rows.items s ≡ Some row → row.items ≡ None ∷ []

  pub first_more : (n : ℕ) (x y : Shards W K L R) (w : W) (due : Vec (ℕ × ℕ) Global) (row : Vec (Option (Box (Row L R))) Global) → AreFirst n x → w ≡ r.begins n → row.items ≡ None ∷ []
      → y.positions.items ≡ x.positions.items ++ start ∷ [] → y.held.items ≡ x.held.items ++ World w ∷ [] → y.dues.items ≡ x.dues.items ++ due ∷ [] → y.rows.items ≡ x.rows.items ++ row ∷ [] → AreFirst (n + 1) y
  first_more n x y w due row is w_is row_is a b c d = record {
    positions = a ∙ ap (λ t. t ++ start ∷ []) is.positions ∙ replicate_grown n start;
    held = ap length b ∙ length-append x.held.items (World w ∷ []) ∙ ap (λ t. t + 1) is.held;
    dues = ap length c ∙ length-append x.dues.items (due ∷ []) ∙ ap (λ t. t + 1) is.dues;
    rows = ap length d ∙ length-append x.rows.items (row ∷ []) ∙ ap (λ t. t + 1) is.rows;
    values = λ s v e. elim (get_grown x.held.items (World w) s v (ap (λ t. slice_get t s) (sym b) ∙ e)) [
      | inl p ↦ is.values s v p
      | inr p ↦ subst (IsFirstHeld s) (sym p.1) (w_is ∙ ap r.begins (sym (p.0 ∙ is.held)))
    ];
    each = λ s t e. elim (get_grown x.rows.items row s t (ap (λ z. slice_get z s) (sym d) ∙ e)) [
      | inl p ↦ is.each s t p
      | inr p ↦ ap (λ (z : Vec (Option (Box (Row L R))) Global). z.items) p.1 ∙ row_is
    ];
  }

  pub world_first : (s : ℕ) → world_after r s 0 ≡ r.begins s
  unfolding past_after
  world_first s = refl

  held_first : (s : ℕ) (v : Held W K) → IsFirstHeld s v → IsHeld r s start v
  held_first s (World w) is = ap Some (world_first s ∙ sym is)
  held_first s (Working k) is = elim is [ ]
  held_first s Nothing is = elim is [ ]

  pub shown_first : (s h : ℕ) → shown r s start h ≡ None
  shown_first s zero = sealing_first r s
  shown_first s (suc h) = ap (λ b. cond b (sealing_at r s (suc h)) None) (not_le (suc h) 0 (omega arith))

  none_to : (b : Bool) (d : ℕ) → cond b None (list_to r None d) ≡ None
  none_to true d = refl
  none_to false d = refl

  no_entry : (h : ℕ) → row_entry {L = L} {R = R} (None ∷ []) h ≡ None
  no_entry zero = refl
  no_entry (suc h) = refl

  pub first_reached : (ps : List Position) → length ps ≡ r.shards → ((s : ℕ) → at ps s ≡ start) → IsReached r ps
  first_reached ps count here = record {
    count = count;
    in_chunk = λ s l. rw (here s) (omega arith);
    has_taken = λ s l. rw (here s) refl;
    published = λ d s h dl sl pos pre tk. absurd (nothing_taken d h s pos (ap (λ (q : Position). took r d q h s) (sym (here d)) ∙ tk));
  }
    where
      nothing_taken : (d h s : ℕ) → 0 < h → took r d start h s ≡ true → ⊥
      nothing_taken d h s pos e = let l : h < 1 = lt_of h 1 e in omega arith

  pub first_serial : (x : Shards W K L R) → AreFirst r.shards x → IsSerial r x
  first_serial x is = record {
    kept = record {
      reached = first_reached x.positions.items (ap length is.positions ∙ length_replicate r.shards start) here;
      sums = λ o m laws. first_sums r m x.positions.items here;
      held = is.held;
      dues = is.dues;
      rows = is.rows;
      long = λ s l. ap length (row_is s l) ∙ rw (here s) refl;
      reports = λ s h l. ap (λ t. row_report (row_entry t h)) (row_is s l) ∙ ap row_report (no_entry h) ∙ sym (ap (option_map (λ z. z.report)) (ap (λ (q : Position). shown r s q h) (here s) ∙ shown_first s h));
    };
    values = λ s v e. subst (λ (q : Position). IsHeld r s q v) (sym (here s)) (held_first s v (is.values s v e));
    due = λ s l e. absurd (idle_opened (ap (λ (q : Position). q.stage) (sym (here s)) ∙ e));
    lists = λ s h d l m. ap (λ t. row_slot (row_entry t h) d) (row_is s l) ∙ ap (λ t. row_slot t d) (no_entry h)
        ∙ sym (ap (λ o. cond (took r d (at x.positions.items d) h s) None (list_to r o d)) (ap (λ (q : Position). shown r s q h) (here s) ∙ shown_first s h) ∙ none_to (took r d (at x.positions.items d) h s) d);
  }
    where
      idle_opened : Idle ≡ Opened → ⊥
      idle_opened e = cc

      here : (s : ℕ) → at x.positions.items s ≡ start
      here s = ap (λ ps. at ps s) is.positions ∙ at_replicate r.shards s

      row_is : (s : ℕ) → s < r.shards → row_of x.rows.items s ≡ None ∷ []
      row_is s l = elim ((slice_get_cases x.rows.items s).1) [
        | inl p ↦ row_read x.rows.items s p.0 p.2 ∙ is.each s p.0 p.2
        | inr p ↦ absurd (omega (arith, p.0, l, is.rows))
      ]
