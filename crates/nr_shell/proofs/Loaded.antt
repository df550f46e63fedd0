-- What the loading of a file leads to.
use Rattle.std.proofs.Common.{◌≡◌, ℕ, ◌+◌, ◌<◌, ◌≤◌, Bool, true, cond, List, [], ◌∷◌, ◌++◌, length, Option, Some, None, Result, Ok, Err, refl, sym, ap, subst, ◌∙◌, arith}
use Rattle.std.proofs.Math.ListN.{replicate, length-replicate}
use Rattle.std.proofs.lemmas.List.{append-nil}
use Rattle.std.proofs.lemmas.Bool.{le-ltb, lt-ltb}
use Rattle.std.specs.Global.{Vec}
use Rattle.nr_bytes.specs.Outside.{Asks, Fails, Loads, Rose}
use Rattle.nr_bytes.specs.declared.shelf.LoadFault.{LoadFault}
use Rattle.nr_bytes.specs.declared.shelf.LoadFault.TheVariants.{Failed, TooLong, Memory}
use Rattle.nr_shell.specs.Answers.{Answers, Breaks, Comes, Stops, load_stop}
use Rattle.nr_shell.specs.Plans.{Plan, Answer, Refuse, Allows, by_length, file_plan}
use Rattle.nr_shell.specs.declared.stop.Stop.{Stop}
use Rattle.nr_shell.specs.declared.stop.Stop.TheVariants.{Unread}

-- ---- the bytes that the shelf allows
within : (told : Option (List ℕ)) (limit : ℕ) (bytes : List ℕ) → Loads (Ok tt) told limit [] bytes → Allows told bytes × (length bytes ≤ limit)
within None limit bytes h = (tt, omega (arith, h.1))
within (Some told) limit bytes h = (sym h.1, subst (λ (b : List ℕ). length b ≤ limit) (sym h.1) h.0)

beyond : (told : Option (List ℕ)) (limit : ℕ) (out : List ℕ) → Loads (Err TooLong) told limit [] out → (bytes : List ℕ) × Allows told bytes × (limit < length bytes)
beyond None limit out h = (replicate (limit + 1) 0, tt, omega (arith, length-replicate {A = ℕ} (limit + 1) 0))
beyond (Some told) limit out h = (told, refl, h.0)

-- ---- where a file of them leads
module _ {E : Type 0} (held : List ℕ → Option (List ℕ)) (old new : List (List ℕ)) (name : List ℕ) (limit : ℕ) (long : E) where
  turned : (q : Plan (List ℕ) E) (bytes : List ℕ) → new ≡ old ++ name ∷ [] → Allows (held name) bytes → by_length limit long (λ b. Answer b) bytes ≡ q → Comes held old new (file_plan name limit long) q
  turned q bytes asked allowed to = record { names = name ∷ []; asked = asked; leads = (q, (bytes, refl, allowed, to), refl) }

  pub was_read : (start bytes : List ℕ) → start ≡ [] → Loads (Ok tt) (held name) limit start bytes → new ≡ old ++ name ∷ [] → Comes held old new (file_plan name limit long) (Answer bytes)
  was_read start bytes empty loads asked =
      let is = within (held name) limit bytes (subst (λ (s : List ℕ). Loads (Ok tt) (held name) limit s bytes) empty loads) in
      turned (Answer bytes) bytes asked is.0 (ap (λ (b : Bool). cond b (Refuse long) (Answer bytes)) (le-ltb limit (length bytes) is.1))

  was_long : (start out : List ℕ) → start ≡ [] → Loads (Err TooLong) (held name) limit start out → new ≡ old ++ name ∷ [] → Comes held old new (file_plan name limit long) (Refuse long)
  was_long start out empty loads asked =
      let is = beyond (held name) limit out (subst (λ (s : List ℕ). Loads (Err TooLong) (held name) limit s out) empty loads) in
      turned (Refuse long) is.0 asked is.1 (ap (λ (b : Bool). cond b (Refuse long) (Answer is.0)) (lt-ltb limit (length is.0) is.2))

  has_failed : new ≡ old ++ name ∷ [] → Breaks held old new (file_plan name limit long)
  has_failed asked = record {
    before = old;
    name = name;
    limit = limit;
    long = long;
    by_bytes = λ bytes. Answer bytes;
    comes = record { names = []; asked = sym (append-nil old); leads = refl };
    last = asked;
  }

  has_stayed : new ≡ old → Stops held old new (file_plan name limit long)
  has_stayed same = record { rest = file_plan name limit long; comes = record { names = []; asked = same ∙ sym (append-nil old); leads = refl } }

  pub has_stopped : (refuses : E → Bool) (fault : LoadFault) (start out : List ℕ) → refuses long ≡ true → start ≡ [] → Loads (Err fault) (held name) limit start out → Asks (Err fault) old new name
      → Answers refuses (λ (read : Vec ℕ). read.items) held old new (Err (load_stop fault long)) (file_plan name limit long)
  has_stopped refuses Failed start out is empty loads asks = has_failed asks
  has_stopped refuses TooLong start out is empty loads asks = (is, was_long start out empty loads asks)
  has_stopped refuses Memory start out is empty loads asks = has_stayed asks

pub has_counted : {E : Type 0} (long : E) (fault : LoadFault) (before after : ℕ) → Fails (Err fault) before after → ◌≡◌ {A = Result (Vec ℕ) (Stop E)} (Err (load_stop fault long)) (Err Unread) → Rose before after
has_counted long Failed before after fails e = fails
has_counted long TooLong before after fails e = let wrong : ⊥ = cc in absurd wrong
has_counted long Memory before after fails e = let wrong : ⊥ = cc in absurd wrong
