-- All of the bytes.
use Rattle.std.proofs.Common.{◌≡◌, ℕ, Bool, true, false, cond, eqb, List, [], ◌++◌, length, Result, Ok, Err, refl, sym, ap, subst, ◌∙◌}
use Rattle.std.specs.Prelude.{IfOk}
use Rattle.std.proofs.lemmas.Bool.{eqb-true}
use Rattle.std.proofs.lemmas.List.{append-nil, nil_from_length}
use Rattle.nr_bytes.specs.Numbers.{IsBytes}
use Rattle.nr_bytes.specs.Reading.{Input, ◌>>=◌, end_at}
use Rattle.nr_bytes.specs.declared.fault.BytesFault.{BytesFault}
use Rattle.nr_bytes.specs.Answers.{Gives}
use Rattle.nr_bytes.specs.Fields.{Read, lifted, all_of}
use Rattle.nr_bytes.specs.Spelling.{IsRead, before, behind}
use Rattle.nr_bytes.proofs.Steps.{bind_ok}

abbrev done : {F X : Type 0} → X → Result X F
done x = Ok x

done_is : {F X : Type 0} (x y : X) → done {F = F} x ≡ done y → x ≡ y
done_is x y e = cc

ended : {F : Type 0} (lift : BytesFault → F) (s : Input) (u : Unit {0}) → lifted lift (end_at s) ≡ Ok u → s.left ≡ []
ended lift s u e = nil_from_length s.left (eqb-true _ _ (is_end (eqb (length s.left) 0) _ u e))
  where
    is_end : (b : Bool) (f : _) (u : Unit {0}) → lifted lift (cond b (Ok tt) (Err f)) ≡ Ok u → b ≡ true
    is_end true f u e = refl
    is_end false f u e = absurd cc

pub whole_taken : {F X : Type 0} (lift : BytesFault → F) (r : Input → Read F X) (a : X → List ℕ) (P : X → Type 0) → IsRead r a P → (bytes : List ℕ) (v : X) → IsBytes bytes → all_of lift r bytes ≡ Ok v → P v × (bytes ≡ a v)
unfolding all_of
whole_taken {F} {X} lift r a P law bytes v fits e =
    let s : Input = record { left = bytes; at = 0 } in
    let x = bind_ok (r s) (λ p. lifted lift (end_at p.1) >>= λ u. Ok p.0) v e in
    let y = bind_ok (lifted lift (end_at x.0.1)) (λ u. Ok x.0.0) v x.2 in
    let one = law.taken s x.0 fits x.1 in
    let nothing = ended lift x.0.1 y.0 y.1 in
    subst (λ v. P v × (bytes ≡ a v)) (done_is x.0.0 v y.2)
    (one.0, one.1.left ∙ ap (λ (t : List ℕ). a x.0.0 ++ t) nothing ∙ append-nil (a x.0.0))

pub whole_again : {F X : Type 0} (lift : BytesFault → F) (r : Input → Read F X) (a : X → List ℕ) (P : X → Type 0) → IsRead r a P → (v : X) → P v → all_of lift r (a v) ≡ Ok v
unfolding all_of
whole_again lift r a P law v fits =
    let e : before (a v) 0 [] ≡ record { left = a v; at = 0 } = ap (λ (l : List ℕ). record { left = l; at = 0 }) (append-nil (a v)) in
    let one : r (record { left = a v; at = 0 }) ≡ Ok (v, behind (a v) 0 []) = ap r (sym e) ∙ law.again v 0 [] fits in
    rw one refl

pub is_found : {F X : Type 0} (lift : BytesFault → F) (r : Input → Read F X) (a : X → List ℕ) (P : X → Type 0) → IsRead r a P → (bytes : List ℕ) (memory : F) (read : Result X F) → IsBytes bytes → Gives memory read (all_of lift r bytes) → IfOk read (λ v. P v × (bytes ≡ a v))
is_found lift r a P law bytes memory (Ok v) fits given = whole_taken lift r a P law bytes v fits given
is_found lift r a P law bytes memory (Err e) fits given = tt
