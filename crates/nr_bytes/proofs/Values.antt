-- The laws of a value that is made of another, of one that passes a test, and of two in turn.
use Rattle.std.proofs.Common.{◌≡◌, ℕ, ◌+◌, Bool, true, false, cond, List, ◌++◌, length, Ok, Err, refl, sym, ap, subst, ◌∙◌, append_assoc, arith}
use Rattle.std.proofs.lemmas.List.{length-append}
use Rattle.nr_bytes.specs.Numbers.{IsBytes}
use Rattle.nr_bytes.specs.Reading.{Input, ◌>>=◌}
use Rattle.nr_bytes.specs.Fields.{Read, mapped, tested, pair}
use Rattle.nr_bytes.specs.Spelling.{Takes, IsRead, before, behind, Passes, in_turn, Both}
use Rattle.nr_bytes.proofs.Steps.{bind_ok, answer, ok_is, Takes-then}

-- ---- a value that is made of another

pub mapped_law : {F X Y : Type 0} (to : X → Y) (from : Y → X) → ((y : Y) → to (from y) ≡ y) → ((x : X) → from (to x) ≡ x) → (r : Input → Read F X) (a : X → List ℕ) (P : X → Type 0) → IsRead r a P → IsRead (mapped to r) (λ y. a (from y)) (λ y. P (from y))
mapped_law {F} {X} {Y} to from there back r a P law = record {
  taken = λ s p fits e.
      let x = bind_ok (r s) (λ m. Ok (to m.0, m.1)) p e in
      let one = law.taken s x.0 fits x.1 in
      let made : Y × Input = (to x.0.0, x.0.1) in
      subst (λ (p : Y × Input). P (from p.0) × Takes s (a (from p.0)) p.1) (ok_is made p x.2)
      (subst (λ v. P v × Takes s (a v) x.0.1) (sym (back x.0.0)) one);
  again = λ v at rest fits. rw (law.again (from v) at rest fits, there v) refl;
}

-- what holds of a value that is made of another
pub mapped_case : {F X Y : Type 0} (to : X → Y) (r : Input → Read F X) (a : X → List ℕ) (P : X → Type 0) → IsRead r a P → (C : Y × Input → Type 0) (s : Input) (p : Y × Input) → IsBytes s.left
    → ((x : X) (t : Input) → P x → Takes s (a x) t → C (to x, t)) → mapped to r s ≡ Ok p → C p
mapped_case {F} {X} {Y} to r a P law C s p fits case e =
    let x = bind_ok (r s) (λ m. Ok (to m.0, m.1)) p e in
    let one = law.taken s x.0 fits x.1 in
    let made : Y × Input = (to x.0.0, x.0.1) in
    subst C (ok_is made p x.2) (case x.0.0 x.0.1 one.0 one.1)

-- ---- a value that passes a test

passed : {F A : Type 0} (b : Bool) (d : F) (x y : A) → cond b (Ok x) (Err d) ≡ Ok y → (b ≡ true) × (x ≡ y)
passed true d x y e = (refl, cc)
passed false d x y e = absurd cc

pub tested_law : {F X : Type 0} (test : X → Bool) (fault : ℕ → F) (r : Input → Read F X) (a : X → List ℕ) (P : X → Type 0) → IsRead r a P → IsRead (tested test fault r) a (Passes P test)
tested_law {F} {X} test fault r a P law = record {
  taken = λ s p fits e.
      let x = bind_ok (r s) (λ m. cond (test m.0) (Ok m) (Err (fault s.at))) p e in
      let one = law.taken s x.0 fits x.1 in
      let g = passed (test x.0.0) (fault s.at) x.0 p x.2 in
      subst (λ (p : X × Input). (P p.0 × (test p.0 ≡ true)) × Takes s (a p.0) p.1) g.1 ((one.0, g.0), one.1);
  again = λ v at rest fits. rw (law.again v at rest fits.0, fits.1) refl;
}

-- ---- one field and then another

pub pair_law : {F X Y : Type 0} (r : Input → Read F X) (a : X → List ℕ) (P : X → Type 0) (q : Input → Read F Y) (b : Y → List ℕ) (Q : Y → Type 0) → IsRead r a P → IsRead q b Q → IsRead (pair r q) (in_turn a b) (Both P Q)
pair_law {F} {X} {Y} r a P q b Q first second = record {
  taken = λ s p fits e.
      let x = bind_ok (r s) (λ m. q m.1 >>= λ n. Ok ((m.0, n.0), n.1)) p e in
      let y = bind_ok (q x.0.1) (λ n. Ok ((x.0.0, n.0), n.1)) p x.2 in
      let one = first.taken s x.0 fits x.1 in
      let two = second.taken x.0.1 y.0 one.1.bytes y.1 in
      let made : (X × Y) × Input = ((x.0.0, y.0.0), y.0.1) in
      subst (λ (p : (X × Y) × Input). Both P Q p.0 × Takes s (in_turn a b p.0) p.1) (ok_is made p y.2)
      ((one.0, two.0), Takes-then s x.0.1 y.0.1 (a x.0.0) (b y.0.0) one.1 two.1);
  again = λ v at rest fits.
      let e : before (in_turn a b v) at rest ≡ before (a v.0) at (b v.1 ++ rest) = ap (λ (l : List ℕ). record { left = l; at = at }) (append_assoc (a v.0) (b v.1) rest) in
      let end : behind (b v.1) (at + length (a v.0)) rest ≡ behind (in_turn a b v) at rest = ap (λ n. record { left = rest; at = n }) (omega (arith, length-append (a v.0) (b v.1))) in
      ap (pair r q) e ∙ rw (first.again v.0 at (b v.1 ++ rest) fits.0, second.again v.1 (at + length (a v.0)) rest fits.1) (ap (λ (t : Input). answer (v, t)) end);
}
