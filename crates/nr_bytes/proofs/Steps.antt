-- Steps of reading: what stands behind an answer that is Ok, and the same law written otherwise.
use Rattle.std.proofs.Common.{◌≡◌, ℕ, ◌+◌, List, [], ◌++◌, length, take, drop, Result, Ok, Err, refl, sym, ap, subst, ◌∙◌, append_assoc, arith, inl, inr}
use Rattle.std.proofs.lemmas.Bool.{cases_lt}
use Rattle.std.proofs.lemmas.List.{append-nil, length-append, length-take, get_or-drop, get_or-take, get_or_past, get_or_append_left}
use Rattle.nr_bytes.specs.declared.fault.BytesFault.{BytesFault}
use Rattle.nr_bytes.specs.Numbers.{IsBytes}
use Rattle.nr_bytes.specs.Reading.{Input, ◌>>=◌}
use Rattle.nr_bytes.specs.Fields.{Read, lifted}
use Rattle.nr_bytes.specs.Spelling.{Takes, IsRead, before, behind}

pub bind_ok : {F A B : Type 0} (r : Result A F) (f : A → Result B F) (y : B) → (r >>= f) ≡ Ok y → (x : A) × (r ≡ Ok x) × (f x ≡ Ok y)
bind_ok (Ok x) f y e = (x, refl, e)
bind_ok (Err d) f y e = absurd cc

pub lifted_ok : {F A : Type 0} (lift : BytesFault → F) (r : Result A BytesFault) (y : A) → lifted lift r ≡ Ok y → r ≡ Ok y
lifted_ok lift (Ok x) y e = cc
lifted_ok lift (Err d) y e = absurd cc

pub IsBytes-drop : (n : ℕ) (bytes : List ℕ) → IsBytes bytes → IsBytes (drop n bytes)
IsBytes-drop n bytes h i = rw get_or-drop (h (n + i))

pub IsBytes-take : (n : ℕ) (bytes : List ℕ) → IsBytes bytes → IsBytes (take n bytes)
IsBytes-take n bytes h i =
    elim (cases_lt i n) [
      | inl lt ↦ rw (get_or-take n bytes i 0 lt) (h i)
      | inr le ↦ rw (get_or_past (take n bytes) i 0 (omega (arith, length-take n bytes))) (omega arith)
    ]

abbrev pub answer : {F X : Type 0} → X × Input → Read F X
answer p = Ok p

pub ok_is : {F X : Type 0} (p q : X × Input) → answer {F = F} p ≡ answer q → p ≡ q
ok_is p q e = cc

pub IsBytes-front : (all front rest : List ℕ) → IsBytes all → all ≡ front ++ rest → IsBytes front
IsBytes-front all front rest fits e i =
    elim (cases_lt i (length front)) [
      | inl lt ↦ rw (← get_or_append_left front rest 0 i lt, ← e) (fits i)
      | inr le ↦ rw (get_or_past front i 0 le) (omega arith)
    ]

pub Takes-then : (s m t : Input) (x y : List ℕ) → Takes s x m → Takes m y t → Takes s (x ++ y) t
Takes-then s m t x y p q = record {
  left = p.left ∙ ap (λ (u : List ℕ). x ++ u) q.left ∙ sym (append_assoc x y t.left);
  at = omega (arith, p.at, q.at, length-append x y);
  bytes = q.bytes;
}

-- the same law, where the reading is written otherwise
pub IsRead-along : {F X : Type 0} (r q : Input → Read F X) (a : X → List ℕ) (P : X → Type 0) → ((s : Input) → r s ≡ q s) → IsRead q a P → IsRead r a P
IsRead-along r q a P same law = record {
  taken = λ s p fits e. law.taken s p fits (sym (same s) ∙ e);
  again = λ v at rest fits. same (before (a v) at rest) ∙ law.again v at rest fits;
}

-- the same reading, where the spelling is written otherwise
pub IsRead-spelled : {F X : Type 0} (r : Input → Read F X) (a b : X → List ℕ) (P : X → Type 0) → ((v : X) → a v ≡ b v) → IsRead r b P → IsRead r a P
IsRead-spelled {F} {X} r a b P same law = record {
  taken = λ s p fits e.
      let one = law.taken s p fits e in
      (one.0, subst (λ (text : List ℕ). Takes s text p.1) (sym (same p.0)) one.1);
  again = λ v at rest fits. subst (λ (text : List ℕ). r (before text at rest) ≡ Ok (v, behind text at rest)) (sym (same v)) (law.again v at rest fits);
}

-- the same reading, where what fits is said otherwise
pub IsRead-where : {F X : Type 0} (r : Input → Read F X) (a : X → List ℕ) (P Q : X → Type 0) → ((v : X) → P v → Q v) → ((v : X) → Q v → P v) → IsRead r a P → IsRead r a Q
IsRead-where r a P Q there back law = record {
  taken = λ s p fits e. (there p.0 (law.taken s p fits e).0, (law.taken s p fits e).1);
  again = λ v at rest fits. law.again v at rest (back v fits);
}

-- no spelling is a proper front of another one
pub IsRead-front : {F X : Type 0} (r : Input → Read F X) (a : X → List ℕ) (P : X → Type 0) → IsRead r a P → (v w : X) (rest : List ℕ) → P v → P w → a w ≡ a v ++ rest → (w ≡ v) × (rest ≡ [])
IsRead-front {F} {X} r a P law v w rest one two e =
    let whole : before (a w) 0 [] ≡ before (a v) 0 rest = ap (λ (l : List ℕ). record { left = l; at = 0 }) (append-nil (a w) ∙ e) in
    let same : answer {F = F} (w, behind (a w) 0 []) ≡ answer (v, behind (a v) 0 rest) = sym (law.again w 0 [] two) ∙ ap r whole ∙ law.again v 0 rest one in
    let pairs = ok_is (w, behind (a w) 0 []) (v, behind (a v) 0 rest) same in
    (ap (λ (p : X × Input). p.0) pairs, sym (ap (λ (p : X × Input). p.1.left) pairs))
