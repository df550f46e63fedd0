-- The laws of an ordinal with what it says follows, and of lists.
use Rattle.std.proofs.Common.{◌≡◌, ℕ, zero, suc, ◌+◌, ◌^◌, ◌%◌, ◌<◌, List, [], ◌∷◌, ◌++◌, length, Ok, refl, sym, ap, subst, ◌∙◌, append_assoc, arith}
use Rattle.std.proofs.lemmas.List.{length-append}
use Rattle.std.specs.List.{flat_map, AllByRecursion}
use Rattle.nr_bytes.specs.declared.fault.BytesFault.{BytesFault}
use Rattle.nr_bytes.specs.Numbers.{little, IsBytes}
use Rattle.nr_bytes.specs.Reading.{Input, ◌>>=◌}
use Rattle.nr_bytes.specs.Fields.{Read, nat_at, choice, items_at, list_at}
use Rattle.nr_bytes.specs.Spelling.{Takes, IsRead, before, behind, tagged, list, FitsList}
use Rattle.nr_bytes.proofs.Steps.{bind_ok, answer, ok_is, Takes-then}
use Rattle.nr_bytes.proofs.Fields.{nat_law}

pub record IsArm {X : Type 0} (tag : X → ℕ) (inner : X → List ℕ) (P : X → Type 0) (n : ℕ) (s : Input) (p : X × Input) : Type 0 where
  pub ordinal : tag p.0 ≡ n
  pub fits : P p.0
  pub takes : Takes s (inner p.0) p.1

little_one : (n : ℕ) → n < 256 → little 1 n ≡ n ∷ []
unfolding little
little_one n lt = let e : n % 256 ≡ n = omega arith in rw e refl

pub choice_law : {F X : Type 0} (lift : BytesFault → F) (body : ℕ → ℕ → Input → Read F X) (tag : X → ℕ) (inner : X → List ℕ) (P : X → Type 0) → ((v : X) → tag v < 256)
    → ((at n : ℕ) (s : Input) (p : X × Input) → IsBytes s.left → body at n s ≡ Ok p → IsArm tag inner P n s p)
    → ((at : ℕ) (v : X) (here : ℕ) (rest : List ℕ) → P v → body at (tag v) (before (inner v) here rest) ≡ Ok (v, behind (inner v) here rest))
    → IsRead (choice lift body) (tagged tag inner) P
choice_law {F} {X} lift body tag inner P low arms arms_again = record {
  taken = λ s p fits e.
      let x = bind_ok (nat_at lift 1 s) (λ o. body s.at o.0 o.1) p e in
      let one = (nat_law lift 1).taken s x.0 fits x.1 in
      let arm = arms s.at x.0.0 x.0.1 p one.1.bytes x.2 in
      let first : little 1 x.0.0 ≡ tag p.0 ∷ [] = little_one x.0.0 one.0 ∙ ap (λ n. n ∷ []) (sym arm.ordinal) in
      (arm.fits, Takes-then s x.0.1 p.1 (tag p.0 ∷ []) (inner p.0) (subst (λ (t : List ℕ). Takes s t x.0.1) first one.1) arm.takes);
  again = λ v at rest fits.
      let first : nat_at lift 1 (before (tag v ∷ []) at (inner v ++ rest)) ≡ Ok (tag v, behind (tag v ∷ []) at (inner v ++ rest)) =
      subst (λ (t : List ℕ). nat_at lift 1 (before t at (inner v ++ rest)) ≡ Ok (tag v, behind t at (inner v ++ rest))) (little_one (tag v) (low v)) ((nat_law lift 1).again (tag v) at (inner v ++ rest) (low v)) in
      let end : behind (inner v) (at + 1) rest ≡ behind (tag v ∷ inner v) at rest = ap (λ n. record { left = rest; at = n }) (omega arith) in
      ap (λ (r : Read F ℕ). r >>= λ o. body at o.0 o.1) first ∙ arms_again at v (at + 1) rest fits ∙ ap (λ (t : Input). answer (v, t)) end;
}

-- ---- lists

items_taken : {F X : Type 0} (r : Input → Read F X) (a : X → List ℕ) (P : X → Type 0) → IsRead r a P → (n : ℕ) (s : Input) (p : List X × Input) → IsBytes s.left → items_at r n s ≡ Ok p
    → (length p.0 ≡ n) × AllByRecursion P p.0 × Takes s (flat_map a p.0) p.1
unfolding items_at
items_taken {F} {X} r a P law zero s p fits e =
    let made : List X × Input = ([], s) in
    subst (λ (p : List X × Input). (length p.0 ≡ 0) × AllByRecursion P p.0 × Takes s (flat_map a p.0) p.1) (ok_is made p e) (refl, tt, record { left = refl; at = omega arith; bytes = fits })
items_taken {F} {X} r a P law (suc n) s p fits e =
    let x = bind_ok (r s) (λ first. items_at r n first.1 >>= λ others. Ok (first.0 ∷ others.0, others.1)) p e in
    let y = bind_ok (items_at r n x.0.1) (λ others. Ok (x.0.0 ∷ others.0, others.1)) p x.2 in
    let one = law.taken s x.0 fits x.1 in
    let two = items_taken r a P law n x.0.1 y.0 one.1.bytes y.1 in
    let made : List X × Input = (x.0.0 ∷ y.0.0, y.0.1) in
    subst (λ (p : List X × Input). (length p.0 ≡ suc n) × AllByRecursion P p.0 × Takes s (flat_map a p.0) p.1) (ok_is made p y.2)
    (ap suc two.0, (one.0, two.1), Takes-then s x.0.1 y.0.1 (a x.0.0) (flat_map a y.0.0) one.1 two.2)

items_again : {F X : Type 0} (r : Input → Read F X) (a : X → List ℕ) (P : X → Type 0) → IsRead r a P → (xs : List X) (at : ℕ) (rest : List ℕ) → AllByRecursion P xs
    → items_at r (length xs) (before (flat_map a xs) at rest) ≡ Ok (xs, behind (flat_map a xs) at rest)
unfolding items_at
items_again r a P law [] at rest fits = ap (λ n. answer ([], record { left = rest; at = n })) (omega arith)
items_again {F} {X} r a P law (x ∷ xs) at rest fits =
    let e : before (flat_map a (x ∷ xs)) at rest ≡ before (a x) at (flat_map a xs ++ rest) = ap (λ (l : List ℕ). record { left = l; at = at }) (append_assoc (a x) (flat_map a xs) rest) in
    let end : behind (flat_map a xs) (at + length (a x)) rest ≡ behind (flat_map a (x ∷ xs)) at rest = ap (λ n. record { left = rest; at = n }) (omega (arith, length-append (a x) (flat_map a xs))) in
    ap (items_at r (suc (length xs))) e ∙ rw (law.again x at (flat_map a xs ++ rest) fits.0, items_again r a P law xs (at + length (a x)) rest fits.1) (ap (λ (t : Input). answer (x ∷ xs, t)) end)

pub list_law : {F X : Type 0} (lift : BytesFault → F) (r : Input → Read F X) (a : X → List ℕ) (P : X → Type 0) → IsRead r a P → IsRead (list_at lift r) (list a) (FitsList P)
unfolding list_at
list_law {F} {X} lift r a P law = record {
  taken = λ s p fits e.
      let x = bind_ok (nat_at lift 4 s) (λ n. items_at r n.0 n.1) p e in
      let one = (nat_law lift 4).taken s x.0 fits x.1 in
      let two = items_taken r a P law x.0.0 x.0.1 p one.1.bytes x.2 in
      let count : little 4 x.0.0 ≡ little 4 (length p.0) = ap (little 4) (sym two.0) in
      ((subst (λ n. n < 256 ^ 4) (sym two.0) one.0, two.1), Takes-then s x.0.1 p.1 (little 4 (length p.0)) (flat_map a p.0) (subst (λ (t : List ℕ). Takes s t x.0.1) count one.1) two.2);
  again = λ xs at rest fits.
      let e : before (list a xs) at rest ≡ before (little 4 (length xs)) at (flat_map a xs ++ rest) = ap (λ (l : List ℕ). record { left = l; at = at }) (append_assoc (little 4 (length xs)) (flat_map a xs) rest) in
      let end : behind (flat_map a xs) (at + length (little 4 (length xs))) rest ≡ behind (list a xs) at rest = ap (λ n. record { left = rest; at = n }) (omega (arith, length-append (little 4 (length xs)) (flat_map a xs))) in
      ap (list_at lift r) e ∙ rw ((nat_law lift 4).again (length xs) at (flat_map a xs ++ rest) fits.0, items_again r a P law xs (at + length (little 4 (length xs))) rest fits.1) (ap (λ (t : Input). answer (xs, t)) end);
}
