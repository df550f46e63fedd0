-- A layout has one spelling: what is read is spelled so, and what is spelled so is read.
use Rattle.std.proofs.Common.{◌≡◌, ℕ, zero, suc, ◌+◌, ◌^◌, ◌<◌, ◌≤◌, Bool, true, false, cond, ltb, List, [], ◌∷◌, ◌++◌}
use Rattle.std.proofs.Common.{length, Option, None, Some, Ok, Err, refl, sym, ap, subst, ◌∙◌, append_assoc, arith}
use Rattle.std.specs.List.{flat_map, AllByRecursion}
use Rattle.std.proofs.lemmas.Bool.{ltb-false, le-ltb}
use Rattle.std.proofs.lemmas.List.{length-append}
use Rattle.nr_bytes.specs.Numbers.{little, IsBytes}
use Rattle.nr_bytes.specs.Reading.{Input, ◌>>=◌}
use Rattle.nr_bytes.specs.Writing.{counted_bytes}
use Rattle.nr_records.specs.declared.fault.RecordFault.{RecordFault}
use Rattle.nr_records.specs.declared.fault.RecordFault.TheVariants.{TooManyBoundaries, BoundaryOrder}
use Rattle.nr_records.specs.Reading.{Read, nat_at, account_id_at}
use Rattle.nr_bytes.specs.Spelling.{Takes, IsRead, before, behind, Passes}
use Rattle.nr_records.specs.Ids.{IsId}
use Rattle.nr_records.specs.IdLaws.{id_law}
use Rattle.nr_bytes.proofs.Steps.{bind_ok, ok_is, answer, Takes-then}
use Rattle.nr_bytes.proofs.Values.{tested_law}
use Rattle.nr_bytes.proofs.Fields.{nat_law}
use Rattle.nr_records.specs.Fault.{record_fault}
use Rattle.nr_layout.specs.Layout.{is_above, IsRising}
use Rattle.nr_layout.specs.Reading.{boundary_at, boundaries_at, layout_at, layout_bytes, FitsLayout}

-- ids, each above the one before it
abbrev Rises : Option (List ℕ) → List (List ℕ) → Type 0
Rises last boundaries = IsRising last boundaries × AllByRecursion IsId boundaries

boundary_law : (last : Option (List ℕ)) → IsRead (boundary_at last) counted_bytes (Passes IsId (is_above last))
boundary_law last = tested_law (is_above last) BoundaryOrder account_id_at counted_bytes IsId id_law

boundaries_taken : (last : Option (List ℕ)) (n : ℕ) (s : Input) (p : List (List ℕ) × Input) → IsBytes s.left
    → boundaries_at last n s ≡ Ok p
    → (length p.0 ≡ n) × Rises last p.0 × Takes s (flat_map counted_bytes p.0) p.1
unfolding boundaries_at
boundaries_taken last zero s p fits e =
    let made : List (List ℕ) × Input = ([], s) in
    subst (λ (p : List (List ℕ) × Input). (length p.0 ≡ 0) × Rises last p.0 × Takes s (flat_map counted_bytes p.0) p.1) (ok_is made p e) (refl, (tt, tt), record { left = refl; at = omega arith; bytes = fits })
boundaries_taken last (suc n) s p fits e =
    let x = bind_ok (boundary_at last s) (λ first. boundaries_at (Some first.0) n first.1 >>= λ others. Ok (first.0 ∷ others.0, others.1)) p e in
    let y = bind_ok (boundaries_at (Some x.0.0) n x.0.1) (λ others. Ok (x.0.0 ∷ others.0, others.1)) p x.2 in
    let one = (boundary_law last).taken s x.0 fits x.1 in
    let two = boundaries_taken (Some x.0.0) n x.0.1 y.0 one.1.bytes y.1 in
    let made : List (List ℕ) × Input = (x.0.0 ∷ y.0.0, y.0.1) in
    subst (λ (p : List (List ℕ) × Input). (length p.0 ≡ suc n) × Rises last p.0
    × Takes s (flat_map counted_bytes p.0) p.1) (ok_is made p y.2) (
      ap suc two.0,
      ((one.0.1, two.1.0), (one.0.0, two.1.1)),
      Takes-then s x.0.1 y.0.1 (counted_bytes x.0.0)
          (flat_map counted_bytes y.0.0) one.1 two.2,
    )

boundaries_again : (last : Option (List ℕ)) (bs : List (List ℕ)) (at : ℕ) (rest : List ℕ) → Rises last bs
    → boundaries_at last (length bs) (before (flat_map counted_bytes bs) at rest) ≡ Ok (bs, behind (flat_map counted_bytes bs) at rest)
unfolding boundaries_at
boundaries_again last [] at rest fits = ap (λ n. answer ([], record { left = rest; at = n })) (omega arith)
boundaries_again last (b ∷ bs) at rest fits =
    let e : before (flat_map counted_bytes (b ∷ bs)) at rest ≡ before (counted_bytes b) at (flat_map counted_bytes bs ++ rest) = ap (λ (l : List ℕ). record { left = l; at = at }) (append_assoc (counted_bytes b) (flat_map counted_bytes bs) rest) in
    let end : behind (flat_map counted_bytes bs) (at + length (counted_bytes b)) rest ≡ behind (flat_map counted_bytes (b ∷ bs)) at rest = ap (λ n. record { left = rest; at = n }) (omega (arith, length-append (counted_bytes b) (flat_map counted_bytes bs))) in
    let first = (boundary_law last).again b at (flat_map counted_bytes bs ++ rest) (fits.1.0, fits.0.0) in
    let others = boundaries_again (Some b) bs (at + length (counted_bytes b)) rest (fits.0.1, fits.1.1) in
    ap (boundaries_at last (suc (length bs))) e ∙ rw (first, others) (ap (λ (t : Input). answer (b ∷ bs, t)) end)

few : (b : Bool) (d : RecordFault) (r : Read (List (List ℕ))) (p : List (List ℕ) × Input) → cond b (Err d) r ≡ Ok p
    → (b ≡ false) × (r ≡ Ok p)
few true d r p e = absurd cc
few false d r p e = (refl, e)

layout_taken : (s : Input) (p : List (List ℕ) × Input) → IsBytes s.left → layout_at s ≡ Ok p → FitsLayout p.0
    × Takes s (layout_bytes p.0) p.1
unfolding layout_at
layout_taken s p fits e =
    let x = bind_ok (nat_at 4 s) (λ n. cond (ltb 15 n.0) (Err (TooManyBoundaries s.at)) (boundaries_at None n.0 n.1)) p e in
    let one = (nat_law record_fault 4).taken s x.0 fits x.1 in
    let y = few (ltb 15 x.0.0) (TooManyBoundaries s.at) (boundaries_at None x.0.0 x.0.1) p x.2 in
    let two = boundaries_taken None x.0.0 x.0.1 p one.1.bytes y.1 in
    let low : x.0.0 ≤ 15 = ltb-false _ _ y.0 in
    let count : little 4 x.0.0 ≡ little 4 (length p.0) = ap (little 4) (sym two.0) in (
      ((subst (λ n. n ≤ 15) (sym two.0) low, two.1.0), two.1.1),
      Takes-then s x.0.1 p.1 (little 4 (length p.0))
          (flat_map counted_bytes p.0) (subst (λ (t : List ℕ). Takes s t x.0.1) count one.1) two.2,
    )

layout_again : (bs : List (List ℕ)) (at : ℕ) (rest : List ℕ) → FitsLayout bs → layout_at (before (layout_bytes bs) at rest) ≡ Ok (bs, behind (layout_bytes bs) at rest)
unfolding layout_at
layout_again bs at rest fits =
    let small : length bs < 256 ^ 4 = omega (arith, fits.0.0) in
    let low : ltb 15 (length bs) ≡ false = le-ltb _ _ fits.0.0 in
    let items = flat_map counted_bytes bs in
    let e : before (layout_bytes bs) at rest ≡ before (little 4 (length bs)) at (items ++ rest) = ap (λ (l : List ℕ). record { left = l; at = at }) (append_assoc (little 4 (length bs)) items rest) in
    let end : behind items (at + length (little 4 (length bs))) rest ≡ behind (layout_bytes bs) at rest = ap (λ n. record { left = rest; at = n }) (omega (arith, length-append (little 4 (length bs)) items)) in
    ap layout_at e ∙ rw ((nat_law record_fault 4).again (length bs) at (items ++ rest) small, low, boundaries_again None bs (at + length (little 4 (length bs))) rest (fits.0.1, fits.1)) (ap (λ (t : Input). answer (bs, t)) end)

-- what is read is spelled so and is a layout, and a layout is read from its spelling, whatever follows
pub layout_law : IsRead layout_at layout_bytes FitsLayout
layout_law = record { taken = layout_taken; again = layout_again }
