-- The two stacks of the checker.
use Rattle.std.proofs.Common.{◌≡◌, ◌≢◌, ℕ, zero, suc, ◌-◌, ◌<◌, ◌≤◌, List, [], ◌∷◌, ◌++◌, length, take, drop, reverse, map, get_or, Some, Bool, true, refl, sym, ap, ◌∙◌, arith, length-drop}
use Rattle.std.specs.Prelude.{slice_get, option_map}
use Rattle.std.proofs.lemmas.List.{length-reverse, reverse-append, get_or-reverse, take_all, drop_all}
use Rattle.std.proofs.lemmas.Option.{slice_get-map, slice_get-get_or}
use Rattle.nr_wasmvalid.specs.Rules.{Types?}
use Rattle.nr_wasmvalid.specs.Shapes.{Operand, Shape}
use Rattle.nr_wasmvalid.specs.Frames.{shape_at, shapes, label_of}
use Rattle.nr_wasmvalid.specs.declared.frame.Frame.{Frame}

pub label_deep : (fs : List Frame) (n depth : ℕ) (label : Types?) (f : Frame) → n ≡ length fs → depth ≢ 0 → depth ≤ n → f ≡ get_or fs (n - depth) f → slice_get (label ∷ map label_of (reverse fs)) depth ≡ Some f.label
label_deep fs n zero label f whole ne le is = absurd (ne refl)
label_deep fs n (suc d) label f whole ne le is =
    let lt : d < length (reverse fs) = omega (arith, length-reverse fs) in
    let same : length fs - 1 - d ≡ n - suc d = omega arith in
    slice_get-map label_of (reverse fs) d ∙ ap (option_map label_of) (slice_get-get_or (reverse fs) d f lt)
    ∙ ap (λ (g : Frame). Some g.label) (get_or-reverse fs d f (omega arith) ∙ ap (λ k. get_or fs k f) same ∙ sym is)

-- the operands of a block that has none end where it begins
nothing_above : (ops : List Operand) (h : ℕ) → reverse (drop h ops) ≡ [] → length ops ≤ h
nothing_above ops h e = let l : length (reverse (drop h ops)) ≡ 0 = ap length e in omega (arith, length-reverse (drop h ops), length-drop h ops)

pub leave_shape : (ops : List Operand) (h : ℕ) (g : Frame) (fs all : List Frame) → reverse (drop h ops) ≡ [] → all ≡ fs ++ g ∷ [] → shape_at ops g ∷ shapes (take g.height ops) (reverse fs) ≡ shapes (take h ops) (reverse all)
leave_shape ops h g fs all e is =
    let whole : take h ops ≡ ops = take_all h ops (nothing_above ops h e) in
    let turned : reverse all ≡ g ∷ reverse fs = ap reverse is ∙ reverse-append fs (g ∷ []) in
    sym (ap (λ (os : List Operand). shapes os (reverse all)) whole ∙ ap (shapes ops) turned)

pub leave_labels : (label : Types?) (g : Frame) (fs all : List Frame) → all ≡ fs ++ g ∷ [] → label ∷ map label_of (reverse all) ≡ label ∷ g.label ∷ map label_of (reverse fs)
leave_labels label g fs all is = ap (λ (gs : List Frame). label ∷ map label_of gs) (ap reverse is ∙ reverse-append fs (g ∷ []))

abbrev some_shape : List Operand → Bool → Shape
some_shape known any = record { known = known; any_below = any }

pub nothing_at : (ops : List Operand) (f : Frame) → length ops ≡ f.height → f.any_below ≡ true → shape_at ops f ≡ record { known = []; any_below = true }
nothing_at ops f l any =
    ap (λ (known : List Operand). some_shape (reverse known) f.any_below) (drop_all f.height ops (omega (arith, l))) ∙ ap (some_shape []) any
