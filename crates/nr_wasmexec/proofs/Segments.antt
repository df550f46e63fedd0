-- The vectors of a thread, cut at its heights.
use Rattle.std.proofs.Common.{◌≡◌, ℕ, ◌+◌, ◌-◌, ◌<◌, ◌≤◌, Bool, false, List, [], ◌∷◌, ◌++◌, length, take, drop, Some, nat_lt, refl, sym, ap, ◌∙◌, subst, arith, length-append, length-drop, set}
use Rattle.std.specs.Prelude.{reverse, slice_set}
use Rattle.std.proofs.Math.Seq.{drop-append_seam, take-append_seam}
use Rattle.std.proofs.lemmas.List.{take-append-drop, take-append-le, drop-append-le, drop-drop, drop-take, reverse-append, reverse-reverse, length-reverse, length-take-le, take-set-le, drop-set-add}
use Rattle.nr_wasmtypes.specs.Code as tree
use Rattle.nr_wasmtypes.specs.Code.{Code, code_of}
use Rattle.nr_wasmexec.specs.declared.control.Control.{Control}
use Rattle.nr_wasmexec.specs.declared.control.Control.TheVariants.{Label, Frame}
use Rattle.nr_wasmexec.specs.Place.{InFrame, Place, left, out_of_label, landed, frames_in, held_in}
use Rattle.nr_wasmexec.specs.Thread.{target_at, contexts_of, AreStacked, count_frames, IsLabelAt}

-- ---- lists
pub take_twice : (n h : ℕ) (xs : List ℕ) → n ≤ h → h ≤ length xs → take n (take h xs) ≡ take n xs
take_twice n h xs le within =
    let len : length (take h xs) ≡ h = length-take-le h xs within in
    let fits : n ≤ length (take h xs) = omega arith in
    sym (take-append-le n (take h xs) (drop h xs) fits) ∙ ap (take n) (take-append-drop h xs)

pub drop_split : (n h : ℕ) (xs : List ℕ) → n ≤ h → h ≤ length xs → drop n (take h xs) ++ drop h xs ≡ drop n xs
drop_split n h xs le within =
    let len : length (take h xs) ≡ h = length-take-le h xs within in
    let fits : n ≤ length (take h xs) = omega arith in
    sym (drop-append-le n (take h xs) (drop h xs) fits) ∙ ap (drop n) (take-append-drop h xs)

-- the operands of two sequences are those of one
pub joined : (n h : ℕ) (xs : List ℕ) → n ≤ h → h ≤ length xs → reverse (drop h xs) ++ reverse (drop n (take h xs)) ≡ reverse (drop n xs)
joined n h xs le within = sym (reverse-append (drop n (take h xs)) (drop h xs)) ∙ ap reverse (drop_split n h xs le within)

pub take_reverse : (k : ℕ) (xs : List ℕ) → k ≤ length xs → take k (reverse xs) ≡ reverse (drop (length xs - k) xs)
take_reverse k xs le =
    let m = length xs - k in
    let len : length (reverse (drop m xs)) ≡ k = omega (arith, length-reverse (drop m xs), length-drop m xs) in
    let e : reverse xs ≡ reverse (drop m xs) ++ reverse (take m xs) = ap reverse (sym (take-append-drop m xs)) ∙ reverse-append (take m xs) (drop m xs) in
    ap (take k) e ∙ (ap (λ j. take j (reverse (drop m xs) ++ reverse (take m xs))) (sym len) ∙ take-append_seam (reverse (drop m xs)) (reverse (take m xs)))

pub drop_reverse : (k : ℕ) (xs : List ℕ) → k ≤ length xs → drop k (reverse xs) ≡ reverse (take (length xs - k) xs)
drop_reverse k xs le =
    let m = length xs - k in
    let len : length (reverse (drop m xs)) ≡ k = omega (arith, length-reverse (drop m xs), length-drop m xs) in
    let e : reverse xs ≡ reverse (drop m xs) ++ reverse (take m xs) = ap reverse (sym (take-append-drop m xs)) ∙ reverse-append (take m xs) (drop m xs) in
    ap (drop k) e ∙ (ap (λ j. drop j (reverse (drop m xs) ++ reverse (take m xs))) (sym len) ∙ drop-append_seam (reverse (drop m xs)) (reverse (take m xs)))

empty_of : (xs : List ℕ) → length xs ≡ 0 → xs ≡ []
empty_of [] e = refl
empty_of (x ∷ xs) e = absurd (omega (arith, e))

drop_take_nothing : (xs : List ℕ) (i : ℕ) → i ≤ length xs → drop i (take i xs) ≡ []
drop_take_nothing xs i le =
    let len : length (take i xs) ≡ i = length-take-le i xs le in
    let none : length (drop i (take i xs)) ≡ 0 = omega (arith, length-drop i (take i xs)) in
    empty_of (drop i (take i xs)) none

-- ---- places
abbrev pub place_at : List ℕ → List ℕ → ℕ → ℕ → Code → List Control → Place
place_at ops ls h b code cs =
    record { values = reverse (drop h ops); code = code; locals = drop b ls; contexts = contexts_of (take h ops) (take b ls) cs }

pub left_label : (ops ls : List ℕ) (h b : ℕ) (code : Code) (controls : List Control) (p : Place) (below n : ℕ) (again : Bool) (at : _) (cs : List Control) (after : Code) → place_at ops ls h b code (reverse controls) ≡ p → h ≤ length ops → AreStacked h b (reverse controls) → reverse controls ≡ Label below n again at ∷ cs → after ≡ tree.after (code_of at.now) → left p p.contexts ≡ Some (place_at ops ls below b after cs)
left_label ops ls h b code controls p below n again at cs after is within stacked top next =
    let le : below ≤ h = (subst (AreStacked h b) top stacked).0 in
    subst (λ p. left p p.contexts ≡ Some (place_at ops ls below b after cs)) is
    (rw (top, next, joined below h ops le within, take_twice below h ops le within) refl)

pub left_frame : (ops ls ls' : List ℕ) (h b : ℕ) (code : Code) (controls : List Control) (p : Place) (below under n : ℕ) (at : _) (cs : List Control) (after : Code) → place_at ops ls h b code (reverse controls) ≡ p → h ≤ length ops → b ≤ length ls → AreStacked h b (reverse controls) → reverse controls ≡ Frame below under n at ∷ cs → after ≡ tree.after (code_of at.now) → ls' ≡ take b ls → left p p.contexts ≡ Some (place_at ops ls' below under after cs)
left_frame ops ls ls' h b code controls p below under n at cs after is within within' stacked top next cut =
    let le : below ≤ h = (subst (AreStacked h b) top stacked).0 in
    subst (λ p. left p p.contexts ≡ Some (place_at ops ls' below under after cs)) is
    (rw (top, next, cut, joined below h ops le within, take_twice below h ops le within) refl)

pub label_left : (ops ls : List ℕ) (h b : ℕ) (code : Code) (cs : List Control) (p : Place) (below : ℕ) (cs' : List Control) → place_at ops ls h b code cs ≡ p → h ≤ length ops → AreStacked h b cs → IsLabelAt below cs cs' → out_of_label p p.contexts ≡ Some (place_at ops ls below b code cs')
label_left ops ls h b code [] p below cs' is within stacked top = absurd top
label_left ops ls h b code (Frame x y n at ∷ cs) p below cs' is within stacked top = absurd top
label_left ops ls h b code (Label x n again at ∷ cs) p below cs' is within stacked top =
    let le : below ≤ h = rw top.0 stacked.0 in
    subst (λ p. out_of_label p p.contexts ≡ Some (place_at ops ls below b code cs')) is
    (rw (top.1, ← top.0, joined below h ops le within, take_twice below h ops le within) refl)

-- what a branch keeps
pub kept : (n h : ℕ) (ops : List ℕ) → h ≤ length ops → n ≤ length ops - h → reverse (drop (length ops - n) ops) ≡ take n (reverse (drop h ops))
kept n h ops within le =
    let len : length (drop h ops) ≡ length ops - h = length-drop h ops in
    let fits : n ≤ length (drop h ops) = omega arith in
    let e : h + (length (drop h ops) - n) ≡ length ops - n = omega arith in
    sym (take_reverse n (drop h ops) fits ∙ (ap reverse (drop-drop (length (drop h ops) - n) h ops) ∙ ap (λ k. reverse (drop k ops)) e))

landed_values : (n h below : ℕ) (ops : List ℕ) → h ≤ length ops → below ≤ h → n ≤ length ops - h → take n (reverse (drop h ops)) ++ reverse (drop below (take h ops)) ≡ reverse (drop below (take h ops ++ drop (length ops - n) ops))
landed_values n h below ops within le fits =
    let len : length (take h ops) ≡ h = length-take-le h ops within in
    let in_front : below ≤ length (take h ops) = omega arith in
    sym (ap reverse (drop-append-le below (take h ops) (drop (length ops - n) ops) in_front)
    ∙ (reverse-append (drop below (take h ops)) (drop (length ops - n) ops) ∙ ap (λ t. t ++ reverse (drop below (take h ops))) (kept n h ops within fits)))

landed_below : (n h below : ℕ) (ops : List ℕ) → h ≤ length ops → below ≤ h → take below (take h ops) ≡ take below (take h ops ++ drop (length ops - n) ops)
landed_below n h below ops within le =
    let len : length (take h ops) ≡ h = length-take-le h ops within in
    let in_front : below ≤ length (take h ops) = omega arith in
    sym (take-append-le below (take h ops) (drop (length ops - n) ops) in_front)

not_below : (a b : ℕ) → b ≤ a → nat_lt a b ≡ false
not_below a b le = grind (arith)

pub landed_label : (ops ops' ls : List ℕ) (h b : ℕ) (code : Code) (controls : List Control) (p : Place) (below n have : ℕ) (again : Bool) (at : _) (cs : List Control) (after : Code) → place_at ops ls h b code (reverse controls) ≡ p → h ≤ length ops → AreStacked h b (reverse controls) → reverse controls ≡ Label below n again at ∷ cs → after ≡ target_at again (code_of at.now) → n ≤ have → have ≤ length p.values → ops' ≡ take h ops ++ drop (length ops - n) ops → landed have p.values p.locals p.contexts ≡ Some (place_at ops' ls below b after cs)
landed_label ops ops' ls h b code controls p below n have again at cs after is within stacked top next enough held shape =
    let le : below ≤ h = (subst (AreStacked h b) top stacked).0 in
    let held' : have ≤ length (reverse (drop h ops)) = subst (λ (p : Place). have ≤ length p.values) (sym is) held in
    let fits : n ≤ length ops - h = omega (arith, held', length-reverse (drop h ops), length-drop h ops) in
    subst (λ p. landed have p.values p.locals p.contexts ≡ Some (place_at ops' ls below b after cs)) is
    (rw (top, next, shape, not_below have n enough, landed_values n h below ops within le fits, landed_below n h below ops within le) refl)

pub landed_frame : (ops ops' ls ls' : List ℕ) (h b : ℕ) (code : Code) (controls : List Control) (p : Place) (below under n have : ℕ) (at : _) (cs : List Control) (after : Code) → place_at ops ls h b code (reverse controls) ≡ p → h ≤ length ops → AreStacked h b (reverse controls) → reverse controls ≡ Frame below under n at ∷ cs → after ≡ tree.after (code_of at.now) → n ≤ have → have ≤ length p.values → ops' ≡ take h ops ++ drop (length ops - n) ops → ls' ≡ take b ls → landed have p.values p.locals p.contexts ≡ Some (place_at ops' ls' below under after cs)
landed_frame ops ops' ls ls' h b code controls p below under n have at cs after is within stacked top next enough held shape cut =
    let le : below ≤ h = (subst (AreStacked h b) top stacked).0 in
    let held' : have ≤ length (reverse (drop h ops)) = subst (λ (p : Place). have ≤ length p.values) (sym is) held in
    let fits : n ≤ length ops - h = omega (arith, held', length-reverse (drop h ops), length-drop h ops) in
    subst (λ p. landed have p.values p.locals p.contexts ≡ Some (place_at ops' ls' below under after cs)) is
    (rw (top, next, shape, cut, not_below have n enough, landed_values n h below ops within le fits, landed_below n h below ops within le) refl)

-- ---- what is held
pub frames_are : (cs : List Control) (a b : List ℕ) → frames_in (contexts_of a b cs) ≡ count_frames cs
frames_are [] a b = refl
frames_are (Label h n again at ∷ cs) a b = frames_are cs (take h a) b
frames_are (Frame h u n at ∷ cs) a b = ap (λ k. k + 1) (frames_are cs (take h a) (take u b))

pub frames_le : (cs : List Control) → count_frames cs ≤ length cs
frames_le [] = omega arith
frames_le (Label h n again at ∷ cs) = omega (arith, frames_le cs)
frames_le (Frame h u n at ∷ cs) = omega (arith, frames_le cs)

pub held_are : (cs : List Control) (a b : List ℕ) → AreStacked (length a) (length b) cs → held_in (contexts_of a b cs) ≡ length a + length b
held_are [] a b s = omega (arith, s.0, s.1)
held_are (Label h n again at ∷ cs) a b s =
    let len : length (take h a) ≡ h = length-take-le h a s.0 in
    let rest = held_are cs (take h a) b (rw len s.1) in
    omega (arith, rest, len, length-reverse (drop h a), length-drop h a, s.0)
held_are (Frame h u n at ∷ cs) a b s =
    let len : length (take h a) ≡ h = length-take-le h a s.0 in
    let len' : length (take u b) ≡ u = length-take-le u b s.1 in
    let rest = held_are cs (take h a) (take u b) (rw (len, len') s.2) in
    omega (arith, rest, len, len', length-reverse (drop h a), length-drop h a, length-drop u b, s.0, s.1)

-- ---- a call's frame
pub cut_values : (k h : ℕ) (ops : List ℕ) → h ≤ length ops → k ≤ length ops - h → reverse (drop h (take (length ops - k) ops)) ≡ drop k (reverse (drop h ops))
cut_values k h ops within le =
    let len : length (drop h ops) ≡ length ops - h = length-drop h ops in
    let fits : k ≤ length (drop h ops) = omega arith in
    let e : length ops - k ≡ h + (length (drop h ops) - k) = omega arith in
    ap (λ m. reverse (drop h (take m ops))) e ∙ (ap reverse (drop-take h (length (drop h ops) - k) ops) ∙ sym (drop_reverse k (drop h ops) fits))

pub cut_at : (k h m : ℕ) (ops ops' ls : List ℕ) (b : ℕ) (code : Code) (cs : List Control) (p : Place)
    → place_at ops ls h b code cs ≡ p → h ≤ length ops → k ≤ length p.values → m ≡ length ops
    → ops' ≡ take (m - k) ops → place_at ops' ls h b code cs
    ≡ record { values = drop k p.values; code = p.code; locals = p.locals; contexts = p.contexts }
cut_at k h m ops ops' ls b code cs p is within held size shape =
    let held' : k ≤ length (reverse (drop h ops)) = subst (λ (p : Place). k ≤ length p.values) (sym is) held in
    let fits : k ≤ length ops - h = omega (arith, held', length-reverse (drop h ops), length-drop h ops) in
    let short : h ≤ length ops - k = omega arith in
    let inside : length ops - k ≤ length ops = omega arith in
    subst (λ p. place_at ops' ls h b code cs ≡ record { values = drop k p.values; code = p.code; locals = p.locals; contexts = p.contexts }) is
    (rw (shape, size, cut_values k h ops within fits, take_twice h (length ops - k) ops short inside) refl)

-- the locals of a frame that a call makes
pub invoked_at : (k h m u : ℕ) (ops ops' ls ls' more : List ℕ) (b n : ℕ) (code body : Code) (controls controls' : List Control) (at : _) (p : Place) → place_at ops ls h b code (reverse controls) ≡ p → h ≤ length ops → b ≤ length ls → k ≤ length p.values → m ≡ length ops → u ≡ length ls → ops' ≡ take (m - k) ops → ls' ≡ ls ++ (drop (m - k) ops ++ more) → controls' ≡ controls ++ Frame h b n at ∷ [] → code_of at.now ≡ code → place_at ops' ls' (m - k) u body (reverse controls') ≡ record { values = []; code = body; locals = reverse (take k p.values) ++ more; contexts = InFrame (drop k p.values) n p.locals (tree.after p.code) ∷ p.contexts }
invoked_at k h m u ops ops' ls ls' more b n code body controls controls' at p is within within' held size size' shape shape' pushed here =
    let held' : k ≤ length (reverse (drop h ops)) = subst (λ (p : Place). k ≤ length p.values) (sym is) held in
    let fits : k ≤ length ops - h = omega (arith, held', length-reverse (drop h ops), length-drop h ops) in
    let short : h ≤ length ops - k = omega arith in
    let inside : length ops - k ≤ length ops = omega arith in
    let len : length (take (length ops - k) ops) ≡ length ops - k = length-take-le (length ops - k) ops inside in
    let nothing : drop (length ops - k) (take (length ops - k) ops) ≡ [] = drop_take_nothing ops (length ops - k) inside in
    let all : take (length ops - k) (take (length ops - k) ops) ≡ take (length ops - k) ops = take_twice (length ops - k) (length ops - k) ops (omega arith) inside in
    let args : drop (length ops - k) ops ≡ reverse (take k (reverse (drop h ops))) = sym (reverse-reverse (drop (length ops - k) ops)) ∙ ap reverse (kept k h ops within fits) in
    subst (λ p. place_at ops' ls' (m - k) u body (reverse controls') ≡ record { values = []; code = body; locals = reverse (take k p.values) ++ more; contexts = InFrame (drop k p.values) n p.locals (tree.after p.code) ∷ p.contexts }) is
    (rw (shape, shape', pushed, size, size', reverse-append controls (Frame h b n at ∷ []), nothing, all, drop-append_seam ls (drop (length ops - k) ops ++ more), take-append_seam ls (drop (length ops - k) ops ++ more), here, cut_values k h ops within fits, take_twice h (length ops - k) ops short inside, args) refl)

-- a local of the innermost frame
pub local_set_at : (n v m : ℕ) (ops ls : List ℕ) (h b : ℕ) (code : Code) (cs : List Control) (p : Place)
    → place_at ops ls h b code cs ≡ p → b ≤ length ls → m ≡ length ls → n < m - b → (n < length p.locals)
    × (place_at ops (set ls (b + n) v) h b code cs
    ≡ record { values = p.values; code = p.code; locals = slice_set p.locals n v; contexts = p.contexts })
local_set_at n v m ops ls h b code cs p is within size inside =
    let len : length (drop b ls) ≡ length ls - b = length-drop b ls in
    let here : n < length (drop b ls) = omega arith in
    let below : b ≤ b + n = omega arith in
    subst (λ (p : Place). (n < length p.locals) × (place_at ops (set ls (b + n) v) h b code cs ≡ record { values = p.values; code = p.code; locals = slice_set p.locals n v; contexts = p.contexts })) is
    (here, rw (drop-set-add b ls n v, take-set-le b ls (b + n) v below) refl)

pub frames_fit : (k n : ℕ) (controls new : List Control) (x : Control) → k ≡ count_frames (reverse controls) → new ≡ controls ++ x ∷ [] → n ≡ length new → k + 1 ≤ n
frames_fit k n controls new x e pushed size =
    let len : length new ≡ length controls + 1 = ap length pushed ∙ length-append controls (x ∷ []) in
    omega (arith, frames_le (reverse controls), length-reverse controls)
