-- Sections one after the other: what is left of a module is read as the grammar spells it, and custom sections are passed over.
use Rattle.std.proofs.Common.{◌≡◌, ◌≢◌, ◌⊎◌, ℕ, zero, suc, ◌+◌, ◌<◌, ◌≤◌, Bool, true, false, cond, eqb, List, [], ◌∷◌, ◌++◌, length, drop, Option, Some, None, Result, Ok, Err, refl, sym, ap, subst, ◌∙◌, append_assoc, arith, inl, inr}
use Rattle.std.proofs.lemmas.Bool.{eqb-true, eq-eqb}
use Rattle.std.proofs.lemmas.Bool.Decides.{eqb_tells}
use Rattle.std.proofs.lemmas.List.{length-append}
use Rattle.nr_bytes.proofs.Basics.{bind_ok}
use Rattle.nr_bytes.specs.Reading.{Input, past, ◌>>=◌}
use Rattle.nr_bytes.specs.Spelling.{before, behind}
use Rattle.nr_bytes.specs.Fields.{mapped, pair}
use Rattle.nr_wasmtypes.specs.declared.module.Module.{Module}
use Rattle.nr_wasmbin.specs.Fields.{Read, begins, name_at, sized_at, whole}
use Rattle.nr_wasmbin.specs.Modules.{custom_at, customs_at, skipped, entered, held, section_at}
use Rattle.nr_wasmbin.specs.Grammar.{Language, ◌▸◌, byte, u32, many, sized, custom, customs, section}
use Rattle.nr_wasmbin.specs.declared.fault.DecodeFault.{DecodeFault}
use Rattle.nr_wasmbin.proofs.Laws.{Takes, Law, goes, answer, ok_is, given, given_is, name_law, sized_taken, sized_again, whole_taken, whole_again, regroup, behind_both}

-- ---- a first byte
first_is : (id : ℕ) (left : List ℕ) → begins id left ≡ true → left ≡ id ∷ drop 1 left
first_is id [] e = absurd cc
first_is id (b ∷ bs) e = ap (λ (n : ℕ). n ∷ bs) (eqb-true b id e)

-- all that is left
abbrev pub from : List ℕ → ℕ → Input
from text at = record { left = text; at = at }

-- ---- a custom section
custom_taken : (s t : Input) → begins 0 s.left ≡ true → custom_at s ≡ Ok t → Takes s custom t
unfolding custom_at
custom_taken s t some e =
    let i = bind_ok (sized_at (past 1 s)) (λ inner. name_at inner.0 >>= λ name. Ok inner.1) t e in
    let n = bind_ok (name_at i.0.0) (λ name. Ok i.0.1) t i.2 in
    let size = sized_taken (past 1 s) i.0 i.1 in
    let one = name_law.taken i.0.0 n.0 n.1 in
    let text : List ℕ = 0 ∷ (size.0 ++ i.0.0.left) in
    let all : s.left ≡ text ++ i.0.1.left = first_is 0 s.left some ∙ ap (λ (l : List ℕ). 0 ∷ l) size.1 in
    subst (λ (t : Input). Takes s custom t) (given_is i.0.1 t n.2)
    (text, all, (0 ∷ [], size.0 ++ i.0.0.left, refl, refl, (size.0, i.0.0.left, refl, size.2, (n.0.0, (one.0, n.0.1.left, one.1, one.2, tt)))))

custom_again : (text : List ℕ) (at : ℕ) (rest : List ℕ) → custom text → (begins 0 (before text at rest).left ≡ true) × (custom_at (before text at rest) ≡ Ok (behind text at rest)) × (0 < length text)
unfolding custom_at
custom_again text at rest h =
    let z = h.4 in
    let n = z.4 in
    let w = n.1 in
    let size = z.0 in
    let contents = z.1 in
    let P : List ℕ → Type 0 = λ text. (begins 0 (before text at rest).left ≡ true) × (custom_at (before text at rest) ≡ Ok (behind text at rest)) × (0 < length text) in
    let inner : name_at (from contents (at + 1 + length size)) ≡ Ok (n.0, from w.1 (at + 1 + length size + length w.0)) =
    ap (λ (l : List ℕ). name_at (from l (at + 1 + length size))) w.2 ∙ name_law.again n.0 w.0 (at + 1 + length size) w.1 w.3 in
    let here : custom_at (before (0 ∷ (size ++ contents)) at rest) ≡ Ok (behind (0 ∷ (size ++ contents)) at rest) =
    goes (sized_at (before (size ++ contents) (at + 1) rest)) (λ inner. name_at inner.0 >>= λ name. Ok inner.1) (from contents (at + 1 + length size), behind (size ++ contents) (at + 1) rest)
    (Ok (behind (0 ∷ (size ++ contents)) at rest)) (sized_again size contents (at + 1) rest z.3)
    (goes (name_at (from contents (at + 1 + length size))) (λ name. Ok (behind (size ++ contents) (at + 1) rest)) (n.0, from w.1 (at + 1 + length size + length w.0)) (Ok (behind (0 ∷ (size ++ contents)) at rest)) inner
    (ap (λ (k : ℕ). given (from rest k)) (omega arith))) in
    let is : text ≡ 0 ∷ (size ++ contents) = h.2 ∙ ap (λ (l : List ℕ). l ++ h.1) h.3 ∙ ap (λ (l : List ℕ). 0 ∷ l) z.2 in
    subst P (sym is) (refl, here, omega arith)

-- ---- custom sections
customs_case : (turns : ℕ) (s t : Input) (b : Bool) → begins 0 s.left ≡ b → cond b (custom_at s >>= customs_at turns) (Ok s) ≡ Ok t → ((u : Input) → customs_at turns u ≡ Ok t → Takes u customs t) → Takes s customs t
customs_case turns s t true is e ih =
    let u = bind_ok (custom_at s) (customs_at turns) t e in
    let one = custom_taken s u.0 is u.1 in
    let more = ih u.0 u.2 in
    (one.0 ++ more.0, one.1 ∙ ap (λ (l : List ℕ). one.0 ++ l) more.1 ∙ sym (append_assoc one.0 more.0 t.left), (suc more.2.0, (one.0, more.0, refl, one.2, more.2.1)))
customs_case turns s t false is e ih = subst (λ (t : Input). Takes s customs t) (given_is s t e) ([], refl, (0, refl))

customs_taken : (turns : ℕ) (s t : Input) → customs_at turns s ≡ Ok t → Takes s customs t
unfolding customs_at
customs_taken zero s t e = subst (λ (t : Input). Takes s customs t) (given_is s t e) ([], refl, (0, refl))
customs_taken (suc turns) s t e = customs_case turns s t (begins 0 s.left) refl e (λ u h. customs_taken turns u t h)

custom_shorter : (s t : Input) → begins 0 s.left ≡ true → custom_at s ≡ Ok t → length t.left < length s.left
custom_shorter s t some e =
    let one = custom_taken s t some e in
    let again = custom_again one.0 0 t.left one.2 in
    omega (arith, again.2, ap length one.1, length-append one.0 t.left)

-- enough turns pass over all of them
ends_case : (turns : ℕ) (s t : Input) (b : Bool) → begins 0 s.left ≡ b → length s.left ≤ suc turns → cond b (custom_at s >>= customs_at turns) (Ok s) ≡ Ok t
    → ((u : Input) → length u.left ≤ turns → customs_at turns u ≡ Ok t → begins 0 t.left ≡ false) → begins 0 t.left ≡ false
ends_case turns s t true is long e ih =
    let u = bind_ok (custom_at s) (customs_at turns) t e in
    let shorter = custom_shorter s u.0 is u.1 in
    ih u.0 (omega arith) u.2
ends_case turns s t false is long e ih = ap (λ (u : Input). begins 0 u.left) (sym (given_is s t e)) ∙ is

none_begins : (l : List ℕ) → length l ≤ 0 → begins 0 l ≡ false
none_begins [] h = refl
none_begins (b ∷ bs) h = absurd (omega arith)

customs_end : (turns : ℕ) (s t : Input) → length s.left ≤ turns → customs_at turns s ≡ Ok t → begins 0 t.left ≡ false
unfolding customs_at
customs_end zero s t long e = ap (λ (u : Input). begins 0 u.left) (sym (given_is s t e)) ∙ none_begins s.left long
customs_end (suc turns) s t long e = ends_case turns s t (begins 0 s.left) refl long e (λ u h k. customs_end turns u t h k)

-- more turns than enough give the same
same_case : (j k : ℕ) (s : Input) (b : Bool) → begins 0 s.left ≡ b → ((u : Input) → custom_at s ≡ Ok u → customs_at j u ≡ customs_at k u) → (r : Result Input DecodeFault) → custom_at s ≡ r
    → cond b (r >>= customs_at j) (Ok s) ≡ cond b (r >>= customs_at k) (Ok s)
same_case j k s true is ih (Ok u) e = ih u e
same_case j k s true is ih (Err d) e = refl
same_case j k s false is ih r e = refl

same_later : (j k : ℕ) (s : Input) (c : Bool) → begins 0 s.left ≡ c → ((u : Input) → begins 0 s.left ≡ true → custom_at s ≡ Ok u → customs_at j u ≡ customs_at k u) → cond c (custom_at s >>= customs_at j) (Ok s) ≡ cond c (custom_at s >>= customs_at k) (Ok s)
same_later j k s true is ih = same_case j k s true is (λ u e. ih u is e) (custom_at s) refl
same_later j k s false is ih = refl

customs_same : (j k : ℕ) (s : Input) → length s.left ≤ j → length s.left ≤ k → customs_at j s ≡ customs_at k s
unfolding customs_at
customs_same zero zero s a b = refl
customs_same zero (suc k) s a b = sym (ap (λ b. cond b (custom_at s >>= customs_at k) (Ok s)) (none_begins s.left a))
customs_same (suc j) zero s a b = ap (λ b. cond b (custom_at s >>= customs_at j) (Ok s)) (none_begins s.left b)
customs_same (suc j) (suc k) s a b =
    same_later j k s (begins 0 s.left) refl (λ u is e. let shorter = custom_shorter s u is e in customs_same j k u (omega arith) (omega arith))

skipped_one : (s t : Input) → begins 0 s.left ≡ true → custom_at s ≡ Ok t → skipped s ≡ skipped t
unfolding customs_at
skipped_one s t some e = begun (length s.left) refl
  where
    begun : (n : ℕ) → n ≡ length s.left → customs_at n s ≡ skipped t
    begun zero is = absurd (let shorter = custom_shorter s t some e in omega arith)
    begun (suc n) is =
        let shorter = custom_shorter s t some e in
        ap (λ b. cond b (custom_at s >>= customs_at n) (Ok s)) some ∙ ap (λ (r : Result Input DecodeFault). r >>= customs_at n) e ∙ customs_same n (length t.left) t (omega arith) (omega arith)

pub skipped_none : (s : Input) → begins 0 s.left ≡ false → skipped s ≡ Ok s
unfolding customs_at
skipped_none s none = begun (length s.left)
  where
    begun : (n : ℕ) → customs_at n s ≡ Ok s
    begun zero = refl
    begun (suc n) = ap (λ b. cond b (custom_at s >>= customs_at n) (Ok s)) none

pub skipped_ends : (s t : Input) → skipped s ≡ Ok t → begins 0 t.left ≡ false
skipped_ends s t e = customs_end (length s.left) s t (omega arith) e

-- custom sections of the grammar are passed over
many_again : (n : ℕ) (text : List ℕ) (at : ℕ) (rest : List ℕ) → many custom n text → skipped (before text at rest) ≡ skipped (behind text at rest)
many_again zero text at rest h = ap skipped (ap (λ (l : List ℕ). before l at rest) h ∙ ap (λ k. from rest k) (omega arith) ∙ ap (λ (l : List ℕ). behind l at rest) (sym h))
many_again (suc n) text at rest h =
    let one = custom_again h.0 at (h.1 ++ rest) h.3 in
    ap (λ (l : List ℕ). skipped (before l at rest)) h.2
    ∙ ap skipped (regroup h.0 h.1 at rest)
    ∙ skipped_one (before h.0 at (h.1 ++ rest)) (behind h.0 at (h.1 ++ rest)) one.0 one.1
    ∙ many_again n h.1 (at + length h.0) rest h.4
    ∙ ap skipped (behind_both h.0 h.1 at rest)
    ∙ ap (λ (l : List ℕ). skipped (behind l at rest)) (sym h.2)

pub customs_again : (text : List ℕ) (at : ℕ) (rest : List ℕ) → customs text → skipped (before text at rest) ≡ skipped (behind text at rest)
customs_again text at rest h = many_again h.0 text at rest h.1

pub skipped_taken : (s t : Input) → skipped s ≡ Ok t → Takes s customs t
skipped_taken s t e = customs_taken (length s.left) s t e

-- ---- what is left of a module
-- nothing is left, or a section with this id or a higher one
abbrev pub Starts : ℕ → List ℕ → Type 0
Starts id [] = Unit {0}
Starts id (b ∷ bs) = id ≤ b

pub record Rest {M : Type 0} (id : ℕ) (reading : Input → Result M DecodeFault) (grammar : M → Language) : Type 0 where
  pub taken : (s : Input) (m : M) → reading s ≡ Ok m → grammar m s.left
  pub again : (m : M) (text : List ℕ) (at : ℕ) → grammar m text → reading (from text at) ≡ Ok m
  pub skips : (s t : Input) → skipped s ≡ Ok t → reading s ≡ reading t
  pub first : (m : M) (text : List ℕ) (at : ℕ) → grammar m text → (t : Input) × (skipped (from text at) ≡ Ok t) × Starts id t.left

pub rest_where : {M : Type 0} (id : ℕ) (r q : Input → Result M DecodeFault) (g h : M → Language) → ((s : Input) → r s ≡ q s) → ((m : M) (text : List ℕ) → g m text → h m text) → ((m : M) (text : List ℕ) → h m text → g m text) → Rest id q g → Rest id r h
rest_where id r q g h same there back law = record {
  taken = λ s m e. there m s.left (law.taken s m (sym (same s) ∙ e));
  again = λ m text at k. same (from text at) ∙ law.again m text at (back m text k);
  skips = λ s t e. same s ∙ law.skips s t e ∙ sym (same t);
  first = λ m text at k. law.first m text at (back m text k);
}

-- ---- a section
-- the section, or nothing where it is absent
abbrev Stands : {X : Type 0} → ℕ → (List X → Language) → List X → Language
Stands id g xs text = ((text ≡ []) × (xs ≡ [])) ⊎ (byte id ▸ sized (g xs)) text

section_taken : {X : Type 0} (id : ℕ) (r : Input → Read (List X)) (g : List X → Language) → Law r g → (s : Input) (p : List X × Input) → section_at id r s ≡ Ok p → Takes s (section id g p.0) p.1
unfolding section_at entered
section_taken {X} id r g law s p e =
    let i = bind_ok (skipped s >>= λ t. cond (begins id t.left) (mapped Some sized_at (past 1 t)) (Ok (None, t))) (λ inner. held r inner.0 >>= λ xs. answer (xs, inner.1)) p e in
    let t = bind_ok (skipped s) (λ t. cond (begins id t.left) (mapped Some sized_at (past 1 t)) (Ok (None, t))) i.0 i.1 in
    let xs = bind_ok (held r i.0.0) (λ xs. answer (xs, i.0.1)) p i.2 in
    let front = skipped_taken s t.0 t.1 in
    let made : List X × Input = (xs.0, i.0.1) in
    let one = inside t.0 i.0 xs.0 (begins id t.0.left) refl t.2 xs.1 in
    subst (λ (p : List X × Input). Takes s (section id g p.0) p.1) (ok_is made p xs.2)
    (front.0 ++ one.0, front.1 ∙ ap (λ (l : List ℕ). front.0 ++ l) one.1 ∙ sym (append_assoc front.0 one.0 i.0.1.left), (front.0, one.0, refl, front.2, one.2))
  where
    inside : (t : Input) (i : Option Input × Input) (xs : List X) (b : Bool) → begins id t.left ≡ b → cond b (mapped Some sized_at (past 1 t)) (Ok (None, t)) ≡ Ok i → held r i.0 ≡ Ok xs → Takes t (Stands id g xs) i.1
    inside t i xs true is e h =
        let u = bind_ok (sized_at (past 1 t)) (λ m. answer (Some m.0, m.1)) i e in
        let size = sized_taken (past 1 t) u.0 u.1 in
        let made : Option Input × Input = (Some u.0.0, u.0.1) in
        let whole_is : whole r u.0.0 ≡ Ok xs = ap (λ (j : Option Input × Input). held r j.0) (ok_is made i u.2) ∙ h in
        let text : List ℕ = id ∷ (size.0 ++ u.0.0.left) in
        subst (λ (i : Option Input × Input). Takes t (Stands id g xs) i.1) (ok_is made i u.2)
        (text, first_is id t.left is ∙ ap (λ (l : List ℕ). id ∷ l) size.1, inr (id ∷ [], size.0 ++ u.0.0.left, refl, refl, (size.0, u.0.0.left, refl, size.2, whole_taken r g law u.0.0 xs whole_is)))
    inside t i xs false is e h =
        let made : Option Input × Input = (None, t) in
        let none : given [] ≡ given xs = ap (λ (j : Option Input × Input). held r j.0) (ok_is made i e) ∙ h in
        subst (λ (i : Option Input × Input). Takes t (Stands id g xs) i.1) (ok_is made i e) ([], refl, inl (refl, sym (given_is [] xs none)))

-- a section that stands next
here_again : {X : Type 0} (id : ℕ) (r : Input → Read (List X)) (g : List X → Language) → Law r g → (xs : List X) (s : Input) (size contents : List ℕ) (at : ℕ) (rest : List ℕ) → 0 < id
    → skipped s ≡ Ok (before (id ∷ (size ++ contents)) at rest) → u32 (length contents) size → g xs contents → section_at id r s ≡ Ok (xs, behind (id ∷ (size ++ contents)) at rest)
unfolding section_at entered
here_again {X} id r g law xs s size contents at rest some skip u k =
    let sized : sized_at (before (size ++ contents) (at + 1) rest) ≡ Ok (from contents (at + 1 + length size), behind (size ++ contents) (at + 1) rest) = sized_again size contents (at + 1) rest u in
    ap (λ (m : Result Input DecodeFault). (m >>= λ t. cond (begins id t.left) (mapped Some sized_at (past 1 t)) (Ok (None, t))) >>= λ inner. held r inner.0 >>= λ xs. answer (xs, inner.1)) skip
    ∙ ap (λ b. cond b (mapped Some sized_at (before (size ++ contents) (at + 1) rest)) (Ok (None, before (id ∷ (size ++ contents)) at rest)) >>= λ inner. held r inner.0 >>= λ xs. answer (xs, inner.1)) (eq-eqb id id refl)
    ∙ ap (λ (m : Read Input). (m >>= λ i. answer (Some i.0, i.1)) >>= λ inner. held r inner.0 >>= λ xs. answer (xs, inner.1)) sized
    ∙ ap (λ (m : Result (List X) DecodeFault). m >>= λ xs. answer (xs, behind (size ++ contents) (at + 1) rest)) (whole_again r g law xs contents (at + 1 + length size) k)
    ∙ ap (λ (k : ℕ). answer (xs, from rest k)) (omega arith)

-- a section that isn't there
absent_again : {X : Type 0} (id : ℕ) (r : Input → Read (List X)) (s t : Input) → skipped s ≡ Ok t → begins id t.left ≡ false → section_at id r s ≡ Ok ([], t)
unfolding section_at entered
absent_again {X} id r s t skip none =
    ap (λ (m : Result Input DecodeFault). (m >>= λ t. cond (begins id t.left) (mapped Some sized_at (past 1 t)) (Ok (None, t))) >>= λ inner. held r inner.0 >>= λ xs. answer (xs, inner.1)) skip
    ∙ ap (λ b. cond b (mapped Some sized_at (past 1 t)) (Ok (None, t)) >>= λ inner. held r inner.0 >>= λ xs. answer (xs, inner.1)) none

section_skips : {X : Type 0} (id : ℕ) (r : Input → Read (List X)) (s t : Input) → skipped s ≡ Ok t → section_at id r s ≡ section_at id r t
unfolding section_at entered
section_skips {X} id r s t e =
    ap (λ (m : Result Input DecodeFault). (m >>= λ t. cond (begins id t.left) (mapped Some sized_at (past 1 t)) (Ok (None, t))) >>= λ inner. held r inner.0 >>= λ xs. answer (xs, inner.1))
    (e ∙ sym (skipped_none t (skipped_ends s t e)))

-- a section with a lower id doesn't stand there
lower : (id next : ℕ) (l : List ℕ) → id < next → Starts next l → begins id l ≡ false
lower id next [] lt h = refl
lower id next (b ∷ bs) lt h = differ (eqb_tells b id)
  where
    differ : ((eqb b id ≡ true) × (b ≡ id)) ⊎ ((eqb b id ≡ false) × (b ≢ id)) → eqb b id ≡ false
    differ (inl k) = absurd (let same = k.1 in omega arith)
    differ (inr k) = k.0

weaker : (id next : ℕ) (l : List ℕ) → id < next → Starts next l → Starts id l
weaker id next [] lt h = tt
weaker id next (b ∷ bs) lt h = omega arith

pub section_rest : {X M : Type 0} (id next : ℕ) (r : Input → Read (List X)) (g : List X → Language) → Law r g → 0 < id → id < next → (K : List X → Input → Result M DecodeFault) (G : List X → M → Language)
    → ((xs : List X) → Rest next (K xs) (G xs)) → Rest id (λ s. section_at id r s >>= λ p. K p.0 p.1) (λ m text. (xs : List X) × (section id g xs ▸ G xs m) text)
section_rest {X} {M} id next r g law some lt K G ih = record {
  taken = λ s m e.
      let p = bind_ok (section_at id r s) (λ p. K p.0 p.1) m e in
      let one = section_taken id r g law s p.0 p.1 in
      (p.0.0, (one.0, p.0.1.left, one.1, one.2, (ih p.0.0).taken p.0.1 m p.2));
  again = λ m text at h. found m text at h.0 h.1 h.1.3.4;
  skips = λ s t e. ap (λ (m : Read (List X)). m >>= λ p. K p.0 p.1) (section_skips id r s t e);
  first = λ m text at h. begun m text at h.0 h.1 h.1.3.4;
}
  where
    -- text: custom sections, what stands of the section, and the rest
    split : (text c z y x : List ℕ) (at : ℕ) → text ≡ x ++ y → x ≡ c ++ z → from text at ≡ before c at (z ++ y)
    split text c z y x at e f = ap (λ (l : List ℕ). from l at) (e ∙ ap (λ (l : List ℕ). l ++ y) f ∙ append_assoc c z y)

    section_text : (xs : List X) (z : List ℕ) → (byte id ▸ sized (g xs)) z → (size contents : List ℕ) × (z ≡ id ∷ (size ++ contents)) × u32 (length contents) size × g xs contents
    section_text xs z h = (h.4.0, h.4.1, h.2 ∙ ap (λ (l : List ℕ). l ++ h.1) h.3 ∙ ap (λ (l : List ℕ). id ∷ l) h.4.2, h.4.3, h.4.4)

    no_custom : begins 0 (id ∷ []) ≡ false
    no_custom = lower 0 id (id ∷ []) some (omega arith)

    skip_to : (c z y : List ℕ) (at : ℕ) → customs c → (size contents : List ℕ) → z ≡ id ∷ (size ++ contents) → skipped (before c at (z ++ y)) ≡ Ok (before (id ∷ (size ++ contents)) (at + length c) y)
    skip_to c z y at k size contents is =
        customs_again c at (z ++ y) k
        ∙ ap (λ (l : List ℕ). skipped (from (l ++ y) (at + length c))) is
        ∙ skipped_none (before (id ∷ (size ++ contents)) (at + length c) y) no_custom

    found : (m : M) (text : List ℕ) (at : ℕ) (xs : List X) (h : (section id g xs ▸ G xs m) text) → Stands id g xs h.3.1 → (section_at id r (from text at) >>= λ p. K p.0 p.1) ≡ Ok m
    found m text at xs h (inl k) =
        let c = h.3.0 in
        let y = h.1 in
        let tail = (ih xs).first m y (at + length c) h.4 in
        let none : from text at ≡ before c at y = split text c h.3.1 y h.0 at h.2 h.3.2 ∙ ap (λ (l : List ℕ). before c at (l ++ y)) k.0 in
        let skip : skipped (before c at y) ≡ Ok tail.0 = customs_again c at y h.3.3 ∙ tail.1 in
        ap (λ (s : Input). section_at id r s >>= λ p. K p.0 p.1) none
        ∙ ap (λ (m : Read (List X)). m >>= λ p. K p.0 p.1) (absent_again id r (before c at y) tail.0 skip (lower id next tail.0.left lt tail.2))
        ∙ ap (λ (l : List X). K l tail.0) (sym k.1)
        ∙ sym ((ih xs).skips (from y (at + length c)) tail.0 tail.1)
        ∙ (ih xs).again m y (at + length c) h.4
    found m text at xs h (inr k) =
        let c = h.3.0 in
        let z = h.3.1 in
        let y = h.1 in
        let parts = section_text xs z k in
        ap (λ (s : Input). section_at id r s >>= λ p. K p.0 p.1) (split text c z y h.0 at h.2 h.3.2)
        ∙ ap (λ (m : Read (List X)). m >>= λ p. K p.0 p.1) (here_again id r g law xs (before c at (z ++ y)) parts.0 parts.1 (at + length c) y some (skip_to c z y at h.3.3 parts.0 parts.1 parts.2) parts.3 parts.4)
        ∙ (ih xs).again m y (at + length c + length (id ∷ (parts.0 ++ parts.1))) h.4

    begun : (m : M) (text : List ℕ) (at : ℕ) (xs : List X) (h : (section id g xs ▸ G xs m) text) → Stands id g xs h.3.1 → (t : Input) × (skipped (from text at) ≡ Ok t) × Starts id t.left
    begun m text at xs h (inl k) =
        let c = h.3.0 in
        let y = h.1 in
        let tail = (ih xs).first m y (at + length c) h.4 in
        let none : from text at ≡ before c at y = split text c h.3.1 y h.0 at h.2 h.3.2 ∙ ap (λ (l : List ℕ). before c at (l ++ y)) k.0 in
        (tail.0, ap skipped none ∙ customs_again c at y h.3.3 ∙ tail.1, weaker id next tail.0.left lt tail.2)
    begun m text at xs h (inr k) =
        let c = h.3.0 in
        let z = h.3.1 in
        let y = h.1 in
        let parts = section_text xs z k in
        (before (id ∷ (parts.0 ++ parts.1)) (at + length c) y, ap skipped (split text c z y h.0 at h.2 h.3.2) ∙ skip_to c z y at h.3.3 parts.0 parts.1 parts.2, omega arith)

-- ---- several sections as a part of their own
pub record Leads {Y : Type 0} (id next : ℕ) (reading : Input → Read Y) (grammar : Y → Language) : Type 1 where
  pub rest : (K : Y → Input → Result Module DecodeFault) (G : Y → Module → Language) → ((y : Y) → Rest next (K y) (G y)) → Rest id (λ s. reading s >>= λ p. K p.0 p.1) (λ m text. (y : Y) × (grammar y ▸ G y m) text)

pub section_leads : {X : Type 0} (id next : ℕ) (r : Input → Read (List X)) (g : List X → Language) → Law r g → 0 < id → id < next → Leads id next (section_at id r) (section id g)
section_leads id next r g law some lt = record { rest = λ K G ih. section_rest id next r g law some lt K G ih }

pair_bind : {A B M : Type 0} (r : Input → Read A) (q : Input → Read B) (F : (A × B) × Input → Result M DecodeFault) (s : Input) → (pair r q s >>= F) ≡ (r s >>= λ a. q a.1 >>= λ b. F ((a.0, b.0), b.1))
pair_bind {A} {B} {M} r q F s = first (r s)
  where
    second : (a : A) (m : Read B) → ((m >>= λ b. answer ((a, b.0), b.1)) >>= F) ≡ (m >>= λ b. F ((a, b.0), b.1))
    second a (Ok b) = refl
    second a (Err d) = refl

    first : (m : Read A) → ((m >>= λ a. q a.1 >>= λ b. answer ((a.0, b.0), b.1)) >>= F) ≡ (m >>= λ a. q a.1 >>= λ b. F ((a.0, b.0), b.1))
    first (Ok a) = second a.0 (q a.1)
    first (Err d) = refl

pub pair_leads : {A B : Type 0} (i j k : ℕ) (r : Input → Read A) (g : A → Language) (q : Input → Read B) (h : B → Language) → Leads i j r g → Leads j k q h → Leads i k (pair r q) (λ p. g p.0 ▸ h p.1)
pair_leads {A} {B} i j k r g q h one two = record {
  rest = λ K G ih.
      rest_where i (λ s. pair r q s >>= λ p. K p.0 p.1) (λ s. r s >>= λ a. q a.1 >>= λ b. K (a.0, b.0) b.1)
      (λ m text. (a : A) × (g a ▸ λ text. (b : B) × (h b ▸ G (a, b) m) text) text) (λ m text. (p : A × B) × ((g p.0 ▸ h p.1) ▸ G p m) text)
      (pair_bind r q (λ p. K p.0 p.1))
      (λ m text t.
      let u = t.1.4 in
      ((t.0, u.0), (t.1.0 ++ u.1.0, u.1.1, t.1.2 ∙ ap (λ (l : List ℕ). t.1.0 ++ l) u.1.2 ∙ sym (append_assoc t.1.0 u.1.0 u.1.1), (t.1.0, u.1.0, refl, t.1.3, u.1.3), u.1.4)))
      (λ m text t.
      let u = t.1.3 in
      (t.0.0, (u.0, u.1 ++ t.1.1, t.1.2 ∙ ap (λ (l : List ℕ). l ++ t.1.1) u.2 ∙ append_assoc u.0 u.1 t.1.1, u.3, (t.0.1, (u.1, t.1.1, refl, u.4, t.1.4)))))
      (one.rest (λ a s. q s >>= λ b. K (a, b.0) b.1) (λ a m text. (b : B) × (h b ▸ G (a, b) m) text) (λ a. two.rest (λ b. K (a, b)) (λ b. G (a, b)) (λ b. ih (a, b))));
}

mapped_bind : {A B M : Type 0} (to : A → B) (r : Input → Read A) (F : B × Input → Result M DecodeFault) (s : Input) → (mapped to r s >>= F) ≡ (r s >>= λ a. F (to a.0, a.1))
mapped_bind {A} {B} {M} to r F s = first (r s)
  where
    first : (m : Read A) → ((m >>= λ a. answer (to a.0, a.1)) >>= F) ≡ (m >>= λ a. F (to a.0, a.1))
    first (Ok a) = refl
    first (Err d) = refl

pub mapped_leads : {A B : Type 0} (i j : ℕ) (to : A → B) (back : B → A) (r : Input → Read A) (g : A → Language) → ((a : A) → back (to a) ≡ a) → ((b : B) → to (back b) ≡ b) → Leads i j r g → Leads i j (mapped to r) (λ b. g (back b))
mapped_leads {A} {B} i j to back r g there here law = record {
  rest = λ K G ih.
      rest_where i (λ s. mapped to r s >>= λ p. K p.0 p.1) (λ s. r s >>= λ a. K (to a.0) a.1)
      (λ m text. (a : A) × (g a ▸ G (to a) m) text) (λ m text. (b : B) × (g (back b) ▸ G b m) text)
      (mapped_bind to r (λ p. K p.0 p.1))
      (λ m text t. (to t.0, subst (λ (a : A). (g a ▸ G (to t.0) m) text) (sym (there t.0)) t.1))
      (λ m text t. (back t.0, subst (λ (b : B). (g (back t.0) ▸ G b m) text) (sym (here t.0)) t.1))
      (law.rest (λ a. K (to a)) (λ a. G (to a)) (λ a. ih (to a)));
}
