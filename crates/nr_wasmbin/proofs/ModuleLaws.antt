-- The law of whole modules.
use Rattle.std.proofs.Common.{◌≡◌, ◌⊎◌, ℕ, ◌+◌, ◌≤◌, Bool, true, false, cond, eqb, ltb, List, [], ◌∷◌, ◌++◌, length, take, Result, Ok, Err, IfOk, refl, sym, ap, subst, ◌∙◌, arith, inl, inr}
use Rattle.std.proofs.lemmas.Bool.{eqb-true, eq-eqb, ltb-false, le-ltb}
use Rattle.std.proofs.lemmas.List.{append-nil, length-append, take_at, drop_at, take-append-drop}
use Rattle.std.specs.Str.{bytes_eq}
use Rattle.std.proofs.lemmas.Slice.Eq.{bytes_eq-Decides}
use Rattle.nr_bytes.proofs.Basics.{bind_ok}
use Rattle.nr_bytes.specs.Reading.{Input, past, ◌>>=◌}
use Rattle.nr_bytes.specs.Spelling.{before, behind}
use Rattle.nr_bytes.specs.Fields.{pair, items_at}
use Rattle.nr_wasmtypes.specs.declared.module.FuncType.{FuncType}
use Rattle.nr_wasmtypes.specs.declared.module.Import.{Import}
use Rattle.nr_wasmtypes.specs.declared.module.Limits.{Limits}
use Rattle.nr_wasmtypes.specs.declared.module.Global.{Global}
use Rattle.nr_wasmtypes.specs.declared.module.Export.{Export}
use Rattle.nr_wasmtypes.specs.declared.module.Element.{Element}
use Rattle.nr_wasmtypes.specs.declared.module.Segment.{Segment}
use Rattle.nr_wasmtypes.specs.declared.module.Module.{Module}
use Rattle.nr_wasmtypes.specs.Body.{Body}
use Rattle.nr_wasmbin.specs.declared.module.Front.{Front}
use Rattle.nr_wasmbin.specs.declared.module.Middle.{Middle}
use Rattle.nr_wasmbin.specs.declared.module.Back.{Back}
use Rattle.nr_wasmbin.specs.Fields.{Read, GivesAll, count_at, list_at, u32_at, taken}
use Rattle.nr_wasmbin.specs.Parts.{func_type_at, import_at, table_at, limits_at, global_at, export_at, element_at, segment_at}
use Rattle.nr_wasmbin.specs.Modules.{word_of, word_at, magic, version, body_at, skipped, section_at, counted_of, bodies_at, ended, front_of, front_at, middle_of, middle_at, back_at, module_of, module_at, decoded}
use Rattle.nr_wasmbin.specs.Grammar as grammar
use Rattle.nr_wasmbin.specs.Grammar.{Language, ◌▸◌, exactly, u32, items, list, func_type, import, table, limits, global, export, element, body, segment, customs, section, IsModule}
use Rattle.nr_wasmbin.specs.declared.fault.DecodeFault.{DecodeFault}
use Rattle.nr_wasmbin.specs.declared.fault.DecodeFault.TheVariants as fault
use Rattle.nr_wasmbin.proofs.Laws.{Takes, Law, goes, answer, given, given_is, test_ok, guard_ok, Takes-then, turns_again, u32_law, list_law, count_ok, count_again, items_taken, items_again}
use Rattle.nr_wasmbin.proofs.PartLaws.{func_type_law, import_law, table_law, limits_law, global_law, export_law, element_law, segment_law}
use Rattle.nr_wasmbin.proofs.PlainLaws.{body_law}
use Rattle.nr_wasmbin.proofs.Chain.{from, Rest, rest_where, Leads, section_rest, section_leads, pair_leads, mapped_leads, skipped_taken, skipped_none, skipped_ends, customs_again}

-- ---- as many bodies as functions
abbrev Counted : ℕ → List Body → Language
Counted n xs text = (length xs ≡ n) × list body xs text

bodies_law : (n : ℕ) → Law (bodies_at n) (Counted n)
unfolding bodies_at
bodies_law n = record {
  taken = λ s p e.
      let k = bind_ok (count_at s) (λ k. counted_of n s.at k >>= λ m. items_at body_at m.0 m.1) p e in
      let m = bind_ok (counted_of n s.at k.0) (λ m. items_at body_at m.0 m.1) p k.2 in
      let t = test_ok (eqb k.0.0 n) (fault.Section s.at) k.0 m.0 m.1 in
      let c = count_ok s k.0 k.1 in
      let read : items_at body_at k.0.0 k.0.1 ≡ Ok p = ap (λ (m : ℕ × Input). items_at body_at m.0 m.1) t.1 ∙ m.2 in
      let xs = items_taken body_at body body_law k.0.0 k.0.1 p read in
      let size : Takes s (u32 (length p.0)) k.0.1 = subst (λ i. Takes s (u32 i) k.0.1) (sym xs.0) (u32_law.taken s k.0 c.1) in
      let both = Takes-then s k.0.1 p.1 (u32 (length p.0)) (items body p.0) size xs.1 in
      (both.0, both.1, (xs.0 ∙ eqb-true k.0.0 n t.0, (subst (λ n. n ≤ 50000) (sym xs.0) c.0, both.2)));
  again = λ v text at rest t.
      let h = t.1.1 in
      turns_again count_at (λ k. counted_of n at k >>= λ m. items_at body_at m.0 m.1) (length v) v h.0 h.1 at rest text h.2 (count_again (length v) h.0 at (h.1 ++ rest) t.1.0 h.3)
      (ap (λ b. cond b (answer (length v, before h.1 (at + length h.0) rest)) (Err (fault.Section at)) >>= λ m. items_at body_at m.0 m.1) (eq-eqb (length v) n t.0)
      ∙ items_again body_at body body_law v h.1 (at + length h.0) rest h.4);
}

-- ---- the end
abbrev Ends : {M : Type 0} → ℕ → ℕ → M → M → Language
Ends bodies functions made m text = (m ≡ made) × (bodies ≡ functions) × customs text

end_empty : (l : List ℕ) → length l ≤ 0 → l ≡ []
end_empty [] h = refl
end_empty (b ∷ bs) h = absurd (omega arith)

end_rest : {M : Type 0} (functions bodies : ℕ) (made : M) → Rest 12 (λ s. skipped s >>= λ rest. ended functions bodies rest >>= λ end. Ok made) (Ends bodies functions made)
end_rest {M} functions bodies made = record {
  taken = λ s m e.
      let r = bind_ok (skipped s) (λ rest. ended functions bodies rest >>= λ end. given made) m e in
      let u = bind_ok (ended functions bodies r.0) (λ end. given made) m r.2 in
      let g = guard (ltb 0 (length r.0.left)) (cond (eqb bodies functions) (Ok tt) (Err (fault.Section r.0.at))) (fault.Section r.0.at) u.0 u.1 in
      let none : length r.0.left ≤ 0 = ltb-false 0 (length r.0.left) g.0 in
      let one = skipped_taken s r.0 r.1 in
      let all : s.left ≡ one.0 = one.1 ∙ ap (λ (l : List ℕ). one.0 ++ l) (end_empty r.0.left none) ∙ append-nil one.0 in
      (sym (given_is made m u.2), same_count (eqb bodies functions) refl r.0.at u.0 g.1, subst customs (sym all) one.2);
  again = λ m text at h.
      ap (λ (r : Result Input DecodeFault). r >>= λ rest. ended functions bodies rest >>= λ end. given made) (passed text at h.2)
      ∙ ap (λ b. cond b (Ok tt) (Err (fault.Section (at + length text))) >>= λ end. given made) (eq-eqb bodies functions h.1)
      ∙ ap given (sym h.0);
  skips = λ s t e. ap (λ (r : Result Input DecodeFault). r >>= λ rest. ended functions bodies rest >>= λ end. given made) (e ∙ sym (skipped_none t (skipped_ends s t e)));
  first = λ m text at h. (from [] (at + length text), passed text at h.2, tt);
}
  where
    guard : (b : Bool) (r : Result (Unit {0}) DecodeFault) (d : DecodeFault) (u : Unit {0}) → cond b (Err d) r ≡ Ok u → (b ≡ false) × (r ≡ Ok u)
    guard true r d u e = absurd cc
    guard false r d u e = (refl, e)

    same_count : (b : Bool) → eqb bodies functions ≡ b → (at : ℕ) (u : Unit {0}) → cond b (Ok tt) (Err (fault.Section at)) ≡ Ok u → bodies ≡ functions
    same_count true is at u e = eqb-true bodies functions is
    same_count false is at u e = absurd cc

    passed : (text : List ℕ) (at : ℕ) → customs text → skipped (from text at) ≡ Ok (from [] (at + length text))
    passed text at h =
        ap (λ (l : List ℕ). skipped (from l at)) (sym (append-nil text)) ∙ customs_again text at [] h ∙ skipped_none (from [] (at + length text)) refl

-- ---- the code and the data
abbrev made_back : List Body → List Segment → Back
made_back bodies segments = record { bodies = bodies; segments = segments }

abbrev back_language : ℕ → (Back → Module) → Module → Language
back_language n make m text =
    (bodies : List Body) × (section 10 (Counted n) bodies ▸ λ text. (segments : List Segment) × (section 11 (list segment) segments ▸ Ends (length bodies) n (make (made_back bodies segments)) m) text) text

abbrev after_segments : ℕ → (Back → Module) → List Body → List Segment → Input → Result Module DecodeFault
after_segments n make bodies segments s = skipped s >>= λ rest. ended n (length bodies) rest >>= λ end. given (make (made_back bodies segments))

abbrev after_bodies : ℕ → (Back → Module) → List Body → Input → Result Module DecodeFault
after_bodies n make bodies s = section_at 11 (list_at segment_at) s >>= λ segments. after_segments n make bodies segments.0 segments.1

abbrev flat : ℕ → (Back → Module) → Input → Result Module DecodeFault
flat n make s = section_at 10 (bodies_at n) s >>= λ bodies. after_bodies n make bodies.0 bodies.1

abbrev last : ℕ → List Body → List Segment → Result Input DecodeFault → Result Back DecodeFault
last n bodies segments r = r >>= λ rest. ended n (length bodies) rest >>= λ end. Ok (made_back bodies segments)

abbrev late : ℕ → List Body → Read (List Segment) → Result Back DecodeFault
late n bodies r = r >>= λ segments. last n bodies segments.0 (skipped segments.1)

fourth : (make : Back → Module) (back : Back) (r : Result (Unit {0}) DecodeFault) → ((r >>= λ end. Ok back) >>= λ b. given (make b)) ≡ (r >>= λ end. given (make back))
fourth make back (Ok u) = refl
fourth make back (Err d) = refl

third : (n : ℕ) (make : Back → Module) (bodies : List Body) (segments : List Segment) (r : Result Input DecodeFault)
    → (last n bodies segments r >>= λ b. given (make b)) ≡ (r >>= λ rest. ended n (length bodies) rest >>= λ end. given (make (made_back bodies segments)))
third n make bodies segments (Ok rest) = fourth make (made_back bodies segments) (ended n (length bodies) rest)
third n make bodies segments (Err d) = refl

second : (n : ℕ) (make : Back → Module) (bodies : List Body) (r : Read (List Segment)) → (late n bodies r >>= λ b. given (make b)) ≡ (r >>= λ segments. after_segments n make bodies segments.0 segments.1)
second n make bodies (Ok segments) = third n make bodies segments.0 (skipped segments.1)
second n make bodies (Err d) = refl

begun : (n : ℕ) (make : Back → Module) (r : Read (List Body))
    → ((r >>= λ bodies. late n bodies.0 (section_at 11 (list_at segment_at) bodies.1)) >>= λ b. given (make b)) ≡ (r >>= λ bodies. after_bodies n make bodies.0 bodies.1)
begun n make (Ok bodies) = second n make bodies.0 (section_at 11 (list_at segment_at) bodies.1)
begun n make (Err d) = refl

back_flat : (n : ℕ) (make : Back → Module) (s : Input) → (back_at n s >>= λ b. given (make b)) ≡ flat n make s
unfolding back_at
back_flat n make s = begun n make (section_at 10 (bodies_at n) s)

abbrev with_segments : ℕ → (Back → Module) → List Body → Module → Language
with_segments n make bodies m text = (segments : List Segment) × (section 11 (list segment) segments ▸ Ends (length bodies) n (make (made_back bodies segments)) m) text

back_rest : (n : ℕ) (make : Back → Module) → Rest 10 (λ s. back_at n s >>= λ b. given (make b)) (back_language n make)
back_rest n make =
    rest_where 10 (λ s. back_at n s >>= λ b. given (make b)) (flat n make) (back_language n make) (back_language n make) (back_flat n make) (λ m text h. h) (λ m text h. h)
    (section_rest 10 11 (bodies_at n) (Counted n) (bodies_law n) (omega arith) (omega arith) (after_bodies n make) (with_segments n make)
    (λ bodies.
    section_rest 11 12 (list_at segment_at) (list segment) (list_law segment_at segment segment_law) (omega arith) (omega arith) (after_segments n make bodies)
    (λ segments. Ends (length bodies) n (make (made_back bodies segments)))
    (λ segments. end_rest n (length bodies) (make (made_back bodies segments)))))

-- ---- the sections before
abbrev front_from : Front → List FuncType × (List Import × List ℕ)
front_from f = (f.types, (f.imports, f.funcs))

abbrev front_language : Front → Language
front_language f = section 1 (list func_type) f.types ▸ section 2 (list import) f.imports ▸ section 3 (list u32) f.funcs

front_leads : Leads 1 4 front_at front_language
unfolding front_at
front_leads =
    mapped_leads 1 4 front_of front_from (pair (section_at 1 (list_at func_type_at)) (pair (section_at 2 (list_at import_at)) (section_at 3 (list_at u32_at))))
    (λ p. section 1 (list func_type) p.0 ▸ section 2 (list import) p.1.0 ▸ section 3 (list u32) p.1.1) (λ _. refl) (λ _. refl)
    (pair_leads 1 2 4 (section_at 1 (list_at func_type_at)) (section 1 (list func_type)) (pair (section_at 2 (list_at import_at)) (section_at 3 (list_at u32_at))) (λ p. section 2 (list import) p.0 ▸ section 3 (list u32) p.1)
    (section_leads 1 2 (list_at func_type_at) (list func_type) (list_law func_type_at func_type func_type_law) (omega arith) (omega arith))
    (pair_leads 2 3 4 (section_at 2 (list_at import_at)) (section 2 (list import)) (section_at 3 (list_at u32_at)) (section 3 (list u32))
    (section_leads 2 3 (list_at import_at) (list import) (list_law import_at import import_law) (omega arith) (omega arith))
    (section_leads 3 4 (list_at u32_at) (list u32) (list_law u32_at u32 u32_law) (omega arith) (omega arith))))

abbrev middle_from : Middle → List Limits × (List Limits × (List Global × (List Export × List Element)))
middle_from m = (m.tables, (m.memories, (m.globals, (m.exports, m.elements))))

abbrev middle_language : Middle → Language
middle_language m =
    section 4 (list table) m.tables ▸ section 5 (list limits) m.memories ▸ section 6 (list global) m.globals ▸ section 7 (list export) m.exports ▸ section 9 (list element) m.elements

middle_leads : Leads 4 10 middle_at middle_language
unfolding middle_at
middle_leads =
    mapped_leads 4 10 middle_of middle_from
    (pair (section_at 4 (list_at table_at)) (pair (section_at 5 (list_at limits_at)) (pair (section_at 6 (list_at global_at)) (pair (section_at 7 (list_at export_at)) (section_at 9 (list_at element_at))))))
    (λ p. section 4 (list table) p.0 ▸ section 5 (list limits) p.1.0 ▸ section 6 (list global) p.1.1.0 ▸ section 7 (list export) p.1.1.1.0 ▸ section 9 (list element) p.1.1.1.1) (λ _. refl) (λ _. refl)
    (pair_leads 4 5 10 (section_at 4 (list_at table_at)) (section 4 (list table)) _ (λ p. section 5 (list limits) p.0 ▸ section 6 (list global) p.1.0 ▸ section 7 (list export) p.1.1.0 ▸ section 9 (list element) p.1.1.1)
    (section_leads 4 5 (list_at table_at) (list table) (list_law table_at table table_law) (omega arith) (omega arith))
    (pair_leads 5 6 10 (section_at 5 (list_at limits_at)) (section 5 (list limits)) _ (λ p. section 6 (list global) p.0 ▸ section 7 (list export) p.1.0 ▸ section 9 (list element) p.1.1)
    (section_leads 5 6 (list_at limits_at) (list limits) (list_law limits_at limits limits_law) (omega arith) (omega arith))
    (pair_leads 6 7 10 (section_at 6 (list_at global_at)) (section 6 (list global)) _ (λ p. section 7 (list export) p.0 ▸ section 9 (list element) p.1)
    (section_leads 6 7 (list_at global_at) (list global) (list_law global_at global global_law) (omega arith) (omega arith))
    (pair_leads 7 9 10 (section_at 7 (list_at export_at)) (section 7 (list export)) (section_at 9 (list_at element_at)) (section 9 (list element))
    (section_leads 7 9 (list_at export_at) (list export) (list_law export_at export export_law) (omega arith) (omega arith))
    (section_leads 9 10 (list_at element_at) (list element) (list_law element_at element element_law) (omega arith) (omega arith))))))

-- ---- all sections
abbrev all_at : Input → Result Module DecodeFault
all_at s = front_at s >>= λ front. middle_at front.1 >>= λ middle. back_at (length front.0.funcs) middle.1 >>= λ back. given (module_of front.0 middle.0 back)

abbrev all_language : Module → Language
all_language m text =
    (f : Front) × (front_language f ▸ λ text. (d : Middle) × (middle_language d ▸ back_language (length f.funcs) (λ b. module_of f d b) m) text) text

all_rest : Rest 1 all_at all_language
all_rest =
    front_leads.rest (λ f s. middle_at s >>= λ middle. back_at (length f.funcs) middle.1 >>= λ back. given (module_of f middle.0 back))
    (λ f m text. (d : Middle) × (middle_language d ▸ back_language (length f.funcs) (λ b. module_of f d b) m) text)
    (λ f. middle_leads.rest (λ d s. back_at (length f.funcs) s >>= λ back. given (module_of f d back)) (λ d. back_language (length f.funcs) (λ b. module_of f d b)) (λ d. back_rest (length f.funcs) (λ b. module_of f d b)))

-- the same by the module itself
abbrev parts : Module → Language
parts m text = (length m.bodies ≡ length m.funcs) × (grammar.front m ▸ grammar.middle m ▸ grammar.back m) text

parts_are : (m : Module) (text : List ℕ) → all_language m text → parts m text
parts_are m text h =
    let f = h.0 in
    let d = h.1.4.0 in
    let k = h.1.4.1 in
    let bodies = k.4.0 in
    let b = k.4.1 in
    let segments = b.4.0 in
    let g = b.4.1 in
    let made : Module = module_of f d (made_back bodies segments) in
    let counted : section 10 (list body) bodies b.0 = (b.3.0, b.3.1, b.3.2, b.3.3, uncounted (length f.funcs) bodies b.3.1 b.3.4) in
    subst (λ (m : Module). parts m text) (sym g.4.0)
    (g.4.1, (h.1.0, h.1.1, h.1.2, h.1.3, (k.0, k.1, k.2, k.3, (b.0, b.1, b.2, counted, (g.0, g.1, g.2, g.3, g.4.2)))))
  where
    uncounted : (n : ℕ) (xs : List Body) (z : List ℕ) → (((z ≡ []) × (xs ≡ [])) ⊎ ((exactly (10 ∷ []) ▸ grammar.sized (Counted n xs)) z)) → (((z ≡ []) × (xs ≡ [])) ⊎ ((exactly (10 ∷ []) ▸ grammar.sized (list body xs)) z))
    uncounted n xs z (inl k) = inl k
    uncounted n xs z (inr k) = inr (k.0, k.1, k.2, k.3, (k.4.0, k.4.1, k.4.2, k.4.3, k.4.4.1))

are_parts : (m : Module) (text : List ℕ) → parts m text → all_language m text
are_parts m text p =
    let h = p.1 in
    let k = h.4 in
    let b = k.4 in
    let g = b.4 in
    let f : Front = record { types = m.types; imports = m.imports; funcs = m.funcs } in
    let d : Middle = record { tables = m.tables; memories = m.memories; globals = m.globals; exports = m.exports; elements = m.elements } in
    let counted : section 10 (Counted (length m.funcs)) m.bodies b.0 = (b.3.0, b.3.1, b.3.2, b.3.3, count (length m.funcs) m.bodies b.3.1 p.0 b.3.4) in
    (f, (h.0, h.1, h.2, h.3, (d, (k.0, k.1, k.2, k.3, (m.bodies, (b.0, b.1, b.2, counted, (m.segments, (g.0, g.1, g.2, g.3, (refl, p.0, g.4)))))))))
  where
    count : (n : ℕ) (xs : List Body) (z : List ℕ) → length xs ≡ n → (((z ≡ []) × (xs ≡ [])) ⊎ ((exactly (10 ∷ []) ▸ grammar.sized (list body xs)) z)) → (((z ≡ []) × (xs ≡ [])) ⊎ ((exactly (10 ∷ []) ▸ grammar.sized (Counted n xs)) z))
    count n xs z is (inl k) = inl k
    count n xs z is (inr k) = inr (k.0, k.1, k.2, k.3, (k.4.0, k.4.1, k.4.2, k.4.3, (is, k.4.4)))

parts_rest : Rest 1 all_at parts
parts_rest = rest_where 1 all_at all_at all_language parts (λ s. refl) parts_are are_parts all_rest

-- ---- magic and version
word_taken : (word : List ℕ) (s : Input) (p : Unit {0} × Input) → word_at word s ≡ Ok p → Takes s (exactly word) p.1
word_taken word s p e =
    let x = bind_ok (taken s.at (4, s)) (word_of word s.at) p e in
    let g = guard_ok (ltb (length s.left) 4) (fault.Short s.at) (take 4 s.left, past 4 s) x.0 x.1 in
    let t = test_ok (bytes_eq word x.0.0) (fault.Section s.at) (tt, x.0.1) p x.2 in
    let same : word ≡ x.0.0 = (bytes_eq-Decides word x.0.0).0 t.0 in
    let all : s.left ≡ x.0.0 ++ x.0.1.left = sym (take-append-drop 4 s.left) ∙ ap (λ (q : List ℕ × Input). q.0 ++ q.1.left) g.1 in
    subst (λ (p : Unit {0} × Input). Takes s (exactly word) p.1) t.1 (x.0.0, all, sym same)

word_again : (word : List ℕ) (at : ℕ) (rest : List ℕ) → length word ≡ 4 → word_at word (before word at rest) ≡ Ok (tt, behind word at rest)
word_again word at rest four =
    let long : ltb (length (word ++ rest)) 4 ≡ false = le-ltb _ _ (omega (arith, length-append word rest)) in
    let read : taken at (4, before word at rest) ≡ Ok (word, behind word at rest) =
    rw (long, take_at word rest 4 four, drop_at word rest 4 four) (ap (λ n. answer (word, from rest (at + n))) (sym four)) in
    goes (taken at (4, before word at rest)) (word_of word at) (word, behind word at rest) (Ok (tt, behind word at rest)) read
    (ap (λ b. cond b (answer (tt, behind word at rest)) (Err (fault.Section at))) ((bytes_eq-Decides word word).1 refl))

-- ---- a module
module_taken : (s : Input) (m : Module) → module_at s ≡ Ok m → IsModule s.left m
unfolding module_at
module_taken s m e =
    let one = bind_ok (word_at magic s) (λ one. word_at version one.1 >>= λ two. all_at two.1) m e in
    let two = bind_ok (word_at version one.0.1) (λ two. all_at two.1) m one.2 in
    let a = word_taken magic s one.0 one.1 in
    let b = word_taken version one.0.1 two.0 two.1 in
    let h = parts_rest.taken two.0.1 m two.2 in
    (h.0, (a.0, one.0.1.left, a.1, a.2, (b.0, two.0.1.left, b.1, b.2, h.1)))

module_again : (m : Module) (text : List ℕ) (at : ℕ) → IsModule text m → module_at (from text at) ≡ Ok m
unfolding module_at
module_again m text at p =
    let h = p.1 in
    let k = h.4 in
    let whole : text ≡ magic ++ (version ++ k.1) = h.2 ∙ ap (λ (l : List ℕ). l ++ h.1) h.3 ∙ ap (λ (l : List ℕ). magic ++ l) (k.2 ∙ ap (λ (l : List ℕ). l ++ k.1) k.3) in
    ap (λ (l : List ℕ). module_at (from l at)) whole
    ∙ goes (word_at magic (before magic at (version ++ k.1))) (λ one. word_at version one.1 >>= λ two. all_at two.1) (tt, from (version ++ k.1) (at + 4)) (Ok m) (word_again magic at (version ++ k.1) refl)
    (goes (word_at version (before version (at + 4) k.1)) (λ two. all_at two.1) (tt, from k.1 (at + 4 + 4)) (Ok m) (word_again version (at + 4) k.1 refl)
    (parts_rest.again m k.1 (at + 4 + 4) (p.0, k.4)))

-- what is decoded is spelled so
pub decoded_is : (most : ℕ) (bytes : List ℕ) (m : Module) → decoded most bytes ≡ Ok m → (length bytes ≤ most) × IsModule bytes m
unfolding decoded
decoded_is most bytes m e =
    let g = short (ltb most (length bytes)) (module_at (from bytes 0)) (fault.TooMany 0) m e in
    (ltb-false most (length bytes) g.0, module_taken (from bytes 0) m g.1)
  where
    short : (b : Bool) (r : Result Module DecodeFault) (d : DecodeFault) (m : Module) → cond b (Err d) r ≡ Ok m → (b ≡ false) × (r ≡ Ok m)
    short true r d m e = absurd cc
    short false r d m e = (refl, e)

-- what is spelled so is decoded
pub is_decoded : (most : ℕ) (bytes : List ℕ) (m : Module) → length bytes ≤ most → IsModule bytes m → decoded most bytes ≡ Ok m
unfolding decoded
is_decoded most bytes m few h = ap (λ b. cond b (Err (fault.TooMany 0)) (module_at (from bytes 0))) (le-ltb most (length bytes) few) ∙ module_again m bytes 0 h

-- ---- what a call answers
pub is_spelled : (most : ℕ) (bytes : List ℕ) (r : Result Module DecodeFault) → GivesAll r (decoded most bytes) → IfOk r (λ m. IsModule bytes m)
is_spelled most bytes (Ok m) h = (decoded_is most bytes m h).1
is_spelled most bytes (Err e) h = tt

pub is_found : (most : ℕ) (bytes : List ℕ) (r : Result Module DecodeFault) (m : Module) → GivesAll r (decoded most bytes) → IsModule bytes m → length bytes ≤ most → GivesAll r (Ok m)
is_found most bytes (Ok n) m h is few = sym (is_decoded most bytes m few is) ∙ h
is_found most bytes (Err e) m h is few = λ other. sym (is_decoded most bytes m few is) ∙ h other
