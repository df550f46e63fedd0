-- What is read is spelled by the grammar, and what the grammar spells is read, whatever follows: laws of the parts that all others are made of.
use Rattle.std.proofs.Common.{◌≡◌, ℕ, zero, suc, ◌+◌, ◌≤◌, Bool, true, false, cond, ltb, leb, List, [], ◌∷◌, ◌++◌, length, take, drop, Result, Ok, Err, refl, sym, ap, subst, ◌∙◌, append_assoc, arith}
use Rattle.std.proofs.lemmas.Bool.{ltb-false, leb-true, le-leb, le-ltb}
use Rattle.std.proofs.lemmas.List.{append-nil, take_at, drop_at, take-append-drop, length-append, length-take}
use Rattle.std.specs.Str.{is_utf8}
use Rattle.nr_bytes.proofs.Basics.{bind_ok}
use Rattle.nr_bytes.specs.Reading.{Input, past, ◌>>=◌}
use Rattle.nr_bytes.specs.Spelling.{before, behind}
use Rattle.nr_bytes.specs.Fields.{mapped, pair, items_at}
use Rattle.nr_wasmbin.specs.Leb.{Found, unsigned, signed}
use Rattle.nr_wasmbin.specs.Fields.{Read, byte_at, byte_of, number_of, u32_at, s32_at, s64_at, limited, count_at, list_at, taken, bytes_at, name_of, name_at, contents_at, filled_of, filled, sized_at, whole}
use Rattle.nr_wasmbin.specs.Grammar.{Language, ◌▸◌, exactly, u32, s32, s64, items, list, bytes, name, sized}
use Rattle.nr_wasmbin.specs.declared.fault.DecodeFault.{DecodeFault}
use Rattle.nr_wasmbin.specs.declared.fault.DecodeFault.TheVariants as fault
use Rattle.nr_wasmbin.proofs.LebLaws.{unsigned_taken, unsigned_again, signed_taken, signed_again}

-- the input begins with a text of this language, and t is what is left behind it
abbrev pub Takes : Input → Language → Input → Type 0
Takes s L t = (text : List ℕ) × (s.left ≡ text ++ t.left) × L text

pub record Law {X : Type 0} (reading : Input → Read X) (grammar : X → Language) : Type 0 where
  pub taken : (s : Input) (p : X × Input) → reading s ≡ Ok p → Takes s (grammar p.0) p.1
  pub again : (v : X) (text : List ℕ) (at : ℕ) (rest : List ℕ) → grammar v text → reading (before text at rest) ≡ Ok (v, behind text at rest)

-- ---- steps
pub goes : {A B F : Type 0} (r : Result A F) (f : A → Result B F) (x : A) (y : Result B F) → r ≡ Ok x → f x ≡ y → (r >>= f) ≡ y
goes r f x y e h = ap (λ r. r >>= f) e ∙ h

abbrev pub answer : {X : Type 0} → X × Input → Read X
answer p = Ok p

pub ok_is : {X : Type 0} (p q : X × Input) → answer p ≡ answer q → p ≡ q
ok_is p q e = cc

abbrev pub given : {X : Type 0} → X → Result X DecodeFault
given x = Ok x

pub given_is : {X : Type 0} (x y : X) → given x ≡ given y → x ≡ y
given_is x y e = cc

-- a test that did not fail
pub test_ok : {A : Type 0} (b : Bool) (d : DecodeFault) (x y : A) → cond b (Ok x) (Err d) ≡ Ok y → (b ≡ true) × (x ≡ y)
test_ok true d x y e = (refl, cc)
test_ok false d x y e = absurd cc

pub guard_ok : {A : Type 0} (b : Bool) (d : DecodeFault) (x y : A) → cond b (Err d) (Ok x) ≡ Ok y → (b ≡ false) × (x ≡ y)
guard_ok true d x y e = absurd cc
guard_ok false d x y e = (refl, cc)

pub Takes-then : (s m t : Input) (P Q : Language) → Takes s P m → Takes m Q t → Takes s (P ▸ Q) t
Takes-then s m t P Q p q =
    (p.0 ++ q.0, p.1 ∙ ap (λ (l : List ℕ). p.0 ++ l) q.1 ∙ sym (append_assoc p.0 q.0 t.left), (p.0, q.0, refl, p.2, q.2))

-- texts in turn
pub regroup : (x y : List ℕ) (at : ℕ) (rest : List ℕ) → before (x ++ y) at rest ≡ before x at (y ++ rest)
regroup x y at rest = ap (λ (l : List ℕ). record { left = l; at = at }) (append_assoc x y rest)

pub behind_both : (x y : List ℕ) (at : ℕ) (rest : List ℕ) → behind y (at + length x) rest ≡ behind (x ++ y) at rest
behind_both x y at rest = ap (λ n. record { left = rest; at = n }) (omega (arith, length-append x y))

-- reading in turn what stands in turn
pub turns_again : {A X : Type 0} (r : Input → Read A) (q : A × Input → Read X) (a : A) (v : X) (x y : List ℕ) (at : ℕ) (rest : List ℕ) (text : List ℕ) → text ≡ x ++ y
    → r (before x at (y ++ rest)) ≡ Ok (a, behind x at (y ++ rest)) → q (a, before y (at + length x) rest) ≡ Ok (v, behind y (at + length x) rest) → (r (before text at rest) >>= q) ≡ Ok (v, behind text at rest)
turns_again {A} {X} r q a v x y at rest text e one two =
    let both : (r (before (x ++ y) at rest) >>= q) ≡ Ok (v, behind (x ++ y) at rest) =
    ap (λ (s : Input). r s >>= q) (regroup x y at rest)
    ∙ goes (r (before x at (y ++ rest))) q (a, behind x at (y ++ rest)) (Ok (v, behind (x ++ y) at rest)) one (two ∙ ap (λ (t : Input). answer (v, t)) (behind_both x y at rest)) in
    subst (λ (l : List ℕ). (r (before l at rest) >>= q) ≡ Ok (v, behind l at rest)) (sym e) both

pub nothing_behind : {X : Type 0} (v : X) (text : List ℕ) (at : ℕ) (rest : List ℕ) → text ≡ [] → answer (v, before text at rest) ≡ Ok (v, behind text at rest)
nothing_behind {X} v text at rest e =
    let here : answer (v, before [] at rest) ≡ Ok (v, behind [] at rest) = ap (λ n. answer (v, record { left = rest; at = n })) (omega arith) in
    subst (λ (l : List ℕ). answer (v, before l at rest) ≡ Ok (v, behind l at rest)) (sym e) here

-- ---- numbers
number_law : (f : List ℕ → Found) (F : ℕ → Language) → ((bytes : List ℕ) (n k : ℕ) → f bytes ≡ Ok (n, k) → F n (take k bytes))
    → ((text rest : List ℕ) (n : ℕ) → F n text → f (text ++ rest) ≡ Ok (n, length text)) → Law (λ s. number_of s (f s.left)) F
number_law f F there back = record {
  taken = λ s p e. number_taken s (f s.left) p (λ n k is. there s.left n k is) e;
  again = λ v text at rest h.
      ap (number_of (before text at rest)) (back text rest v h)
      ∙ ap (λ (l : List ℕ). answer (v, record { left = l; at = at + length text })) (drop_at text rest (length text) refl);
}
  where
    number_taken : (s : Input) (r : Found) (p : ℕ × Input) → ((n k : ℕ) → r ≡ Ok (n, k) → F n (take k s.left)) → number_of s r ≡ Ok p → Takes s (F p.0) p.1
    number_taken s (Err d) p there e = absurd cc
    number_taken s (Ok m) p there e =
        subst (λ (p : ℕ × Input). Takes s (F p.0) p.1) (ok_is (m.0, past m.1 s) p e) (take m.1 s.left, sym (take-append-drop m.1 s.left), there m.0 m.1 refl)

pub u32_law : Law u32_at u32
u32_law = number_law (unsigned 32) u32 (λ bytes n k. unsigned_taken 32 bytes n k) (λ text rest n. unsigned_again 32 text rest n)

pub s32_law : Law s32_at s32
s32_law = number_law (signed 32) s32 (λ bytes n k. signed_taken 32 bytes n k) (λ text rest n. signed_again 32 text rest n)

pub s64_law : Law s64_at s64
s64_law = number_law (signed 64) s64 (λ bytes n k. signed_taken 64 bytes n k) (λ text rest n. signed_again 64 text rest n)

-- ---- one part and then another
pub pair_law : {X Y : Type 0} (r : Input → Read X) (g : X → Language) (q : Input → Read Y) (h : Y → Language) → Law r g → Law q h → Law (pair r q) (λ p. g p.0 ▸ h p.1)
pair_law {X} {Y} r g q h first second = record {
  taken = λ s p e.
      let x = bind_ok (r s) (λ m. q m.1 >>= λ n. Ok ((m.0, n.0), n.1)) p e in
      let y = bind_ok (q x.0.1) (λ n. Ok ((x.0.0, n.0), n.1)) p x.2 in
      let made : (X × Y) × Input = ((x.0.0, y.0.0), y.0.1) in
      subst (λ (p : (X × Y) × Input). Takes s (g p.0.0 ▸ h p.0.1) p.1) (ok_is made p y.2)
      (Takes-then s x.0.1 y.0.1 (g x.0.0) (h y.0.0) (first.taken s x.0 x.1) (second.taken x.0.1 y.0 y.1));
  again = λ v text at rest t.
      turns_again r (λ m. q m.1 >>= λ n. Ok ((m.0, n.0), n.1)) v.0 v t.0 t.1 at rest text t.2 (first.again v.0 t.0 at (t.1 ++ rest) t.3)
      (ap (λ (m : Read Y). m >>= λ n. Ok ((v.0, n.0), n.1)) (second.again v.1 t.1 (at + length t.0) rest t.4));
}

-- a value that is made of another, which it determines
pub mapped_law : {X Y : Type 0} (to : X → Y) (from : Y → X) (r : Input → Read X) (g : X → Language) → ((x : X) → from (to x) ≡ x) → ((y : Y) → to (from y) ≡ y) → Law r g → Law (mapped to r) (λ y. g (from y))
mapped_law {X} {Y} to from r g back there law = record {
  taken = λ s p e.
      let x = bind_ok (r s) (λ m. Ok (to m.0, m.1)) p e in
      let made : Y × Input = (to x.0.0, x.0.1) in
      let one : Takes s (g x.0.0) x.0.1 = law.taken s x.0 x.1 in
      subst (λ (p : Y × Input). Takes s (g (from p.0)) p.1) (ok_is made p x.2) (subst (λ (x : X). Takes s (g x) made.1) (sym (back x.0.0)) one);
  again = λ v text at rest t.
      ap (λ (m : Read X). m >>= λ n. Ok (to n.0, n.1)) (law.again (from v) text at rest t) ∙ ap (λ (y : Y). answer (y, behind text at rest)) (there v);
}

-- the same reading, where the grammar is written otherwise
pub law_where : {X : Type 0} (r : Input → Read X) (g h : X → Language) → ((v : X) (text : List ℕ) → g v text → h v text) → ((v : X) (text : List ℕ) → h v text → g v text) → Law r g → Law r h
law_where r g h there back law = record {
  taken = λ s p e. let one = law.taken s p e in (one.0, one.1, there p.0 one.0 one.2);
  again = λ v text at rest t. law.again v text at rest (back v text t);
}

-- ---- a first byte, and what it says follows
read_byte : ℕ × Input → Read ℕ
read_byte x = Ok x

bytes_are : (x y : ℕ × Input) → read_byte x ≡ read_byte y → x ≡ y
unfolding read_byte
bytes_are x y e = cc

pub byte_taken : (left : List ℕ) (at : ℕ) (b : ℕ × Input) → byte_of left at ≡ Ok b → left ≡ b.0 ∷ b.1.left
unfolding read_byte
byte_taken [] at b e = absurd (let x : byte_of [] at ≡ Ok b = e in cc)
byte_taken (x ∷ xs) at b e = subst (λ (y : ℕ × Input). x ∷ xs ≡ y.0 ∷ y.1.left) (bytes_are (x, record { left = xs; at = at + 1 }) b e) refl

-- the byte stands for something, by this table
abbrev pub head : {T : Type 0} → (ℕ → T) → T → Language
head table t text = (b : ℕ) × (text ≡ b ∷ []) × (table b ≡ t)

pub head_law : {T X : Type 0} (table : ℕ → T) (body : ℕ → ℕ → T → Input → Read X) (tag : X → T) (inner : X → Language)
    → ((at b : ℕ) (t : T) (s : Input) (p : X × Input) → body at b t s ≡ Ok p → (t ≡ tag p.0) × Takes s (inner p.0) p.1)
    → ((at b : ℕ) (v : X) (text : List ℕ) (here : ℕ) (rest : List ℕ) → inner v text → body at b (tag v) (before text here rest) ≡ Ok (v, behind text here rest))
    → Law (λ s. byte_at s >>= λ b. body s.at b.0 (table b.0) b.1) (λ v. head table (tag v) ▸ inner v)
head_law {T} {X} table body tag inner arms back = record {
  taken = λ s p e.
      let b = bind_ok (byte_at s) (λ b. body s.at b.0 (table b.0) b.1) p e in
      let one = arms s.at b.0.0 (table b.0.0) b.0.1 p b.2 in
      let first : s.left ≡ (b.0.0 ∷ []) ++ b.0.1.left = byte_taken s.left s.at b.0 b.1 in
      let front : Takes s (head table (tag p.0)) b.0.1 = (b.0.0 ∷ [], first, (b.0.0, refl, one.0)) in
      Takes-then s b.0.1 p.1 (head table (tag p.0)) (inner p.0) front one.1;
  again = λ v text at rest t.
      let one : byte_at (before t.0 at (t.1 ++ rest)) ≡ Ok (t.3.0, behind t.0 at (t.1 ++ rest)) =
      subst (λ (l : List ℕ). byte_at (before l at (t.1 ++ rest)) ≡ Ok (t.3.0, behind l at (t.1 ++ rest))) (sym t.3.1) refl in
      turns_again byte_at (λ b. body at b.0 (table b.0) b.1) t.3.0 v t.0 t.1 at rest text t.2 one
      (ap (λ (o : T). body at t.3.0 o (before t.1 (at + length t.0) rest)) t.3.2 ∙ back at t.3.0 v t.1 (at + length t.0) rest t.4);
}

-- ---- lists
pub items_taken : {X : Type 0} (r : Input → Read X) (g : X → Language) → Law r g → (n : ℕ) (s : Input) (p : List X × Input) → items_at r n s ≡ Ok p → (length p.0 ≡ n) × Takes s (items g p.0) p.1
unfolding items_at
items_taken {X} r g law zero s p e =
    let made : List X × Input = ([], s) in
    subst (λ (p : List X × Input). (length p.0 ≡ 0) × Takes s (items g p.0) p.1) (ok_is made p e) (refl, ([], refl, refl))
items_taken {X} r g law (suc n) s p e =
    let x = bind_ok (r s) (λ first. items_at r n first.1 >>= λ others. Ok (first.0 ∷ others.0, others.1)) p e in
    let y = bind_ok (items_at r n x.0.1) (λ others. Ok (x.0.0 ∷ others.0, others.1)) p x.2 in
    let two = items_taken r g law n x.0.1 y.0 y.1 in
    let made : List X × Input = (x.0.0 ∷ y.0.0, y.0.1) in
    subst (λ (p : List X × Input). (length p.0 ≡ suc n) × Takes s (items g p.0) p.1) (ok_is made p y.2)
    (ap suc two.0, Takes-then s x.0.1 y.0.1 (g x.0.0) (items g y.0.0) (law.taken s x.0 x.1) two.1)

pub items_again : {X : Type 0} (r : Input → Read X) (g : X → Language) → Law r g → (xs : List X) (text : List ℕ) (at : ℕ) (rest : List ℕ) → items g xs text → items_at r (length xs) (before text at rest) ≡ Ok (xs, behind text at rest)
unfolding items_at
items_again r g law [] text at rest t = nothing_behind [] text at rest t
items_again {X} r g law (x ∷ xs) text at rest t =
    turns_again r (λ first. items_at r (length xs) first.1 >>= λ others. Ok (first.0 ∷ others.0, others.1)) x (x ∷ xs) t.0 t.1 at rest text t.2 (law.again x t.0 at (t.1 ++ rest) t.3)
    (ap (λ (m : Read (List X)). m >>= λ others. Ok (x ∷ others.0, others.1)) (items_again r g law xs t.1 (at + length t.0) rest t.4))

pub count_ok : (s : Input) (n : ℕ × Input) → count_at s ≡ Ok n → (n.0 ≤ 50000) × (u32_at s ≡ Ok n)
count_ok s n e =
    let m = bind_ok (u32_at s) (limited s.at) n e in
    let t = test_ok (leb m.0.0 50000) (fault.TooMany s.at) m.0 n m.2 in
    subst (λ (n : ℕ × Input). (n.0 ≤ 50000) × (u32_at s ≡ Ok n)) t.1 (leb-true _ _ t.0, m.1)

pub count_again : (n : ℕ) (text : List ℕ) (at : ℕ) (rest : List ℕ) → n ≤ 50000 → u32 n text → count_at (before text at rest) ≡ Ok (n, behind text at rest)
count_again n text at rest few t =
    goes (u32_at (before text at rest)) (limited at) (n, behind text at rest) (Ok (n, behind text at rest)) (u32_law.again n text at rest t) (rw (le-leb n 50000 few) refl)

pub list_law : {X : Type 0} (r : Input → Read X) (g : X → Language) → Law r g → Law (list_at r) (list g)
unfolding list_at
list_law {X} r g law = record {
  taken = λ s p e.
      let n = bind_ok (count_at s) (λ n. items_at r n.0 n.1) p e in
      let c = count_ok s n.0 n.1 in
      let xs = items_taken r g law n.0.0 n.0.1 p n.2 in
      let size : Takes s (u32 (length p.0)) n.0.1 = subst (λ n'. Takes s (u32 n') n.0.1) (sym xs.0) (u32_law.taken s n.0 c.1) in
      let both = Takes-then s n.0.1 p.1 (u32 (length p.0)) (items g p.0) size xs.1 in
      (both.0, both.1, (subst (λ n. n ≤ 50000) (sym xs.0) c.0, both.2));
  again = λ v text at rest t.
      turns_again count_at (λ n. items_at r n.0 n.1) (length v) v t.1.0 t.1.1 at rest text t.1.2 (count_again (length v) t.1.0 at (t.1.1 ++ rest) t.0 t.1.3)
      (items_again r g law v t.1.1 (at + length t.1.0) rest t.1.4);
}

-- ---- bytes behind their count
bytes_taken : (s : Input) (p : List ℕ × Input) → bytes_at s ≡ Ok p → Takes s (bytes p.0) p.1
bytes_taken s p e =
    let n = bind_ok (u32_at s) (taken s.at) p e in
    let g = guard_ok (ltb (length n.0.1.left) n.0.0) (fault.Short s.at) (take n.0.0 n.0.1.left, past n.0.0 n.0.1) p n.2 in
    let long : n.0.0 ≤ length n.0.1.left = ltb-false _ _ g.0 in
    let len : length (take n.0.0 n.0.1.left) ≡ n.0.0 = omega (arith, length-take n.0.0 n.0.1.left) in
    let size : Takes s (u32 (length (take n.0.0 n.0.1.left))) n.0.1 = subst (λ k. Takes s (u32 k) n.0.1) (sym len) (u32_law.taken s n.0 n.1) in
    let text : Takes n.0.1 (exactly (take n.0.0 n.0.1.left)) (past n.0.0 n.0.1) = (take n.0.0 n.0.1.left, sym (take-append-drop n.0.0 n.0.1.left), refl) in
    subst (λ (p : List ℕ × Input). Takes s (bytes p.0) p.1) g.1
    (Takes-then s n.0.1 (past n.0.0 n.0.1) (u32 (length (take n.0.0 n.0.1.left))) (exactly (take n.0.0 n.0.1.left)) size text)

taken_again : (from : ℕ) (v : List ℕ) (at : ℕ) (rest : List ℕ) → taken from (length v, before v at rest) ≡ Ok (v, behind v at rest)
taken_again from v at rest =
    let long : ltb (length (v ++ rest)) (length v) ≡ false = le-ltb _ _ (omega (arith, length-append v rest)) in
    rw (long, take_at v rest (length v) refl, drop_at v rest (length v) refl) refl

bytes_again : (v text : List ℕ) (at : ℕ) (rest : List ℕ) → bytes v text → bytes_at (before text at rest) ≡ Ok (v, behind text at rest)
bytes_again v text at rest t =
    turns_again u32_at (taken at) (length v) v t.0 t.1 at rest text t.2 (u32_law.again (length v) t.0 at (t.1 ++ rest) t.3)
    (subst (λ (l : List ℕ). taken at (length v, before l (at + length t.0) rest) ≡ Ok (v, behind l (at + length t.0) rest)) (sym t.4) (taken_again at v (at + length t.0) rest))

pub bytes_law : Law bytes_at bytes
bytes_law = record { taken = bytes_taken; again = bytes_again }

pub name_law : Law name_at name
name_law = record {
  taken = λ s p e.
      let b = bind_ok (bytes_at s) (name_of s.at) p e in
      let t = test_ok (is_utf8 b.0.0) (fault.Utf8 s.at) b.0 p b.2 in
      let one = bytes_taken s b.0 b.1 in
      subst (λ (p : List ℕ × Input). Takes s (name p.0) p.1) t.1 (one.0, one.1, (t.0, one.2));
  again = λ v text at rest t.
      goes (bytes_at (before text at rest)) (name_of at) (v, behind text at rest) (Ok (v, behind text at rest)) (bytes_again v text at rest t.1)
      (ap (λ b. cond b (Ok (v, behind text at rest)) (Err (fault.Utf8 at))) t.0);
}

-- ---- contents behind their size
pub filled_ok : (left : List ℕ) (at : ℕ) (u : Unit {0}) → filled_of left at ≡ Ok u → left ≡ []
filled_ok [] at u e = refl
filled_ok (b ∷ bs) at u e = absurd cc

pub whole_taken : {X : Type 0} (r : Input → Read X) (g : X → Language) → Law r g → (s : Input) (v : X) → whole r s ≡ Ok v → g v s.left
whole_taken {X} r g law s v e =
    let x = bind_ok (r s) (λ x. filled x.1 >>= λ end. Ok x.0) v e in
    let f = bind_ok (filled x.0.1) (λ end. Ok x.0.0) v x.2 in
    let one = law.taken s x.0 x.1 in
    let all : s.left ≡ one.0 = one.1 ∙ ap (λ (l : List ℕ). one.0 ++ l) (filled_ok x.0.1.left x.0.1.at f.0 f.1) ∙ append-nil one.0 in
    subst (λ (v : X). g v s.left) (given_is x.0.0 v f.2) (subst (g x.0.0) (sym all) one.2)

pub whole_again : {X : Type 0} (r : Input → Read X) (g : X → Language) → Law r g → (v : X) (text : List ℕ) (at : ℕ) → g v text → whole r (record { left = text; at = at }) ≡ Ok v
whole_again {X} r g law v text at t =
    let here : r (record { left = text; at = at }) ≡ Ok (v, behind text at []) = ap (λ (l : List ℕ). r (record { left = l; at = at })) (sym (append-nil text)) ∙ law.again v text at [] t in
    goes (r (record { left = text; at = at })) (λ x. filled x.1 >>= λ end. Ok x.0) (v, behind text at []) (Ok v) here refl

pub sized_taken : (s : Input) (i : Input × Input) → sized_at s ≡ Ok i → (size : List ℕ) × (s.left ≡ (size ++ i.0.left) ++ i.1.left) × u32 (length i.0.left) size
sized_taken s i e =
    let n = bind_ok (u32_at s) (λ size. contents_at size.0 size.1) i e in
    let g = guard_ok (ltb (length n.0.1.left) n.0.0) (fault.Short n.0.1.at) (record { left = take n.0.0 n.0.1.left; at = n.0.1.at }, past n.0.0 n.0.1) i n.2 in
    let long : n.0.0 ≤ length n.0.1.left = ltb-false _ _ g.0 in
    let len : length (take n.0.0 n.0.1.left) ≡ n.0.0 = omega (arith, length-take n.0.0 n.0.1.left) in
    let one = u32_law.taken s n.0 n.1 in
    subst (λ (i : Input × Input). (size : List ℕ) × (s.left ≡ (size ++ i.0.left) ++ i.1.left) × u32 (length i.0.left) size) g.1
    (one.0, one.1 ∙ ap (λ (l : List ℕ). one.0 ++ l) (sym (take-append-drop n.0.0 n.0.1.left)) ∙ sym (append_assoc one.0 (take n.0.0 n.0.1.left) (drop n.0.0 n.0.1.left)), subst (λ k. u32 k one.0) (sym len) one.2)

pub sized_again : (size contents : List ℕ) (at : ℕ) (rest : List ℕ) → u32 (length contents) size
    → sized_at (before (size ++ contents) at rest) ≡ Ok (record { left = contents; at = at + length size }, behind (size ++ contents) at rest)
sized_again size contents at rest t =
    let there : contents_at (length contents) (before contents (at + length size) rest) ≡ Ok (record { left = contents; at = at + length size }, behind contents (at + length size) rest) =
    let long : ltb (length (contents ++ rest)) (length contents) ≡ false = le-ltb _ _ (omega (arith, length-append contents rest)) in
    rw (long, take_at contents rest (length contents) refl, drop_at contents rest (length contents) refl) refl in
    turns_again u32_at (λ size. contents_at size.0 size.1) (length contents) (record { left = contents; at = at + length size }) size contents at rest (size ++ contents) refl
    (u32_law.again (length contents) size at (contents ++ rest) t) there

-- a field that fills its size
pub sized_law : {X : Type 0} (r : Input → Read X) (g : X → Language) → Law r g → Law (λ s. sized_at s >>= λ inner. whole r inner.0 >>= λ x. answer (x, inner.1)) (λ v. sized (g v))
sized_law {X} r g law = record {
  taken = λ s p e.
      let i = bind_ok (sized_at s) (λ inner. whole r inner.0 >>= λ x. answer (x, inner.1)) p e in
      let x = bind_ok (whole r i.0.0) (λ x. answer (x, i.0.1)) p i.2 in
      let size = sized_taken s i.0 i.1 in
      let made : X × Input = (x.0, i.0.1) in
      subst (λ (p : X × Input). Takes s (sized (g p.0)) p.1) (ok_is made p x.2)
      (size.0 ++ i.0.0.left, size.1, (size.0, i.0.0.left, refl, size.2, whole_taken r g law i.0.0 x.0 x.1));
  again = λ v text at rest t.
      let here : (sized_at (before (t.0 ++ t.1) at rest) >>= λ inner. whole r inner.0 >>= λ x. answer (x, inner.1)) ≡ Ok (v, behind (t.0 ++ t.1) at rest) =
      goes (sized_at (before (t.0 ++ t.1) at rest)) (λ inner. whole r inner.0 >>= λ x. answer (x, inner.1)) (record { left = t.1; at = at + length t.0 }, behind (t.0 ++ t.1) at rest) (Ok (v, behind (t.0 ++ t.1) at rest))
      (sized_again t.0 t.1 at rest t.3)
      (ap (λ (m : Result X DecodeFault). m >>= λ x. answer (x, behind (t.0 ++ t.1) at rest)) (whole_again r g law v t.1 (at + length t.0) t.4)) in
      subst (λ (l : List ℕ). (sized_at (before l at rest) >>= λ inner. whole r inner.0 >>= λ x. answer (x, inner.1)) ≡ Ok (v, behind l at rest)) (sym t.2) here;
}
