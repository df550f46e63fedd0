-- The constants of a module that its bytes spell are numbers of their types.
use Rattle.std.proofs.Common.{◌≡◌, ℕ, zero, suc, ◌+◌, ◌-◌, ◌*◌, ◌^◌, ◌<◌, ◌≤◌, ◌⊎◌, Bool, true, false, List, [], ◌∷◌}
use Rattle.std.proofs.Common.{◌++◌, Some}
use Rattle.std.proofs.Common.{sym, ap, ◌∙◌, subst, inl, inr, arith, pow_pos, pow-add, pow-suc, slice_get}
use Rattle.nr_bytes.specs.Numbers.{IsBytes}
use Rattle.nr_machine_laws.specs.Typed.{IsConstant, HoldsConstants, IsFirst, AreConstants}
use Rattle.nr_wasmbin.specs.Grammar.{Language, ◌▸◌, IsModule, IsOther, IsSequence, back, body, byte, constant}
use Rattle.nr_wasmbin.specs.Grammar.{expression}
use Rattle.nr_wasmbin.specs.Grammar.{global, items, list, locals, middle, operands, section, sized}
use Rattle.nr_wasmbin.specs.Leb.{IsLast, IsSigned}
use Rattle.nr_wasmexec.proofs.Branches.{some_is}
use Rattle.nr_wasmtypes.specs.Body.{Body}
use Rattle.nr_wasmtypes.specs.Code.{Code, End, Then, Block, Loop, Choice}
use Rattle.nr_wasmtypes.specs.declared.instr.Plain.{Plain}
use Rattle.nr_wasmtypes.specs.declared.instr.Plain.TheVariants as plain
use Rattle.nr_wasmtypes.specs.declared.module.ConstExpr.{ConstExpr}
use Rattle.nr_wasmtypes.specs.declared.module.ConstExpr.TheVariants as const
use Rattle.nr_wasmtypes.specs.declared.module.Global.{Global}
use Rattle.nr_wasmtypes.specs.declared.module.Module.{Module}

-- ---- bytes of parts
tail_bytes : (x : ℕ) (xs : List ℕ) → IsBytes (x ∷ xs) → IsBytes xs
tail_bytes x xs a = λ i. a (suc i)

consed_bytes : (x : ℕ) (xs : List ℕ) → x < 256 → IsBytes xs → IsBytes (x ∷ xs)
consed_bytes x xs h a zero = h
consed_bytes x xs h a (suc i) = a i

front_bytes : (xs ys : List ℕ) → IsBytes (xs ++ ys) → IsBytes xs
front_bytes [] ys a = λ i. omega arith
front_bytes (x ∷ xs) ys a = consed_bytes x xs (a 0) (front_bytes xs ys (tail_bytes x (xs ++ ys) a))

rest_bytes : (xs ys : List ℕ) → IsBytes (xs ++ ys) → IsBytes ys
rest_bytes [] ys a = a
rest_bytes (x ∷ xs) ys a = rest_bytes xs ys (tail_bytes x (xs ++ ys) a)

-- ---- numbers
half : (k : ℕ) → 2 ^ (k - 1) ≤ 2 ^ k
half zero = omega arith
half (suc k) =
    let less : suc k - 1 ≡ k = omega arith in
    subst (λ j. 2 ^ j ≤ 2 ^ suc k) (sym less) (omega (arith, pow-suc 2 k))

small_last : (bits b n : ℕ) → IsLast bits b n → n < 2 ^ bits
small_last bits b n (inl h) = omega (arith, h.1, h.2, half bits)
small_last bits b n (inr h) = omega (arith, h.3, pow_pos bits)

high_bits : (bits : ℕ) → 7 < bits → 2 ^ bits ≡ 2 ^ (bits - 7) * 128
high_bits bits lt =
    let sum : bits - 7 + 7 ≡ bits = omega (arith, lt) in
    subst (λ k. 2 ^ k ≡ 2 ^ (bits - 7) * 128) sum (pow-add 2 (bits - 7) 7)

small_signed : (bits : ℕ) (text : List ℕ) (n : ℕ) → IsBytes text → IsSigned bits text n → n < 2 ^ bits
small_signed bits [] n a h = absurd h
small_signed bits (b ∷ []) n a h = small_last bits b n h
small_signed bits (b ∷ x ∷ text) n a h =
    let high : h.2 < 2 ^ (bits - 7) = small_signed (bits - 7) (x ∷ text) h.2 (tail_bytes b (x ∷ text) a) h.4 in
    let small : b < 256 = a 0 in
    omega (arith, high, small, h.3, high_bits bits h.1)

-- ---- instructions
constant_is : (p : Plain) (text : List ℕ) → IsBytes text → operands p text → IsConstant p
constant_is (plain.Const32 n) text a h = small_signed 32 text n a h
constant_is (plain.Const64 n) text a h = small_signed 64 text n a h
constant_is other text a h = tt

behind_type : (b : ℕ) (t x y : List ℕ) → IsBytes (b ∷ (t ++ (x ++ y))) → IsBytes (x ++ y)
behind_type b t x y a = rest_bytes t (x ++ y) (tail_bytes b (t ++ (x ++ y)) a)

other_side : (depth : ℕ) (other : Code) (split : Bool) (z : List ℕ)
    → (IsSequence (depth + 1) z other false → HoldsConstants other)
    → IsOther split (λ (s : List ℕ). IsSequence (depth + 1) s other false) other z → HoldsConstants other
other_side depth other true z go k = go k
other_side depth other false z go k = subst HoldsConstants (sym k.1) tt

code_constants : (depth : ℕ) (text : List ℕ) (code : Code) (stands : Bool) → IsBytes text
    → IsSequence depth text code stands → HoldsConstants code
code_constants depth text End stands a h = tt
code_constants depth text (Then p rest) stands a h =
    let parts : IsBytes (h.1 ++ h.2) = tail_bytes h.0 (h.1 ++ h.2) (subst IsBytes h.3 a) in (
      constant_is p h.1 (front_bytes h.1 h.2 parts) h.4.1,
      code_constants depth h.2 rest stands
          (rest_bytes h.1 h.2 parts) h.5,
    )
code_constants depth text (Block ty body rest) stands a h =
    let parts : IsBytes (h.2 ++ h.3) = behind_type h.0 h.1 h.2 h.3 (subst IsBytes h.4 a) in (
      code_constants (depth + 1) h.2 body false (front_bytes h.2 h.3 parts) h.8,
      code_constants depth h.3 rest stands
          (rest_bytes h.2 h.3 parts) h.9,
    )
code_constants depth text (Loop ty body rest) stands a h =
    let parts : IsBytes (h.2 ++ h.3) = behind_type h.0 h.1 h.2 h.3 (subst IsBytes h.4 a) in (
      code_constants (depth + 1) h.2 body false (front_bytes h.2 h.3 parts) h.8,
      code_constants depth h.3 rest stands
          (rest_bytes h.2 h.3 parts) h.9,
    )
code_constants depth text (Choice ty one other rest) stands a h =
    let parts : IsBytes (h.2 ++ (h.3 ++ h.4)) = behind_type h.0 h.1 h.2 (h.3 ++ h.4) (subst IsBytes h.5 a) in
    let others : IsBytes (h.3 ++ h.4) = rest_bytes h.2 (h.3 ++ h.4) parts in (
      code_constants (depth + 1) h.2 one h.9 (front_bytes h.2 (h.3 ++ h.4) parts) h.10,
      other_side depth other h.9 h.3 (λ k. code_constants (depth + 1) h.3 other false (front_bytes h.3 h.4 others) k)
          h.11,
      code_constants depth h.4 rest stands (rest_bytes h.3 h.4 others) h.12,
    )

-- ---- parts of a module
items_hold : {X : Type 0} (item : X → Language) (P : X → Type 0)
    → ((x : X) (text : List ℕ) → IsBytes text → item x text → P x)
    → (xs : List X) (text : List ℕ) → IsBytes text → items item xs text → (k : ℕ) (x : X) → slice_get xs k ≡ Some x
    → P x
items_hold item P each [] text a h k x e = absurd cc
items_hold item P each (y ∷ ys) text a h zero x e =
    subst P (some_is y x e) (each y h.0 (front_bytes h.0 h.1 (subst IsBytes h.2 a)) h.3)
items_hold item P each (y ∷ ys) text a h (suc k) x e =
    items_hold item P each ys h.1 (rest_bytes h.0 h.1 (subst IsBytes h.2 a)) h.4 k x e

-- what fills its size
filled : (P : Language) (text : List ℕ) → IsBytes text → (h : sized P text) → IsBytes h.1
filled P text a h = rest_bytes h.0 h.1 (subst IsBytes h.2 a)

list_holds : {X : Type 0} (item : X → Language) (P : X → Type 0)
    → ((x : X) (text : List ℕ) → IsBytes text → item x text → P x)
    → (xs : List X) (text : List ℕ) → IsBytes text → list item xs text → (k : ℕ) (x : X) → slice_get xs k ≡ Some x
    → P x
list_holds item P each xs text a h =
    items_hold item P each xs h.1.1 (rest_bytes h.1.0 h.1.1 (subst IsBytes h.1.2 a)) h.1.4

section_holds : {X : Type 0} (id : ℕ) (item : X → Language) (P : X → Type 0)
    → ((x : X) (text : List ℕ) → IsBytes text → item x text → P x)
    → (xs : List X) (text : List ℕ) → IsBytes text → section id (list item) xs text → (k : ℕ) (x : X)
    → slice_get xs k ≡ Some x → P x
section_holds {X} id item P each xs text a h = by_presence (rest_bytes h.0 h.1 (subst IsBytes h.2 a)) h.4
  where
    by_presence : IsBytes h.1 → ((h.1 ≡ []) × (xs ≡ [])) ⊎ (byte id ▸ sized (list item xs)) h.1 → (k : ℕ) (x : X)
        → slice_get xs k ≡ Some x → P x
    by_presence b (inl none) k x e =
        absurd (let f : slice_get [] k ≡ Some x = ap (λ (ys : List X). slice_get ys k) (sym none.1) ∙ e in cc)
    by_presence b (inr there) k x e =
        let inner : IsBytes there.1 = rest_bytes there.0 there.1 (subst IsBytes there.2 b) in
        list_holds item P each xs there.4.1 (filled (list item xs) there.1 inner there.4) there.4.4 k x e

body_holds : (b : Body) (text : List ℕ) → IsBytes text → body b text → HoldsConstants b.code
body_holds b text a h =
    let inner : IsBytes h.1 = filled (locals b.locals ▸ expression b.code) text a h in
    code_constants 0 h.4.1 b.code false (rest_bytes h.4.0 h.4.1 (subst IsBytes h.4.2 inner)) h.4.4

first_is : (x : ConstExpr) (text : List ℕ) → IsBytes text → constant x text → IsFirst x
first_is (const.I32 n) text a h = small_signed 32 h.1 n (rest_bytes h.0 h.1 (subst IsBytes h.2 a)) h.4
first_is (const.I64 n) text a h = small_signed 64 h.1 n (rest_bytes h.0 h.1 (subst IsBytes h.2 a)) h.4
first_is (const.Get g) text a h = tt

global_holds : (g : Global) (text : List ℕ) → IsBytes text → global g text → IsFirst g.init
global_holds g text a h =
    let init : IsBytes h.1 = rest_bytes h.0 h.1 (subst IsBytes h.2 a) in
    first_is g.init h.4.0 (front_bytes h.4.0 h.4.1 (subst IsBytes h.4.2 init)) h.4.3

middle_holds : (m : Module) (text : List ℕ) → IsBytes text → middle m text → (k : ℕ) (g : Global)
    → slice_get m.globals k ≡ Some g → IsFirst g.init
middle_holds m text a h =
    let behind_tables : IsBytes h.1 = rest_bytes h.0 h.1 (subst IsBytes h.2 a) in
    let s = h.4 in
    let behind_memories : IsBytes s.1 = rest_bytes s.0 s.1 (subst IsBytes s.2 behind_tables) in
    let t = s.4 in
    section_holds 6 global (λ (g : Global). IsFirst g.init) global_holds m.globals t.0
    (front_bytes t.0 t.1 (subst IsBytes t.2 behind_memories)) t.3

back_holds : (m : Module) (text : List ℕ) → IsBytes text → back m text → (k : ℕ) (b : Body)
    → slice_get m.bodies k ≡ Some b → HoldsConstants b.code
back_holds m text a h =
    section_holds 10 body (λ (b : Body). HoldsConstants b.code) body_holds m.bodies h.0
    (front_bytes h.0 h.1 (subst IsBytes h.2 a)) h.3

pub spelled : (text : List ℕ) (m : Module) → IsBytes text → IsModule text m → AreConstants m
spelled text m a h =
    let s = h.1 in
    let behind_magic : IsBytes s.1 = rest_bytes s.0 s.1 (subst IsBytes s.2 a) in
    let t = s.4 in
    let behind_version : IsBytes t.1 = rest_bytes t.0 t.1 (subst IsBytes t.2 behind_magic) in
    let u = t.4 in
    let behind_front : IsBytes u.1 = rest_bytes u.0 u.1 (subst IsBytes u.2 behind_version) in
    let v = u.4 in
    let parts : IsBytes (v.0 ++ v.1) = subst IsBytes v.2 behind_front in
    record {
      bodies = back_holds m v.1 (rest_bytes v.0 v.1 parts) v.4;
      globals = middle_holds m v.0 (front_bytes v.0 v.1 parts) v.3;
    }
