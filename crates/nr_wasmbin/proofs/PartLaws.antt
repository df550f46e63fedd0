-- The laws of the entries of sections, and of what stands behind opcodes.
use Rattle.std.proofs.Common.{◌≡◌, ◌⊎◌, ℕ, zero, suc, ◌+◌, ◌≤◌, Bool, true, false, cond, eqb, leb, List, [], ◌∷◌, ◌++◌, length, replicate, Option, Some, None, Ok, Err, refl, sym, ap, subst, ◌∙◌, inl, inr}
use Rattle.std.proofs.lemmas.Bool.{eqb-true, eq-eqb, leb-true, le-leb}
use Rattle.std.proofs.lemmas.List.{append-nil}
use Rattle.nr_bytes.proofs.Basics.{bind_ok}
use Rattle.nr_bytes.specs.Reading.{Input, ◌>>=◌}
use Rattle.nr_bytes.specs.Spelling.{before, behind}
use Rattle.nr_bytes.specs.Fields.{mapped, pair}
use Rattle.nr_wasmtypes.specs.declared.instr.ValType.{ValType}
use Rattle.nr_wasmtypes.specs.declared.instr.ValType.TheVariants.{I32, I64}
use Rattle.nr_wasmtypes.specs.declared.module.FuncType.{FuncType}
use Rattle.nr_wasmtypes.specs.declared.module.ImportKind.{ImportKind}
use Rattle.nr_wasmtypes.specs.declared.module.ImportKind.TheVariants as imported
use Rattle.nr_wasmtypes.specs.declared.module.Import.{Import}
use Rattle.nr_wasmtypes.specs.declared.module.Limits.{Limits}
use Rattle.nr_wasmtypes.specs.declared.module.ConstExpr.{ConstExpr}
use Rattle.nr_wasmtypes.specs.declared.module.ConstExpr.TheVariants as const
use Rattle.nr_wasmtypes.specs.declared.module.Global.{Global}
use Rattle.nr_wasmtypes.specs.declared.module.ExportKind.{ExportKind}
use Rattle.nr_wasmtypes.specs.declared.module.ExportKind.TheVariants as exported
use Rattle.nr_wasmtypes.specs.declared.module.Export.{Export}
use Rattle.nr_wasmtypes.specs.declared.module.Element.{Element}
use Rattle.nr_wasmtypes.specs.declared.module.Segment.{Segment}
use Rattle.nr_wasmtypes.specs.Opcodes.{op_of}
use Rattle.nr_wasmtypes.specs.declared.opcode.Op.{Op}
use Rattle.nr_wasmtypes.specs.declared.opcode.Op.TheVariants as op
use Rattle.nr_wasmbin.specs.Fields.{Read, byte_at, u32_at, s32_at, s64_at, count_at, list_at, bytes_at, name_at}
use Rattle.nr_wasmbin.specs.Parts.{val_type_of, val_type_at, is_byte, exact_at, result_of, result_at, func_type_at}
use Rattle.nr_wasmbin.specs.Parts.{limits_of, limits_at, table_at, mutable_of, mutable_at, global_type_at}
use Rattle.nr_wasmbin.specs.Parts.{import_kind_of, import_kind_at, import_of, import_at, wrong_op, constant_of}
use Rattle.nr_wasmbin.specs.Parts.{constant_at, end_of, end_at, const_expr_at, global_of, global_at, export_kind_of}
use Rattle.nr_wasmbin.specs.Parts.{export_kind_at, export_of, export_at, element_of, element_at, segment_of, segment_at}
use Rattle.nr_wasmbin.specs.Parts.{within, group_count_at, group_at, groups_at, locals_at}
use Rattle.nr_wasmbin.specs.Expressions.{block_type_of, block_type_at}
use Rattle.nr_wasmbin.specs.Grammar.{Language, ◌▸◌, nothing, byte, opcode, u32, s32, s64, list, bytes, name, val_type, block_type, result, func_type, limits_with, limits, table, mutable, global_type, constant, const_expr, import_kind, import, global, export_kind, export, element, segment, group, groups, locals}
use Rattle.nr_wasmbin.specs.declared.fault.DecodeFault.{DecodeFault}
use Rattle.nr_wasmbin.specs.declared.fault.DecodeFault.TheVariants as fault
use Rattle.nr_wasmbin.proofs.Laws.{Takes, Law, goes, answer, ok_is, test_ok, Takes-then, turns_again, nothing_behind, u32_law, s32_law, s64_law, pair_law, mapped_law, law_where, head, head_law, byte_taken, list_law, bytes_law, name_law, count_ok, count_again}

-- ---- a first byte
abbrev same_byte : ℕ → ℕ
same_byte b = b

pub head_byte : (n : ℕ) (text : List ℕ) → head same_byte n text → byte n text
head_byte n text h = h.1 ∙ ap (λ b. b ∷ []) h.2

pub byte_head : (n : ℕ) (text : List ℕ) → byte n text → head same_byte n text
byte_head n text e = (n, e, refl)

pub alone : (P : Language) (text : List ℕ) → (P ▸ nothing) text → P text
alone P text h = subst P (sym (h.2 ∙ ap (λ (l : List ℕ). h.0 ++ l) h.4 ∙ append-nil h.0)) h.3

pub and_nothing : (P : Language) (text : List ℕ) → P text → (P ▸ nothing) text
and_nothing P text h = (text, [], sym (append-nil text), h, refl)

pub takes_nothing : (s : Input) → Takes s nothing s
takes_nothing s = ([], refl, refl)

-- the byte says what follows
pub byte_law : {X : Type 0} (body : ℕ → ℕ × Input → Read X) (tag : X → ℕ) (inner : X → Language)
    → ((at n : ℕ) (s : Input) (p : X × Input) → body at (n, s) ≡ Ok p → (n ≡ tag p.0) × Takes s (inner p.0) p.1)
    → ((at : ℕ) (v : X) (text : List ℕ) (here : ℕ) (rest : List ℕ) → inner v text → body at (tag v, before text here rest) ≡ Ok (v, behind text here rest))
    → Law (λ s. byte_at s >>= body s.at) (λ v. byte (tag v) ▸ inner v)
byte_law {X} body tag inner arms back =
    law_where (λ s. byte_at s >>= body s.at) (λ v. head same_byte (tag v) ▸ inner v) (λ v. byte (tag v) ▸ inner v)
    (λ v text h. (h.0, h.1, h.2, head_byte (tag v) h.0 h.3, h.4)) (λ v text h. (h.0, h.1, h.2, byte_head (tag v) h.0 h.3, h.4))
    (head_law same_byte (λ at b n s. body at (n, s)) tag inner (λ at b n s p e. arms at n s p e) (λ at b v text here rest h. back at v text here rest h))

-- the byte says all
pub leaf_law : {X : Type 0} (body : ℕ → ℕ × Input → Read X) (tag : X → ℕ)
    → ((at n : ℕ) (s : Input) (p : X × Input) → body at (n, s) ≡ Ok p → (n ≡ tag p.0) × Takes s nothing p.1)
    → ((at : ℕ) (v : X) (s : Input) → body at (tag v, s) ≡ Ok (v, s))
    → Law (λ s. byte_at s >>= body s.at) (λ v. byte (tag v))
leaf_law {X} body tag arms back =
    law_where (λ s. byte_at s >>= body s.at) (λ v. byte (tag v) ▸ nothing) (λ v. byte (tag v))
    (λ v text h. alone (byte (tag v)) text h) (λ v text h. and_nothing (byte (tag v)) text h)
    (byte_law body tag (λ v. nothing) arms (λ at v text here rest h. back at v (before text here rest) ∙ nothing_behind v text here rest h))

-- a test that leads to one reading or to another
pub pick : {X : Type 0} (n k : ℕ) (first other : Read X) (p : X × Input) → cond (eqb n k) first other ≡ Ok p → ((n ≡ k) × (first ≡ Ok p)) ⊎ (other ≡ Ok p)
pick {X} n k first other p e =
    elim (eqb n k) as (λ b. eqb n k ≡ b → cond b first other ≡ Ok p → ((n ≡ k) × (first ≡ Ok p)) ⊎ (other ≡ Ok p)) [
      | true ↦ λ is e. inl (eqb-true n k is, e)
      | false ↦ λ is e. inr e
    ] refl e

abbrev pub failed : {X : Type 0} → DecodeFault → Read X
failed e = Err e

never : {X : Type 0} {C : Type 0} (d : DecodeFault) (p : X × Input) → failed d ≡ answer p → C
never d p e = absurd cc

-- what holds of a value that is made of another
pub mapped_case : {X Y : Type 0} (to : X → Y) (r : Input → Read X) (g : X → Language) → Law r g → (C : Y × Input → Type 0) (s : Input) (p : Y × Input)
    → ((x : X) (t : Input) → Takes s (g x) t → C (to x, t)) → mapped to r s ≡ Ok p → C p
mapped_case {X} {Y} to r g law C s p case e =
    let x = bind_ok (r s) (λ m. Ok (to m.0, m.1)) p e in
    let made : Y × Input = (to x.0.0, x.0.1) in
    subst C (ok_is made p x.2) (case x.0.0 x.0.1 (law.taken s x.0 x.1))

pub mapped_again : {X Y : Type 0} (to : X → Y) (r : Input → Read X) (g : X → Language) → Law r g → (x : X) (text : List ℕ) (at : ℕ) (rest : List ℕ) → g x text → mapped to r (before text at rest) ≡ Ok (to x, behind text at rest)
mapped_again {X} {Y} to r g law x text at rest h = ap (λ (m : Read X). m >>= λ n. Ok (to n.0, n.1)) (law.again x text at rest h)

-- ---- value types
val_tag : ValType → ℕ
val_tag I32 = 0x7f
val_tag I64 = 0x7e

val_arms : (at n : ℕ) (s : Input) (p : ValType × Input) → val_type_of at (n, s) ≡ Ok p → (n ≡ val_tag p.0) × Takes s nothing p.1
unfolding val_tag
val_arms at n s p e =
    let C : ValType × Input → Type 0 = λ p. (n ≡ val_tag p.0) × Takes s nothing p.1 in
    elim (pick n 0x7f (Ok (I32, s)) _ p e) [
      | inl h ↦ subst C (ok_is (I32, s) p h.1) (h.0, takes_nothing s)
      | inr e ↦ elim (pick n 0x7e (Ok (I64, s)) _ p e) [
        | inl h ↦ subst C (ok_is (I64, s) p h.1) (h.0, takes_nothing s)
        | inr e ↦ elim (pick n 0x7d (Err (fault.Float at)) _ p e) [
          | inl h ↦ never (fault.Float at) p h.1
          | inr e ↦ elim (pick n 0x7c (Err (fault.Float at)) _ p e) [
            | inl h ↦ never (fault.Float at) p h.1
            | inr e ↦ never (fault.Opcode at) p e
          ]
        ]
      ]
    ]

val_back : (at : ℕ) (v : ValType) (s : Input) → val_type_of at (val_tag v, s) ≡ Ok (v, s)
unfolding val_tag
val_back at I32 s = refl
val_back at I64 s = refl

val_is : (v : ValType) (text : List ℕ) → byte (val_tag v) text → val_type v text
unfolding val_tag
val_is I32 text h = h
val_is I64 text h = h

is_val : (v : ValType) (text : List ℕ) → val_type v text → byte (val_tag v) text
unfolding val_tag
is_val I32 text h = h
is_val I64 text h = h

pub val_type_law : Law val_type_at val_type
val_type_law = law_where val_type_at (λ v. byte (val_tag v)) val_type val_is is_val (leaf_law val_type_of val_tag val_arms val_back)

-- ---- a byte that must be this one
exact_taken : (b : ℕ) (s : Input) (p : ℕ × Input) → exact_at b s ≡ Ok p → Takes s (byte b) p.1
exact_taken b s p e =
    let x = bind_ok (byte_at s) (is_byte b s.at) p e in
    let t = test_ok (eqb x.0.0 b) (fault.Opcode s.at) x.0 p x.2 in
    let same : x.0.0 ≡ b = eqb-true x.0.0 b t.0 in
    let one : Takes s (byte b) x.0.1 = (x.0.0 ∷ [], byte_taken s.left s.at x.0 x.1, ap (λ b. b ∷ []) same) in
    subst (λ (p : ℕ × Input). Takes s (byte b) p.1) t.1 one

exact_again : (b : ℕ) (text : List ℕ) (at : ℕ) (rest : List ℕ) → byte b text → exact_at b (before text at rest) ≡ Ok (b, behind text at rest)
exact_again b text at rest h =
    let here : exact_at b (before (b ∷ []) at rest) ≡ Ok (b, behind (b ∷ []) at rest) = ap (λ t. cond t (answer (b, behind (b ∷ []) at rest)) (Err (fault.Opcode at))) (eq-eqb b b refl) in
    subst (λ (l : List ℕ). exact_at b (before l at rest) ≡ Ok (b, behind l at rest)) (sym h) here

-- that byte, and a part that makes the value
pub led_law : {X Y : Type 0} (b : ℕ) (to : X → Y) (from : Y → X) (r : Input → Read X) (g : X → Language) → ((x : X) → from (to x) ≡ x) → ((y : Y) → to (from y) ≡ y) → Law r g
    → Law (mapped (λ p. to p.1) (pair (exact_at b) r)) (λ y. byte b ▸ g (from y))
led_law {X} {Y} b to from r g back there law = record {
  taken = λ s p e.
      let x = bind_ok (pair (exact_at b) r s) (λ m. Ok (to m.0.1, m.1)) p e in
      let y = bind_ok (exact_at b s) (λ m. r m.1 >>= λ n. Ok ((m.0, n.0), n.1)) x.0 x.1 in
      let z = bind_ok (r y.0.1) (λ n. Ok ((y.0.0, n.0), n.1)) x.0 y.2 in
      let both : (ℕ × X) × Input = ((y.0.0, z.0.0), z.0.1) in
      let made : Y × Input = (to z.0.0, z.0.1) in
      let same : made ≡ p = ap (λ (q : (ℕ × X) × Input). (to q.0.1, q.1)) (ok_is both x.0 z.2) ∙ ok_is (to x.0.0.1, x.0.1) p x.2 in
      let one = Takes-then s y.0.1 z.0.1 (byte b) (g z.0.0) (exact_taken b s y.0 y.1) (law.taken y.0.1 z.0 z.1) in
      subst (λ (p : Y × Input). Takes s (byte b ▸ g (from p.0)) p.1) same (subst (λ (x : X). Takes s (byte b ▸ g x) z.0.1) (sym (back z.0.0)) one);
  again = λ v text at rest t.
      goes (pair (exact_at b) r (before text at rest)) (λ m. Ok (to m.0.1, m.1)) ((b, from v), behind text at rest) (Ok (v, behind text at rest))
      (turns_again (exact_at b) (λ m. r m.1 >>= λ n. Ok ((m.0, n.0), n.1)) b (b, from v) t.0 t.1 at rest text t.2 (exact_again b t.0 at (t.1 ++ rest) t.3)
      (ap (λ (m : Read X). m >>= λ n. Ok ((b, n.0), n.1)) (law.again (from v) t.1 (at + length t.0) rest t.4)))
      (ap (λ (y : Y). answer (y, behind text at rest)) (there v));
}

-- ---- function types
result_taken : (at n : ℕ) (s t : Input) (p : Option ValType × Input) → Takes s (u32 n) t → result_of at (n, t) ≡ Ok p → Takes s (result p.0) p.1
result_taken at zero s t p size e =
    let C : Option ValType × Input → Type 0 = λ p. Takes s (result p.0) p.1 in
    subst C (ok_is (None, t) p e) size
result_taken at (suc zero) s t p size e =
    mapped_case Some val_type_at val_type val_type_law (λ p. Takes s (result p.0) p.1) t p (λ v u k. Takes-then s t u (u32 1) (val_type v) size k) e
result_taken at (suc (suc n)) s t p size e = never (fault.TooMany at) p e

result_again : (v : Option ValType) (text : List ℕ) (at : ℕ) (rest : List ℕ) → result v text → result_at (before text at rest) ≡ Ok (v, behind text at rest)
result_again None text at rest h = goes (u32_at (before text at rest)) (result_of at) (0, behind text at rest) (Ok (None, behind text at rest)) (u32_law.again 0 text at rest h) refl
result_again (Some t) text at rest h =
    turns_again u32_at (result_of at) 1 (Some t) h.0 h.1 at rest text h.2 (u32_law.again 1 h.0 at (h.1 ++ rest) h.3)
    (mapped_again Some val_type_at val_type val_type_law t h.1 (at + length h.0) rest h.4)

result_law : Law result_at result
result_law = record {
  taken = λ s p e. let n = bind_ok (u32_at s) (result_of s.at) p e in result_taken s.at n.0.0 s n.0.1 p (u32_law.taken s n.0 n.1) n.2;
  again = result_again;
}

abbrev func_type_from : FuncType → List ValType × Option ValType
func_type_from f = (f.params, f.result)

abbrev func_type_to : List ValType × Option ValType → FuncType
func_type_to f = record { params = f.0; result = f.1 }

pub func_type_law : Law func_type_at func_type
unfolding func_type_at
func_type_law = led_law 0x60 func_type_to func_type_from (pair (list_at val_type_at) result_at) (λ p. list val_type p.0 ▸ result p.1) (λ _. refl) (λ _. refl)
    (pair_law (list_at val_type_at) (list val_type) result_at result (list_law val_type_at val_type val_type_law) result_law)

-- ---- limits and tables
most_tag : Option ℕ → ℕ
most_tag None = 0
most_tag (Some n) = 1

abbrev limits_tag : Limits → ℕ
limits_tag l = most_tag l.most

limits_inner_with : ℕ → Option ℕ → Language
limits_inner_with least None = u32 least
limits_inner_with least (Some most) = u32 least ▸ u32 most

abbrev limits_inner : Limits → Language
limits_inner l = limits_inner_with l.least l.most

abbrev up_from : ℕ → Limits
up_from n = record { least = n; most = None }

abbrev between : ℕ × ℕ → Limits
between n = record { least = n.0; most = Some n.1 }

limits_arms : (at n : ℕ) (s : Input) (p : Limits × Input) → limits_of at (n, s) ≡ Ok p → (n ≡ limits_tag p.0) × Takes s (limits_inner p.0) p.1
unfolding most_tag limits_inner_with
limits_arms at zero s p e = mapped_case up_from u32_at u32 u32_law (λ p. (0 ≡ limits_tag p.0) × Takes s (limits_inner p.0) p.1) s p (λ n t k. (refl, k)) e
limits_arms at (suc zero) s p e =
    mapped_case between (pair u32_at u32_at) (λ n. u32 n.0 ▸ u32 n.1) (pair_law u32_at u32 u32_at u32 u32_law u32_law) (λ p. (1 ≡ limits_tag p.0) × Takes s (limits_inner p.0) p.1) s p (λ n t k. (refl, k)) e
limits_arms at (suc (suc n)) s p e = never (fault.Opcode at) p e

limits_back_with : (at least : ℕ) (most : Option ℕ) (text : List ℕ) (here : ℕ) (rest : List ℕ) → limits_inner_with least most text
    → limits_of at (most_tag most, before text here rest) ≡ Ok (record { least = least; most = most }, behind text here rest)
unfolding most_tag limits_inner_with
limits_back_with at least None text here rest h = mapped_again up_from u32_at u32 u32_law least text here rest h
limits_back_with at least (Some most) text here rest h =
    mapped_again between (pair u32_at u32_at) (λ n. u32 n.0 ▸ u32 n.1) (pair_law u32_at u32 u32_at u32 u32_law u32_law) (least, most) text here rest h

limits_is : (least : ℕ) (most : Option ℕ) (text : List ℕ) → (byte (most_tag most) ▸ limits_inner_with least most) text → limits_with least most text
unfolding most_tag limits_inner_with
limits_is least None text h = h
limits_is least (Some most) text h = h

is_limits : (least : ℕ) (most : Option ℕ) (text : List ℕ) → limits_with least most text → (byte (most_tag most) ▸ limits_inner_with least most) text
unfolding most_tag limits_inner_with
is_limits least None text h = h
is_limits least (Some most) text h = h

pub limits_law : Law limits_at limits
limits_law =
    law_where limits_at (λ l. byte (limits_tag l) ▸ limits_inner l) limits (λ l text h. limits_is l.least l.most text h) (λ l text h. is_limits l.least l.most text h)
    (byte_law limits_of limits_tag limits_inner limits_arms (λ at l text here rest h. limits_back_with at l.least l.most text here rest h))

abbrev same_limits : Limits → Limits
same_limits l = l

pub table_law : Law table_at table
table_law = led_law 0x70 same_limits same_limits limits_at limits (λ _. refl) (λ _. refl) limits_law

-- ---- globals' types
mutable_tag : Bool → ℕ
mutable_tag false = 0
mutable_tag true = 1

mutable_arms : (at n : ℕ) (s : Input) (p : Bool × Input) → mutable_of at (n, s) ≡ Ok p → (n ≡ mutable_tag p.0) × Takes s nothing p.1
unfolding mutable_tag
mutable_arms at zero s p e = let C : Bool × Input → Type 0 = λ p. (0 ≡ mutable_tag p.0) × Takes s nothing p.1 in subst C (ok_is (false, s) p e) (refl, takes_nothing s)
mutable_arms at (suc zero) s p e = let C : Bool × Input → Type 0 = λ p. (1 ≡ mutable_tag p.0) × Takes s nothing p.1 in subst C (ok_is (true, s) p e) (refl, takes_nothing s)
mutable_arms at (suc (suc n)) s p e = never (fault.Opcode at) p e

mutable_back : (at : ℕ) (v : Bool) (s : Input) → mutable_of at (mutable_tag v, s) ≡ Ok (v, s)
unfolding mutable_tag
mutable_back at false s = refl
mutable_back at true s = refl

mutable_is : (v : Bool) (text : List ℕ) → byte (mutable_tag v) text → mutable v text
unfolding mutable_tag
mutable_is false text h = h
mutable_is true text h = h

is_mutable : (v : Bool) (text : List ℕ) → mutable v text → byte (mutable_tag v) text
unfolding mutable_tag
is_mutable false text h = h
is_mutable true text h = h

mutable_law : Law mutable_at mutable
mutable_law = law_where mutable_at (λ v. byte (mutable_tag v)) mutable mutable_is is_mutable (leaf_law mutable_of mutable_tag mutable_arms mutable_back)

abbrev global_type_pair : ValType × Bool → Language
global_type_pair g = global_type g.0 g.1

pub global_type_law : Law global_type_at global_type_pair
global_type_law = pair_law val_type_at val_type mutable_at mutable val_type_law mutable_law

-- ---- imports
import_tag : ImportKind → ℕ
import_tag (imported.Func t) = 0
import_tag imported.Table = 1
import_tag imported.Memory = 2
import_tag imported.Global = 3

import_inner : ImportKind → Language
import_inner (imported.Func t) = u32 t
import_inner imported.Table = λ text. (l : Limits) × table l text
import_inner imported.Memory = λ text. (l : Limits) × limits l text
import_inner imported.Global = λ text. (g : ValType × Bool) × global_type g.0 g.1 text

abbrev as_table : Limits → ImportKind
as_table l = imported.Table

abbrev as_memory : Limits → ImportKind
as_memory l = imported.Memory

abbrev as_global : ValType × Bool → ImportKind
as_global g = imported.Global

import_arms : (at n : ℕ) (s : Input) (p : ImportKind × Input) → import_kind_of at (n, s) ≡ Ok p → (n ≡ import_tag p.0) × Takes s (import_inner p.0) p.1
unfolding import_tag import_inner
import_arms at n s p e =
    let C : ImportKind × Input → Type 0 = λ p. (n ≡ import_tag p.0) × Takes s (import_inner p.0) p.1 in
    elim (pick n 0 (mapped imported.Func u32_at s) _ p e) [
      | inl h ↦ mapped_case imported.Func u32_at u32 u32_law C s p (λ t u k. (h.0, k)) h.1
      | inr e ↦ elim (pick n 1 (mapped as_table table_at s) _ p e) [
        | inl h ↦ mapped_case as_table table_at table table_law C s p (λ l u k. (h.0, (k.0, k.1, (l, k.2)))) h.1
        | inr e ↦ elim (pick n 2 (mapped as_memory limits_at s) _ p e) [
          | inl h ↦ mapped_case as_memory limits_at limits limits_law C s p (λ l u k. (h.0, (k.0, k.1, (l, k.2)))) h.1
          | inr e ↦ elim (pick n 3 (mapped as_global global_type_at s) _ p e) [
            | inl h ↦ mapped_case as_global global_type_at global_type_pair global_type_law C s p (λ g u k. (h.0, (k.0, k.1, (g, k.2)))) h.1
            | inr e ↦ never (fault.Opcode at) p e
          ]
        ]
      ]
    ]

import_back : (at : ℕ) (v : ImportKind) (text : List ℕ) (here : ℕ) (rest : List ℕ) → import_inner v text → import_kind_of at (import_tag v, before text here rest) ≡ Ok (v, behind text here rest)
unfolding import_tag import_inner
import_back at (imported.Func t) text here rest h = mapped_again imported.Func u32_at u32 u32_law t text here rest h
import_back at imported.Table text here rest h = mapped_again as_table table_at table table_law h.0 text here rest h.1
import_back at imported.Memory text here rest h = mapped_again as_memory limits_at limits limits_law h.0 text here rest h.1
import_back at imported.Global text here rest h = mapped_again as_global global_type_at global_type_pair global_type_law h.0 text here rest h.1

import_is : (v : ImportKind) (text : List ℕ) → (byte (import_tag v) ▸ import_inner v) text → import_kind v text
unfolding import_tag import_inner
import_is (imported.Func t) text h = h
import_is imported.Table text h = h
import_is imported.Memory text h = h
import_is imported.Global text h = h

is_import : (v : ImportKind) (text : List ℕ) → import_kind v text → (byte (import_tag v) ▸ import_inner v) text
unfolding import_tag import_inner
is_import (imported.Func t) text h = h
is_import imported.Table text h = h
is_import imported.Memory text h = h
is_import imported.Global text h = h

import_kind_law : Law import_kind_at import_kind
import_kind_law = law_where import_kind_at (λ v. byte (import_tag v) ▸ import_inner v) import_kind import_is is_import (byte_law import_kind_of import_tag import_inner import_arms import_back)

abbrev import_from : Import → List ℕ × (List ℕ × ImportKind)
import_from i = (i.«module», (i.name, i.kind))

pub import_law : Law import_at import
unfolding import_at
import_law = mapped_law import_of import_from (pair name_at (pair name_at import_kind_at)) (λ p. name p.0 ▸ name p.1.0 ▸ import_kind p.1.1) (λ _. refl) (λ _. refl)
    (pair_law name_at name (pair name_at import_kind_at) (λ p. name p.0 ▸ import_kind p.1) name_law (pair_law name_at name import_kind_at import_kind name_law import_kind_law))

-- ---- constant expressions
constant_op : ConstExpr → Op
constant_op (const.I32 n) = op.Const32
constant_op (const.I64 n) = op.Const64
constant_op (const.Get x) = op.GlobalGet

constant_inner : ConstExpr → Language
constant_inner (const.I32 n) = s32 n
constant_inner (const.I64 n) = s64 n
constant_inner (const.Get x) = u32 x

wrong_never : {X : Type 0} {C : Type 0} (at : ℕ) (o : Op) (p : X × Input) → wrong_op at o ≡ answer p → C
wrong_never at op.Float p e = never (fault.Float at) p e
wrong_never at o p e = never (fault.Opcode at) p e

constant_arms : (at b : ℕ) (o : Op) (s : Input) (p : ConstExpr × Input) → constant_of at o s ≡ Ok p → (o ≡ constant_op p.0) × Takes s (constant_inner p.0) p.1
unfolding constant_op constant_inner
constant_arms at b op.Const32 s p e = mapped_case const.I32 s32_at s32 s32_law (λ p. (op.Const32 ≡ constant_op p.0) × Takes s (constant_inner p.0) p.1) s p (λ n t k. (refl, k)) e
constant_arms at b op.Const64 s p e = mapped_case const.I64 s64_at s64 s64_law (λ p. (op.Const64 ≡ constant_op p.0) × Takes s (constant_inner p.0) p.1) s p (λ n t k. (refl, k)) e
constant_arms at b op.GlobalGet s p e = mapped_case const.Get u32_at u32 u32_law (λ p. (op.GlobalGet ≡ constant_op p.0) × Takes s (constant_inner p.0) p.1) s p (λ n t k. (refl, k)) e
constant_arms at b o s p e = wrong_never at o p e

constant_back : (at b : ℕ) (v : ConstExpr) (text : List ℕ) (here : ℕ) (rest : List ℕ) → constant_inner v text → constant_of at (constant_op v) (before text here rest) ≡ Ok (v, behind text here rest)
unfolding constant_op constant_inner
constant_back at b (const.I32 n) text here rest h = mapped_again const.I32 s32_at s32 s32_law n text here rest h
constant_back at b (const.I64 n) text here rest h = mapped_again const.I64 s64_at s64 s64_law n text here rest h
constant_back at b (const.Get x) text here rest h = mapped_again const.Get u32_at u32 u32_law x text here rest h

constant_is : (v : ConstExpr) (text : List ℕ) → (opcode (constant_op v) ▸ constant_inner v) text → constant v text
unfolding constant_op constant_inner
constant_is (const.I32 n) text h = h
constant_is (const.I64 n) text h = h
constant_is (const.Get x) text h = h

is_constant : (v : ConstExpr) (text : List ℕ) → constant v text → (opcode (constant_op v) ▸ constant_inner v) text
unfolding constant_op constant_inner
is_constant (const.I32 n) text h = h
is_constant (const.I64 n) text h = h
is_constant (const.Get x) text h = h

constant_law : Law constant_at constant
constant_law = law_where constant_at (λ v. opcode (constant_op v) ▸ constant_inner v) constant constant_is is_constant
    (head_law op_of (λ at b o s. constant_of at o s) constant_op constant_inner constant_arms constant_back)

abbrev end_op : Unit {0} → Op
end_op u = op.End

end_arms : (at b : ℕ) (o : Op) (s : Input) (p : Unit {0} × Input) → end_of at o s ≡ Ok p → (o ≡ end_op p.0) × Takes s nothing p.1
end_arms at b op.End s p e = let C : Unit {0} × Input → Type 0 = λ p. (op.End ≡ end_op p.0) × Takes s nothing p.1 in subst C (ok_is (tt, s) p e) (refl, takes_nothing s)
end_arms at b o s p e = wrong_never at o p e

end_law : Law end_at (λ u. opcode op.End)
end_law = law_where end_at (λ u. opcode op.End ▸ nothing) (λ u. opcode op.End) (λ u text h. alone (opcode op.End) text h) (λ u text h. and_nothing (opcode op.End) text h)
    (head_law op_of (λ at b o s. end_of at o s) end_op (λ u. nothing) end_arms (λ at b v text here rest h. nothing_behind v text here rest h))

abbrev const_from : ConstExpr → ConstExpr × Unit {0}
const_from c = (c, tt)

abbrev const_to : ConstExpr × Unit {0} → ConstExpr
const_to c = c.0

pub const_expr_law : Law const_expr_at const_expr
const_expr_law = mapped_law const_to const_from (pair constant_at end_at) (λ p. constant p.0 ▸ opcode op.End) (λ _. refl) (λ _. refl)
    (pair_law constant_at constant end_at (λ u. opcode op.End) constant_law end_law)

-- ---- globals, exports, elements, data
abbrev global_from : Global → (ValType × Bool) × ConstExpr
global_from g = ((g.kind, g.mutable), g.init)

pub global_law : Law global_at global
unfolding global_at
global_law = mapped_law global_of global_from (pair global_type_at const_expr_at) (λ p. global_type_pair p.0 ▸ const_expr p.1) (λ _. refl) (λ _. refl)
    (pair_law global_type_at global_type_pair const_expr_at const_expr global_type_law const_expr_law)

export_tag : ExportKind → ℕ
export_tag exported.Func = 0
export_tag exported.Table = 1
export_tag exported.Memory = 2
export_tag exported.Global = 3

export_arms : (at n : ℕ) (s : Input) (p : ExportKind × Input) → export_kind_of at (n, s) ≡ Ok p → (n ≡ export_tag p.0) × Takes s nothing p.1
unfolding export_tag
export_arms at n s p e =
    let C : ExportKind × Input → Type 0 = λ p. (n ≡ export_tag p.0) × Takes s nothing p.1 in
    elim (pick n 0 (Ok (exported.Func, s)) _ p e) [
      | inl h ↦ subst C (ok_is (exported.Func, s) p h.1) (h.0, takes_nothing s)
      | inr e ↦ elim (pick n 1 (Ok (exported.Table, s)) _ p e) [
        | inl h ↦ subst C (ok_is (exported.Table, s) p h.1) (h.0, takes_nothing s)
        | inr e ↦ elim (pick n 2 (Ok (exported.Memory, s)) _ p e) [
          | inl h ↦ subst C (ok_is (exported.Memory, s) p h.1) (h.0, takes_nothing s)
          | inr e ↦ elim (pick n 3 (Ok (exported.Global, s)) _ p e) [
            | inl h ↦ subst C (ok_is (exported.Global, s) p h.1) (h.0, takes_nothing s)
            | inr e ↦ never (fault.Opcode at) p e
          ]
        ]
      ]
    ]

export_back : (at : ℕ) (v : ExportKind) (s : Input) → export_kind_of at (export_tag v, s) ≡ Ok (v, s)
unfolding export_tag
export_back at exported.Func s = refl
export_back at exported.Table s = refl
export_back at exported.Memory s = refl
export_back at exported.Global s = refl

export_is : (v : ExportKind) (text : List ℕ) → byte (export_tag v) text → export_kind v text
unfolding export_tag
export_is exported.Func text h = h
export_is exported.Table text h = h
export_is exported.Memory text h = h
export_is exported.Global text h = h

is_export : (v : ExportKind) (text : List ℕ) → export_kind v text → byte (export_tag v) text
unfolding export_tag
is_export exported.Func text h = h
is_export exported.Table text h = h
is_export exported.Memory text h = h
is_export exported.Global text h = h

export_kind_law : Law export_kind_at export_kind
export_kind_law = law_where export_kind_at (λ v. byte (export_tag v)) export_kind export_is is_export (leaf_law export_kind_of export_tag export_arms export_back)

abbrev export_from : Export → List ℕ × (ExportKind × ℕ)
export_from e = (e.name, (e.kind, e.index))

pub export_law : Law export_at export
unfolding export_at
export_law = mapped_law export_of export_from (pair name_at (pair export_kind_at u32_at)) (λ p. name p.0 ▸ export_kind p.1.0 ▸ u32 p.1.1) (λ _. refl) (λ _. refl)
    (pair_law name_at name (pair export_kind_at u32_at) (λ p. export_kind p.0 ▸ u32 p.1) name_law (pair_law export_kind_at export_kind u32_at u32 export_kind_law u32_law))

abbrev element_from : Element → ℕ × (ConstExpr × List ℕ)
element_from e = (e.table, (e.offset, e.funcs))

pub element_law : Law element_at element
unfolding element_at
element_law = mapped_law element_of element_from (pair u32_at (pair const_expr_at (list_at u32_at))) (λ p. u32 p.0 ▸ const_expr p.1.0 ▸ list u32 p.1.1) (λ _. refl) (λ _. refl)
    (pair_law u32_at u32 (pair const_expr_at (list_at u32_at)) (λ p. const_expr p.0 ▸ list u32 p.1) u32_law
    (pair_law const_expr_at const_expr (list_at u32_at) (list u32) const_expr_law (list_law u32_at u32 u32_law)))

abbrev segment_from : Segment → ℕ × (ConstExpr × List ℕ)
segment_from d = (d.memory, (d.offset, d.bytes))

pub segment_law : Law segment_at segment
unfolding segment_at
segment_law = mapped_law segment_of segment_from (pair u32_at (pair const_expr_at bytes_at)) (λ p. u32 p.0 ▸ const_expr p.1.0 ▸ bytes p.1.1) (λ _. refl) (λ _. refl)
    (pair_law u32_at u32 (pair const_expr_at bytes_at) (λ p. const_expr p.0 ▸ bytes p.1) u32_law
    (pair_law const_expr_at const_expr bytes_at bytes const_expr_law bytes_law))

-- ---- locals
group_taken : (so_far : ℕ) (s : Input) (p : (ℕ × ValType) × Input) → group_at so_far s ≡ Ok p → (so_far + p.0.0 ≤ 50000) × Takes s (group p.0) p.1
group_taken so_far s p e =
    let x = bind_ok (group_count_at so_far s) (λ m. val_type_at m.1 >>= λ n. Ok ((m.0, n.0), n.1)) p e in
    let y = bind_ok (val_type_at x.0.1) (λ n. Ok ((x.0.0, n.0), n.1)) p x.2 in
    let n = bind_ok (u32_at s) (within so_far s.at) x.0 x.1 in
    let t = test_ok (leb (so_far + n.0.0) 50000) (fault.TooMany s.at) n.0 x.0 n.2 in
    let few : so_far + n.0.0 ≤ 50000 = leb-true _ _ t.0 in
    let size : (so_far + x.0.0 ≤ 50000) × Takes s (u32 x.0.0) x.0.1 = subst (λ (x : ℕ × Input). (so_far + x.0 ≤ 50000) × Takes s (u32 x.0) x.1) t.1 (few, u32_law.taken s n.0 n.1) in
    let made : (ℕ × ValType) × Input = ((x.0.0, y.0.0), y.0.1) in
    subst (λ (p : (ℕ × ValType) × Input). (so_far + p.0.0 ≤ 50000) × Takes s (group p.0) p.1) (ok_is made p y.2)
    (size.0, Takes-then s x.0.1 y.0.1 (u32 x.0.0) (val_type y.0.0) size.1 (val_type_law.taken x.0.1 y.0 y.1))

group_again : (so_far : ℕ) (g : ℕ × ValType) (text : List ℕ) (at : ℕ) (rest : List ℕ) → so_far + g.0 ≤ 50000 → group g text → group_at so_far (before text at rest) ≡ Ok (g, behind text at rest)
group_again so_far g text at rest few h =
    let count : group_count_at so_far (before h.0 at (h.1 ++ rest)) ≡ Ok (g.0, behind h.0 at (h.1 ++ rest)) =
    goes (u32_at (before h.0 at (h.1 ++ rest))) (within so_far at) (g.0, behind h.0 at (h.1 ++ rest)) (Ok (g.0, behind h.0 at (h.1 ++ rest))) (u32_law.again g.0 h.0 at (h.1 ++ rest) h.3)
    (ap (λ b. cond b (answer (g.0, behind h.0 at (h.1 ++ rest))) (Err (fault.TooMany at))) (le-leb (so_far + g.0) 50000 few)) in
    turns_again (group_count_at so_far) (λ m. val_type_at m.1 >>= λ n. Ok ((m.0, n.0), n.1)) g.0 g h.0 h.1 at rest text h.2 count
    (ap (λ (m : Read ValType). m >>= λ n. Ok ((g.0, n.0), n.1)) (val_type_law.again g.1 h.1 (at + length h.0) rest h.4))

groups_taken : (n so_far : ℕ) (s : Input) (p : List ValType × Input) → groups_at n so_far s ≡ Ok p → Takes s (groups n so_far p.0) p.1
unfolding groups_at
groups_taken zero so_far s p e =
    let made : List ValType × Input = ([], s) in
    subst (λ (p : List ValType × Input). Takes s (groups zero so_far p.0) p.1) (ok_is made p e) ([], refl, (refl, refl))
groups_taken (suc n) so_far s p e =
    let x = bind_ok (group_at so_far s) (λ group. groups_at n (so_far + group.0.0) group.1 >>= λ others. Ok (replicate group.0.0 group.0.1 ++ others.0, others.1)) p e in
    let y = bind_ok (groups_at n (so_far + x.0.0.0) x.0.1) (λ others. Ok (replicate x.0.0.0 x.0.0.1 ++ others.0, others.1)) p x.2 in
    let g = group_taken so_far s x.0 x.1 in
    let both = Takes-then s x.0.1 y.0.1 (group x.0.0) (groups n (so_far + x.0.0.0) y.0.0) g.1 (groups_taken n (so_far + x.0.0.0) x.0.1 y.0 y.1) in
    let made : List ValType × Input = (replicate x.0.0.0 x.0.0.1 ++ y.0.0, y.0.1) in
    subst (λ (p : List ValType × Input). Takes s (groups (suc n) so_far p.0) p.1) (ok_is made p y.2) (both.0, both.1, (x.0.0, y.0.0, refl, g.0, both.2))

groups_again : (n so_far : ℕ) (v : List ValType) (text : List ℕ) (at : ℕ) (rest : List ℕ) → groups n so_far v text → groups_at n so_far (before text at rest) ≡ Ok (v, behind text at rest)
unfolding groups_at
groups_again zero so_far v text at rest h =
    let none : List ValType = [] in nothing_behind none text at rest h.0 ∙ ap (λ (l : List ValType). answer (l, behind text at rest)) (sym h.1)
groups_again (suc n) so_far v text at rest h =
    let both = h.4 in
    let more : List ValType = replicate h.0.0 h.0.1 ++ h.1 in
    turns_again (group_at so_far) (λ group. groups_at n (so_far + group.0.0) group.1 >>= λ others. Ok (replicate group.0.0 group.0.1 ++ others.0, others.1)) h.0 more both.0 both.1 at rest text both.2
    (group_again so_far h.0 both.0 at (both.1 ++ rest) h.3 both.3)
    (ap (λ (m : Read (List ValType)). m >>= λ others. Ok (replicate h.0.0 h.0.1 ++ others.0, others.1)) (groups_again n (so_far + h.0.0) h.1 both.1 (at + length both.0) rest both.4))
    ∙ ap (λ (l : List ValType). answer (l, behind text at rest)) (sym h.2)

pub locals_law : Law locals_at locals
unfolding locals_at
locals_law = record {
  taken = λ s p e.
      let n = bind_ok (count_at s) (λ n. groups_at n.0 0 n.1) p e in
      let c = count_ok s n.0 n.1 in
      let both = Takes-then s n.0.1 p.1 (u32 n.0.0) (groups n.0.0 0 p.0) (u32_law.taken s n.0 c.1) (groups_taken n.0.0 0 n.0.1 p n.2) in
      (both.0, both.1, (n.0.0, c.0, both.2));
  again = λ v text at rest h.
      let both = h.2 in
      turns_again count_at (λ n. groups_at n.0 0 n.1) h.0 v both.0 both.1 at rest text both.2 (count_again h.0 both.0 at (both.1 ++ rest) h.1 both.3)
      (groups_again h.0 0 v both.1 (at + length both.0) rest both.4);
}

-- ---- types of blocks
block_taken : (s : Input) (b : ℕ × Input) (p : Option ValType × Input) → byte_at s ≡ Ok b → block_type_of s.at b ≡ Ok p → Takes s (block_type p.0) p.1
block_taken s b p first e =
    let C : Option ValType × Input → Type 0 = λ p. Takes s (block_type p.0) p.1 in
    elim (pick b.0 0x40 (Ok (None, b.1)) _ p e) [
      | inl h ↦ subst C (ok_is (None, b.1) p h.1) (b.0 ∷ [], byte_taken s.left s.at b first, ap (λ n. n ∷ []) h.0)
      | inr e ↦
          let x = bind_ok (val_type_of s.at b) (λ t. Ok (Some t.0, t.1)) p e in
          let whole : val_type_at s ≡ Ok x.0 = goes (byte_at s) (val_type_of s.at) b (Ok x.0) first x.1 in
          subst C (ok_is (Some x.0.0, x.0.1) p x.2) (val_type_law.taken s x.0 whole)
    ]

some_val : (at : ℕ) (t : ValType) (rest : List ℕ) → block_type_at (before (val_tag t ∷ []) at rest) ≡ Ok (Some t, behind (val_tag t ∷ []) at rest)
unfolding val_tag
some_val at I32 rest = refl
some_val at I64 rest = refl

block_again : (v : Option ValType) (text : List ℕ) (at : ℕ) (rest : List ℕ) → block_type v text → block_type_at (before text at rest) ≡ Ok (v, behind text at rest)
block_again None text at rest h = subst (λ (l : List ℕ). block_type_at (before l at rest) ≡ Ok (None, behind l at rest)) (sym h) refl
block_again (Some t) text at rest h = subst (λ (l : List ℕ). block_type_at (before l at rest) ≡ Ok (Some t, behind l at rest)) (sym (is_val t text h)) (some_val at t rest)

pub block_type_law : Law block_type_at block_type
block_type_law = record {
  taken = λ s p e. let b = bind_ok (byte_at s) (block_type_of s.at) p e in block_taken s b.0 p b.1 b.2;
  again = block_again;
}
