-- The laws of instructions that hold no others, of expressions and of bodies.
use Rattle.std.proofs.Common.{◌≡◌, ◌≢◌, ℕ, ◌≤◌, Bool, true, false, cond, eqb, List, [], ◌∷◌, ◌++◌, length, Ok, Err, refl, sym, ap, subst, ◌∙◌, arith}
use Rattle.std.proofs.lemmas.Bool.{eqb-true, eq-eqb}
use Rattle.std.proofs.lemmas.List.{length-append}
use Rattle.nr_bytes.proofs.Basics.{bind_ok}
use Rattle.nr_bytes.specs.Reading.{Input, ◌>>=◌}
use Rattle.nr_bytes.specs.Spelling.{before, behind}
use Rattle.nr_bytes.specs.Fields.{pair}
use Rattle.nr_wasmtypes.specs.declared.instr.ValType.{ValType}
use Rattle.nr_wasmtypes.specs.declared.instr.Plain.{Plain}
use Rattle.nr_wasmtypes.specs.declared.instr.Plain.TheVariants as plain
use Rattle.nr_wasmtypes.specs.Body.{Body}
use Rattle.nr_wasmtypes.specs.Code.{Code}
use Rattle.nr_wasmtypes.specs.declared.opcode.Op.{Op}
use Rattle.nr_wasmtypes.specs.declared.opcode.Op.TheVariants as op
use Rattle.nr_wasmbin.specs.Fields.{byte_at, u32_at, s32_at, s64_at, list_at}
use Rattle.nr_wasmbin.specs.Parts.{exact_at, is_byte, locals_at}
use Rattle.nr_wasmbin.specs.Expressions.{plain_at, load_of, store_of, call_of, code_at, expression_at, Sequence}
use Rattle.nr_wasmbin.specs.Modules.{body_of, inner_body_at, body_at}
use Rattle.nr_wasmbin.specs.Grammar.{Language, ◌▸◌, byte, u32, s32, s64, list, operands, plain_op, IsSequence, expression, locals, body}
use Rattle.nr_wasmbin.specs.declared.fault.DecodeFault.{DecodeFault}
use Rattle.nr_wasmbin.specs.declared.fault.DecodeFault.TheVariants as fault
use Rattle.nr_wasmbin.proofs.Laws.{Takes, Law, answer, ok_is, test_ok, nothing_behind, u32_law, s32_law, s64_law, pair_law, mapped_law, byte_taken, list_law, sized_law}
use Rattle.nr_wasmbin.proofs.PartLaws.{failed, mapped_case, mapped_again, locals_law, block_type_law}
use Rattle.nr_wasmbin.proofs.SequenceTaken as taken
use Rattle.nr_wasmbin.proofs.SequenceAgain as back

-- ---- operands
exact : ℕ → ℕ → Language
exact b n text = (n ≡ b) × byte b text

exact_taken : (b : ℕ) (s : Input) (p : ℕ × Input) → exact_at b s ≡ Ok p → Takes s (exact b p.0) p.1
unfolding exact
exact_taken b s p e =
    let x = bind_ok (byte_at s) (is_byte b s.at) p e in
    let t = test_ok (eqb x.0.0 b) (fault.Opcode s.at) x.0 p x.2 in
    let same : x.0.0 ≡ b = eqb-true x.0.0 b t.0 in
    let one : Takes s (exact b x.0.0) x.0.1 = (x.0.0 ∷ [], byte_taken s.left s.at x.0 x.1, (same, ap (λ b. b ∷ []) same)) in
    subst (λ (p : ℕ × Input). Takes s (exact b p.0) p.1) t.1 one

exact_again : (b n : ℕ) (text : List ℕ) (at : ℕ) (rest : List ℕ) → exact b n text → exact_at b (before text at rest) ≡ Ok (n, behind text at rest)
unfolding exact
exact_again b n text at rest h =
    let here : exact_at b (before (b ∷ []) at rest) ≡ Ok (b, behind (b ∷ []) at rest) = ap (λ t. cond t (answer (b, behind (b ∷ []) at rest)) (Err (fault.Opcode at))) (eq-eqb b b refl) in
    subst (λ (l : List ℕ). exact_at b (before l at rest) ≡ Ok (b, behind l at rest)) (sym h.1) here ∙ ap (λ k. answer (k, behind text at rest)) (sym h.0)

exact_law : (b : ℕ) → Law (exact_at b) (exact b)
exact_law b = record { taken = exact_taken b; again = exact_again b }

abbrev C : Op → Input → Plain × Input → Type 0
C o s p = (x : List ℕ) × (s.left ≡ x ++ p.1.left) × ((o ≡ plain_op p.0) × operands p.0 x)

bare : (o : Op) (p : Plain) (s : Input) (q : Plain × Input) → o ≡ plain_op p → operands p [] → answer (p, s) ≡ answer q → C o s q
bare o p s q is none e = subst (C o s) (ok_is (p, s) q e) ([], refl, (is, none))

never : (d : DecodeFault) (o : Op) (s : Input) (p : Plain × Input) → failed d ≡ answer p → C o s p
never d o s p e = absurd cc

abbrev access_pair : ℕ × ℕ → Language
access_pair m = u32 m.0 ▸ u32 m.1

access_law : Law (pair u32_at u32_at) access_pair
access_law = pair_law u32_at u32 u32_at u32 u32_law u32_law

abbrev table_pair : List ℕ × ℕ → Language
table_pair m = list u32 m.0 ▸ u32 m.1

table_law : Law (pair (list_at u32_at) u32_at) table_pair
table_law = pair_law (list_at u32_at) (list u32) u32_at u32 (list_law u32_at u32 u32_law) u32_law

abbrev call_pair : ℕ × ℕ → Language
call_pair m = u32 m.0 ▸ exact 0 m.1

call_law : Law (pair u32_at (exact_at 0)) call_pair
call_law = pair_law u32_at u32 (exact_at 0) (exact 0) u32_law (exact_law 0)

abbrev as_size : ℕ → Plain
as_size z = plain.MemorySize

abbrev as_grow : ℕ → Plain
as_grow z = plain.MemoryGrow

pub plain_taken : (at : ℕ) (o : Op) (s : Input) (p : Plain × Input) → plain_at at o s ≡ Ok p → C o s p
unfolding plain_at exact
plain_taken at op.Unreachable s p e = bare op.Unreachable plain.Unreachable s p refl refl e
plain_taken at op.Nop s p e = bare op.Nop plain.Nop s p refl refl e
plain_taken at op.Br s p e = mapped_case plain.Br u32_at u32 u32_law (C op.Br s) s p (λ n t k. (k.0, k.1, (refl, k.2))) e
plain_taken at op.BrIf s p e = mapped_case plain.BrIf u32_at u32 u32_law (C op.BrIf s) s p (λ n t k. (k.0, k.1, (refl, k.2))) e
plain_taken at op.BrTable s p e = mapped_case plain.BrTable (pair (list_at u32_at) u32_at) table_pair table_law (C op.BrTable s) s p (λ n t k. (k.0, k.1, (refl, k.2))) e
plain_taken at op.Return s p e = bare op.Return plain.Return s p refl refl e
plain_taken at op.Call s p e = mapped_case plain.Call u32_at u32 u32_law (C op.Call s) s p (λ n t k. (k.0, k.1, (refl, k.2))) e
plain_taken at op.CallIndirect s p e =
    mapped_case call_of (pair u32_at (exact_at 0)) call_pair call_law (C op.CallIndirect s) s p (λ n t k. (k.0, k.1, (refl, (k.2.0, k.2.1, k.2.2, k.2.3, k.2.4.1)))) e
plain_taken at op.Drop s p e = bare op.Drop plain.Drop s p refl refl e
plain_taken at op.Select s p e = bare op.Select plain.Select s p refl refl e
plain_taken at op.LocalGet s p e = mapped_case plain.LocalGet u32_at u32 u32_law (C op.LocalGet s) s p (λ n t k. (k.0, k.1, (refl, k.2))) e
plain_taken at op.LocalSet s p e = mapped_case plain.LocalSet u32_at u32 u32_law (C op.LocalSet s) s p (λ n t k. (k.0, k.1, (refl, k.2))) e
plain_taken at op.LocalTee s p e = mapped_case plain.LocalTee u32_at u32 u32_law (C op.LocalTee s) s p (λ n t k. (k.0, k.1, (refl, k.2))) e
plain_taken at op.GlobalGet s p e = mapped_case plain.GlobalGet u32_at u32 u32_law (C op.GlobalGet s) s p (λ n t k. (k.0, k.1, (refl, k.2))) e
plain_taken at op.GlobalSet s p e = mapped_case plain.GlobalSet u32_at u32 u32_law (C op.GlobalSet s) s p (λ n t k. (k.0, k.1, (refl, k.2))) e
plain_taken at (op.Load what) s p e = mapped_case (load_of what) (pair u32_at u32_at) access_pair access_law (C (op.Load what) s) s p (λ n t k. (k.0, k.1, (refl, (n.0, refl, k.2)))) e
plain_taken at (op.Store what) s p e = mapped_case (store_of what) (pair u32_at u32_at) access_pair access_law (C (op.Store what) s) s p (λ n t k. (k.0, k.1, (refl, (n.0, refl, k.2)))) e
plain_taken at op.MemorySize s p e = mapped_case as_size (exact_at 0) (exact 0) (exact_law 0) (C op.MemorySize s) s p (λ n t k. (k.0, k.1, (refl, k.2.1))) e
plain_taken at op.MemoryGrow s p e = mapped_case as_grow (exact_at 0) (exact 0) (exact_law 0) (C op.MemoryGrow s) s p (λ n t k. (k.0, k.1, (refl, k.2.1))) e
plain_taken at op.Const32 s p e = mapped_case plain.Const32 s32_at s32 s32_law (C op.Const32 s) s p (λ n t k. (k.0, k.1, (refl, k.2))) e
plain_taken at op.Const64 s p e = mapped_case plain.Const64 s64_at s64 s64_law (C op.Const64 s) s p (λ n t k. (k.0, k.1, (refl, k.2))) e
plain_taken at (op.IsZero kind) s p e = bare (op.IsZero kind) (plain.IsZero kind) s p refl refl e
plain_taken at (op.Compare kind how) s p e = bare (op.Compare kind how) (plain.Compare kind how) s p refl refl e
plain_taken at (op.Count kind how) s p e = bare (op.Count kind how) (plain.Count kind how) s p refl refl e
plain_taken at (op.Arith kind how) s p e = bare (op.Arith kind how) (plain.Arith kind how) s p refl refl e
plain_taken at (op.Convert how) s p e = bare (op.Convert how) (plain.Convert how) s p refl refl e
plain_taken at op.Float s p e = never (fault.Float at) op.Float s p e
plain_taken at op.Unknown s p e = never (fault.Opcode at) op.Unknown s p e
plain_taken at op.Block s p e = never (fault.Opcode at) op.Block s p e
plain_taken at op.Loop s p e = never (fault.Opcode at) op.Loop s p e
plain_taken at op.If s p e = never (fault.Opcode at) op.If s p e
plain_taken at op.Else s p e = never (fault.Opcode at) op.Else s p e
plain_taken at op.End s p e = never (fault.Opcode at) op.End s p e

plain_back : (at : ℕ) (p : Plain) (x : List ℕ) (from : ℕ) (rest : List ℕ) → operands p x → plain_at at (plain_op p) (before x from rest) ≡ Ok (p, behind x from rest)
unfolding plain_at exact
plain_back at plain.Unreachable x from rest h = nothing_behind plain.Unreachable x from rest h
plain_back at plain.Nop x from rest h = nothing_behind plain.Nop x from rest h
plain_back at (plain.Br l) x from rest h = mapped_again plain.Br u32_at u32 u32_law l x from rest h
plain_back at (plain.BrIf l) x from rest h = mapped_again plain.BrIf u32_at u32 u32_law l x from rest h
plain_back at (plain.BrTable labels) x from rest h = mapped_again plain.BrTable (pair (list_at u32_at) u32_at) table_pair table_law labels x from rest h
plain_back at plain.Return x from rest h = nothing_behind plain.Return x from rest h
plain_back at (plain.Call f) x from rest h = mapped_again plain.Call u32_at u32 u32_law f x from rest h
plain_back at (plain.CallIndirect t) x from rest h =
    mapped_again call_of (pair u32_at (exact_at 0)) call_pair call_law (t, 0) x from rest (h.0, h.1, h.2, h.3, (refl, h.4))
plain_back at plain.Drop x from rest h = nothing_behind plain.Drop x from rest h
plain_back at plain.Select x from rest h = nothing_behind plain.Select x from rest h
plain_back at (plain.LocalGet n) x from rest h = mapped_again plain.LocalGet u32_at u32 u32_law n x from rest h
plain_back at (plain.LocalSet n) x from rest h = mapped_again plain.LocalSet u32_at u32 u32_law n x from rest h
plain_back at (plain.LocalTee n) x from rest h = mapped_again plain.LocalTee u32_at u32 u32_law n x from rest h
plain_back at (plain.GlobalGet n) x from rest h = mapped_again plain.GlobalGet u32_at u32 u32_law n x from rest h
plain_back at (plain.GlobalSet n) x from rest h = mapped_again plain.GlobalSet u32_at u32 u32_law n x from rest h
plain_back at (plain.Load what align offset) x from rest h =
    mapped_again (load_of what) (pair u32_at u32_at) access_pair access_law (h.0, offset) x from rest h.2 ∙ ap (λ a. answer (plain.Load what a offset, behind x from rest)) h.1
plain_back at (plain.Store what align offset) x from rest h =
    mapped_again (store_of what) (pair u32_at u32_at) access_pair access_law (h.0, offset) x from rest h.2 ∙ ap (λ a. answer (plain.Store what a offset, behind x from rest)) h.1
plain_back at plain.MemorySize x from rest h = mapped_again as_size (exact_at 0) (exact 0) (exact_law 0) 0 x from rest (refl, h)
plain_back at plain.MemoryGrow x from rest h = mapped_again as_grow (exact_at 0) (exact 0) (exact_law 0) 0 x from rest (refl, h)
plain_back at (plain.Const32 n) x from rest h = mapped_again plain.Const32 s32_at s32 s32_law n x from rest h
plain_back at (plain.Const64 n) x from rest h = mapped_again plain.Const64 s64_at s64 s64_law n x from rest h
plain_back at (plain.IsZero t) x from rest h = nothing_behind (plain.IsZero t) x from rest h
plain_back at (plain.Compare t how) x from rest h = nothing_behind (plain.Compare t how) x from rest h
plain_back at (plain.Count t how) x from rest h = nothing_behind (plain.Count t how) x from rest h
plain_back at (plain.Arith t how) x from rest h = nothing_behind (plain.Arith t how) x from rest h
plain_back at (plain.Convert how) x from rest h = nothing_behind (plain.Convert how) x from rest h

-- an instruction that holds no others has none of the five opcodes
is_plain : Op → Bool
is_plain op.Block = false
is_plain op.Loop = false
is_plain op.If = false
is_plain op.End = false
is_plain op.Else = false
is_plain o = true

plain_is : (p : Plain) → is_plain (plain_op p) ≡ true
unfolding is_plain
plain_is plain.Unreachable = refl
plain_is plain.Nop = refl
plain_is (plain.Br l) = refl
plain_is (plain.BrIf l) = refl
plain_is (plain.BrTable labels) = refl
plain_is plain.Return = refl
plain_is (plain.Call f) = refl
plain_is (plain.CallIndirect t) = refl
plain_is plain.Drop = refl
plain_is plain.Select = refl
plain_is (plain.LocalGet n) = refl
plain_is (plain.LocalSet n) = refl
plain_is (plain.LocalTee n) = refl
plain_is (plain.GlobalGet n) = refl
plain_is (plain.GlobalSet n) = refl
plain_is (plain.Load what align offset) = refl
plain_is (plain.Store what align offset) = refl
plain_is plain.MemorySize = refl
plain_is plain.MemoryGrow = refl
plain_is (plain.Const32 n) = refl
plain_is (plain.Const64 n) = refl
plain_is (plain.IsZero t) = refl
plain_is (plain.Compare t how) = refl
plain_is (plain.Count t how) = refl
plain_is (plain.Arith t how) = refl
plain_is (plain.Convert how) = refl

differs : (o k : Op) (p : Plain) → o ≡ plain_op p → is_plain k ≡ false → o ≢ k
differs o k p is isnt e =
    let yes : is_plain o ≡ true = ap is_plain is ∙ plain_is p in
    let x : true ≡ false = sym yes ∙ ap is_plain e ∙ isnt in absurd cc

only : (o : Op) (p : Plain) → o ≡ plain_op p → (o ≢ op.Block) × (o ≢ op.Loop) × (o ≢ op.If) × (o ≢ op.End) × (o ≢ op.Else)
unfolding is_plain
only o p is = (differs o op.Block p is refl, differs o op.Loop p is refl, differs o op.If p is refl, differs o op.End p is refl, differs o op.Else p is refl)

-- ---- sequences
parts_taken : taken.PartLaws
parts_taken = record {
  plain_taken = λ at o s p t e. plain_taken at o s (p, t) e;
  type_taken = λ s ty t e. block_type_law.taken s (ty, t) e;
}

parts_again : back.PartsAgain
parts_again = record {
  plain_again = λ at o x p from rest h.
      ap (λ (k : Op). plain_at at k (before x from rest)) h.0 ∙ plain_back at p x from rest h.1;
  plain_only = λ o x p h. only o p h.0;
  type_again = λ x ty from rest h. block_type_law.again ty x from rest h;
}

pub expression_law : Law expression_at expression
expression_law = record {
  taken = λ s p e.
      let r = bind_ok (code_at (length s.left) 0 false s) (λ r. Ok (r.0.0, r.1)) p e in
      let x = taken.code_taken parts_taken (length s.left) 0 false s r.0 r.1 in
      let made : Code × Input = (r.0.0.0, r.0.1) in
      let ended : IsSequence 0 x.0 r.0.0.0 false = subst (λ (v : Bool). IsSequence 0 x.0 r.0.0.0 v) (taken.no_else r.0.0.1 x.3) x.2 in
      subst (λ (p : Code × Input). Takes s (expression p.0) p.1) (ok_is made p r.2) (x.0, x.1, ended);
  again = λ v text at rest h.
      let long : length text ≤ length (text ++ rest) = omega (arith, length-append text rest) in
      ap (λ (r : Sequence). r >>= λ r. answer (r.0.0, r.1)) (back.code_again parts_again v (length (text ++ rest)) 0 false false text at rest h (λ e. e) long);
}

-- ---- bodies
abbrev body_from : Body → List ValType × Code
body_from b = (b.locals, b.code)

abbrev inner_body : Body → Language
inner_body b = locals b.locals ▸ expression b.code

inner_body_law : Law inner_body_at inner_body
inner_body_law = mapped_law body_of body_from (pair locals_at expression_at) (λ p. locals p.0 ▸ expression p.1) (λ _. refl) (λ _. refl)
    (pair_law locals_at locals expression_at expression locals_law expression_law)

pub body_law : Law body_at body
unfolding body_at
body_law = sized_law inner_body_at inner_body inner_body_law
