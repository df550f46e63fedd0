-- What the grammar gives as a sequence is read as that sequence, whatever follows it.
use Rattle.std.proofs.Common.{◌≡◌, ◌≢◌, ℕ, zero, suc, ◌+◌, ◌<◌, ◌≤◌, List, [], ◌∷◌, ◌++◌, length, Option, Bool, true, false, cond, Ok, Err, refl, sym, ap, subst, ◌∙◌, arith, append_assoc, length-append, add-zero}
use Rattle.std.proofs.lemmas.Bool.{lt-ltb}
use Rattle.nr_wasmtypes.specs.declared.instr.ValType.{ValType}
use Rattle.nr_wasmtypes.specs.declared.instr.Plain.{Plain}
use Rattle.nr_wasmtypes.specs.Code.{Code, End, Then, Block, Loop, Choice}
use Rattle.nr_bytes.specs.Reading.{Input, ◌>>=◌}
use Rattle.nr_wasmtypes.specs.Opcodes.{op_of}
use Rattle.nr_wasmbin.specs.Expressions.{Sequence, front, instr_at, code_at, plain_at, opened, block_type_at, other_side}
use Rattle.nr_wasmbin.specs.Grammar.{operands, plain_op, block_type, end_op, IsOther, IsSequence}
use Rattle.nr_wasmtypes.specs.declared.opcode.Op.{Op}
use Rattle.nr_wasmtypes.specs.declared.opcode.Op.TheVariants as op
use Rattle.nr_wasmbin.specs.declared.fault.DecodeFault.TheVariants as fault
use Rattle.nr_wasmbin.proofs.OnCode.{plain_instr, block_body, loop_body, if_body}
use Rattle.nr_wasmbin.proofs.OnFields.{goes}
use Rattle.nr_bytes.specs.Spelling.{before, behind}

-- the laws of the parts
pub record PartsAgain : Type 0 where
  pub plain_again : (at : ℕ) (o : Op) (x : List ℕ) (p : Plain) (from : ℕ) (rest : List ℕ) → ((o ≡ plain_op p) × operands p x) → plain_at at o (before x from rest) ≡ Ok (p, behind x from rest)
  pub plain_only : (o : Op) (x : List ℕ) (p : Plain) → ((o ≡ plain_op p) × operands p x) → (o ≢ op.Block) × (o ≢ op.Loop) × (o ≢ op.If) × (o ≢ op.End) × (o ≢ op.Else)
  pub type_again : (x : List ℕ) (ty : Option ValType) (from : ℕ) (rest : List ℕ) → block_type ty x → block_type_at (before x from rest) ≡ Ok (ty, behind x from rest)

abbrev Next : Type 0
Next = ℕ → Bool → Input → Sequence

abbrev Reads : Next → ℕ → Bool → List ℕ → ℕ → List ℕ → Code → Bool → Type 0
Reads next depth may_else x at rest c e = next depth may_else (before x at rest) ≡ Ok ((c, e), behind x at rest)

regroup : (x y : List ℕ) (at : ℕ) (rest : List ℕ) → before (x ++ y) at rest ≡ before x at (y ++ rest)
regroup x y at rest = ap (λ (l : List ℕ). record { left = l; at = at }) (append_assoc x y rest)

abbrev placed : Code → Bool → List ℕ → ℕ → Sequence
placed c e rest n = Ok ((c, e), record { left = rest; at = n })

opened_again : PartsAgain → (depth at : ℕ) (x : List ℕ) (ty : Option ValType) (from : ℕ) (rest : List ℕ) → depth < 256 → block_type ty x → opened depth at (before x from rest) ≡ Ok (ty, behind x from rest)
opened_again pa depth at x ty from rest lt t =
    ap (λ b. cond b (block_type_at (before x from rest)) (Err (fault.TooMany at))) (lt-ltb depth 256 lt) ∙ pa.type_again x ty from rest t

plain_back : PartsAgain → (next : Next) (depth at : ℕ) (may_else : Bool) (b : ℕ) (x y rest : List ℕ) (p : Plain) (tail : Code) (e : Bool) → ((op_of b ≡ plain_op p) × operands p x) → Reads next depth may_else y (at + 1 + length x) rest tail e
    → instr_at next depth may_else at (op_of b) (before (x ++ y) (at + 1) rest) ≡ Ok ((Then p tail, e), behind (b ∷ (x ++ y)) at rest)
plain_back pa next depth at may_else b x y rest p tail e ops ih =
    let only = pa.plain_only (op_of b) x p ops in
    ap (instr_at next depth may_else at (op_of b)) (regroup x y (at + 1) rest)
    ∙ plain_instr next depth at may_else (op_of b) (before x (at + 1) (y ++ rest)) only.0 only.1 only.2 only.3 only.4
    ∙ goes (plain_at at (op_of b) (before x (at + 1) (y ++ rest))) (λ p. front (Then p.0) (next depth may_else p.1)) (p, behind x (at + 1) (y ++ rest)) (placed (Then p tail) e rest (at + 1 + length x + length y))
    (pa.plain_again at (op_of b) x p (at + 1) (y ++ rest) ops) (ap (front (Then p)) ih)
    ∙ ap (placed (Then p tail) e rest) (omega (arith, length-append x y))

block_back : PartsAgain → (next : Next) (depth at : ℕ) (may_else : Bool) (b : ℕ) (t x y rest : List ℕ) (ty : Option ValType) (body tail : Code) (e : Bool) → op_of b ≡ op.Block → depth < 256 → block_type ty t
    → Reads next (depth + 1) false x (at + 1 + length t) (y ++ rest) body false → Reads next depth may_else y (at + 1 + length t + length x) rest tail e
    → instr_at next depth may_else at (op_of b) (before (t ++ (x ++ y)) (at + 1) rest) ≡ Ok ((Block ty body tail, e), behind (b ∷ (t ++ (x ++ y))) at rest)
block_back pa next depth at may_else b t x y rest ty body tail e is lt type inner ih =
    ap (λ (o : Op). instr_at next depth may_else at o (before (t ++ (x ++ y)) (at + 1) rest)) is
    ∙ ap (instr_at next depth may_else at op.Block) (regroup t (x ++ y) (at + 1) rest)
    ∙ block_body next depth at may_else (before t (at + 1) ((x ++ y) ++ rest)) ty (behind t (at + 1) ((x ++ y) ++ rest)) (placed body false (y ++ rest) (at + 1 + length t + length x))
    (opened_again pa depth at t ty (at + 1) ((x ++ y) ++ rest) lt type) (ap (next (depth + 1) false) (regroup x y (at + 1 + length t) rest) ∙ inner)
    ∙ ap (front (Block ty body)) ih
    ∙ ap (placed (Block ty body tail) e rest) (omega (arith, length-append x y, length-append t (x ++ y)))

loop_back : PartsAgain → (next : Next) (depth at : ℕ) (may_else : Bool) (b : ℕ) (t x y rest : List ℕ) (ty : Option ValType) (body tail : Code) (e : Bool) → op_of b ≡ op.Loop → depth < 256 → block_type ty t
    → Reads next (depth + 1) false x (at + 1 + length t) (y ++ rest) body false → Reads next depth may_else y (at + 1 + length t + length x) rest tail e
    → instr_at next depth may_else at (op_of b) (before (t ++ (x ++ y)) (at + 1) rest) ≡ Ok ((Loop ty body tail, e), behind (b ∷ (t ++ (x ++ y))) at rest)
loop_back pa next depth at may_else b t x y rest ty body tail e is lt type inner ih =
    ap (λ (o : Op). instr_at next depth may_else at o (before (t ++ (x ++ y)) (at + 1) rest)) is
    ∙ ap (instr_at next depth may_else at op.Loop) (regroup t (x ++ y) (at + 1) rest)
    ∙ loop_body next depth at may_else (before t (at + 1) ((x ++ y) ++ rest)) ty (behind t (at + 1) ((x ++ y) ++ rest)) (placed body false (y ++ rest) (at + 1 + length t + length x))
    (opened_again pa depth at t ty (at + 1) ((x ++ y) ++ rest) lt type) (ap (next (depth + 1) false) (regroup x y (at + 1 + length t) rest) ∙ inner)
    ∙ ap (front (Loop ty body)) ih
    ∙ ap (placed (Loop ty body tail) e rest) (omega (arith, length-append x y, length-append t (x ++ y)))

-- the second side
nothing_back : (next : Next) (depth at : ℕ) (z rest : List ℕ) (other : Code) → z ≡ [] → other ≡ End → other_side (next (depth + 1) false) false (before z at rest) ≡ Ok ((other, false), behind z at rest)
nothing_back next depth at z rest other none is =
    ap (λ (l : List ℕ). placed End false (l ++ rest) at) none ∙ ap (placed End false rest) (sym (add-zero at)) ∙ ap (λ (l : List ℕ). placed End false rest (at + length l)) (sym none) ∙ ap (λ (c : Code). placed c false rest (at + length z)) (sym is)

if_back : PartsAgain → (next : Next) (depth at : ℕ) (may_else : Bool) (b : ℕ) (t x z y rest : List ℕ) (ty : Option ValType) (one other tail : Code) (split e : Bool) → op_of b ≡ op.If → depth < 256 → block_type ty t
    → Reads next (depth + 1) true x (at + 1 + length t) ((z ++ y) ++ rest) one split
    → other_side (next (depth + 1) false) split (before z (at + 1 + length t + length x) (y ++ rest)) ≡ Ok ((other, false), behind z (at + 1 + length t + length x) (y ++ rest))
    → Reads next depth may_else y (at + 1 + length t + length x + length z) rest tail e
    → instr_at next depth may_else at (op_of b) (before (t ++ (x ++ (z ++ y))) (at + 1) rest) ≡ Ok ((Choice ty one other tail, e), behind (b ∷ (t ++ (x ++ (z ++ y)))) at rest)
if_back pa next depth at may_else b t x z y rest ty one other tail split e is lt type first second ih =
    ap (λ (o : Op). instr_at next depth may_else at o (before (t ++ (x ++ (z ++ y))) (at + 1) rest)) is
    ∙ ap (instr_at next depth may_else at op.If) (regroup t (x ++ (z ++ y)) (at + 1) rest)
    ∙ if_body next depth at may_else (before t (at + 1) ((x ++ (z ++ y)) ++ rest)) ty (behind t (at + 1) ((x ++ (z ++ y)) ++ rest)) (placed one split ((z ++ y) ++ rest) (at + 1 + length t + length x))
    (opened_again pa depth at t ty (at + 1) ((x ++ (z ++ y)) ++ rest) lt type) (ap (next (depth + 1) true) (regroup x (z ++ y) (at + 1 + length t) rest) ∙ first)
    ∙ ap (λ (r : Sequence). r >>= λ other. front (Choice ty one other.0.0) (next depth may_else other.1)) (ap (other_side (next (depth + 1) false) split) (regroup z y (at + 1 + length t + length x) rest) ∙ second)
    ∙ ap (front (Choice ty one other)) ih
    ∙ ap (placed (Choice ty one other tail) e rest) (omega (arith, length-append z y, length-append x (z ++ y), length-append t (x ++ (z ++ y))))

end_back : (next : Next) (depth at : ℕ) (may_else stands : Bool) (b : ℕ) (rest : List ℕ) → op_of b ≡ end_op stands → (stands ≡ true → may_else ≡ true) → instr_at next depth may_else at (op_of b) (before [] (at + 1) rest) ≡ Ok ((End, stands), behind (b ∷ []) at rest)
unfolding instr_at
end_back next depth at may_else false b rest is may = ap (λ (o : Op). instr_at next depth may_else at o (before [] (at + 1) rest)) is
end_back next depth at true true b rest is may = ap (λ (o : Op). instr_at next depth true at o (before [] (at + 1) rest)) is
end_back next depth at false true b rest is may = absurd (let x : false ≡ true = may refl in cc)

pub code_again : PartsAgain → (code : Code) (turns depth : ℕ) (may_else stands : Bool) (text : List ℕ) (at : ℕ) (rest : List ℕ) → IsSequence depth text code stands → (stands ≡ true → may_else ≡ true) → length text ≤ turns
    → Reads (code_at turns) depth may_else text at rest code stands
unfolding code_at
code_again pa End zero depth may_else stands text at rest h may le = absurd (omega (arith, ap length h.1))
code_again pa End (suc k) depth may_else stands text at rest h may le =
    subst (λ (l : List ℕ). Reads (code_at (suc k)) depth may_else l at rest End stands) (sym h.1) (end_back (code_at k) depth at may_else stands h.0 rest h.2 may)
code_again pa (Then p tail) zero depth may_else stands text at rest h may le = absurd (omega (arith, ap length h.3))
code_again pa (Then p tail) (suc k) depth may_else stands text at rest h may le =
    subst (λ (l : List ℕ). Reads (code_at (suc k)) depth may_else l at rest (Then p tail) stands) (sym h.3)
    (plain_back pa (code_at k) depth at may_else h.0 h.1 h.2 rest p tail stands h.4
    (code_again pa tail k depth may_else stands h.2 (at + 1 + length h.1) rest h.5 may (omega (arith, ap length h.3, length-append h.1 h.2))))
code_again pa (Block ty body tail) zero depth may_else stands text at rest h may le = absurd (omega (arith, ap length h.4))
code_again pa (Block ty body tail) (suc k) depth may_else stands text at rest h may le =
    subst (λ (l : List ℕ). Reads (code_at (suc k)) depth may_else l at rest (Block ty body tail) stands) (sym h.4)
    (block_back pa (code_at k) depth at may_else h.0 h.1 h.2 h.3 rest ty body tail stands h.5 h.6 h.7
    (code_again pa body k (depth + 1) false false h.2 (at + 1 + length h.1) (h.3 ++ rest) h.8 (λ e. e) (omega (arith, ap length h.4, length-append h.2 h.3, length-append h.1 (h.2 ++ h.3))))
    (code_again pa tail k depth may_else stands h.3 (at + 1 + length h.1 + length h.2) rest h.9 may (omega (arith, ap length h.4, length-append h.2 h.3, length-append h.1 (h.2 ++ h.3)))))
code_again pa (Loop ty body tail) zero depth may_else stands text at rest h may le = absurd (omega (arith, ap length h.4))
code_again pa (Loop ty body tail) (suc k) depth may_else stands text at rest h may le =
    subst (λ (l : List ℕ). Reads (code_at (suc k)) depth may_else l at rest (Loop ty body tail) stands) (sym h.4)
    (loop_back pa (code_at k) depth at may_else h.0 h.1 h.2 h.3 rest ty body tail stands h.5 h.6 h.7
    (code_again pa body k (depth + 1) false false h.2 (at + 1 + length h.1) (h.3 ++ rest) h.8 (λ e. e) (omega (arith, ap length h.4, length-append h.2 h.3, length-append h.1 (h.2 ++ h.3))))
    (code_again pa tail k depth may_else stands h.3 (at + 1 + length h.1 + length h.2) rest h.9 may (omega (arith, ap length h.4, length-append h.2 h.3, length-append h.1 (h.2 ++ h.3)))))
code_again pa (Choice ty one other tail) zero depth may_else stands text at rest h may le = absurd (omega (arith, ap length h.5))
code_again pa (Choice ty one other tail) (suc k) depth may_else stands text at rest h may le =
    subst (λ (l : List ℕ). Reads (code_at (suc k)) depth may_else l at rest (Choice ty one other tail) stands) (sym h.5)
    (if_back pa (code_at k) depth at may_else h.0 h.1 h.2 h.3 h.4 rest ty one other tail h.9 stands h.6 h.7 h.8
    (code_again pa one k (depth + 1) true h.9 h.2 (at + 1 + length h.1) ((h.3 ++ h.4) ++ rest) h.10 (λ e. refl) (omega (arith, ap length h.5, length-append h.3 h.4, length-append h.2 (h.3 ++ h.4), length-append h.1 (h.2 ++ (h.3 ++ h.4)))))
    (elim h.9 as (λ split. IsOther split (λ text. IsSequence (depth + 1) text other false) other h.3 → other_side (code_at k (depth + 1) false) split (before h.3 (at + 1 + length h.1 + length h.2) (h.4 ++ rest)) ≡ Ok ((other, false), behind h.3 (at + 1 + length h.1 + length h.2) (h.4 ++ rest))) [
      | true ↦ λ s. code_again pa other k (depth + 1) false false h.3 (at + 1 + length h.1 + length h.2) (h.4 ++ rest) s (λ e. e) (omega (arith, ap length h.5, length-append h.3 h.4, length-append h.2 (h.3 ++ h.4), length-append h.1 (h.2 ++ (h.3 ++ h.4))))
      | false ↦ λ s. nothing_back (code_at k) depth (at + 1 + length h.1 + length h.2) h.3 (h.4 ++ rest) other s.0 s.1
    ] h.11)
    (code_again pa tail k depth may_else stands h.4 (at + 1 + length h.1 + length h.2 + length h.3) rest h.12 may (omega (arith, ap length h.5, length-append h.3 h.4, length-append h.2 (h.3 ++ h.4), length-append h.1 (h.2 ++ (h.3 ++ h.4))))))
