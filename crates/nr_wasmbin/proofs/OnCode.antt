-- Reading a sequence, up to the instruction that a loop stands at.
use Rattle.std.proofs.Common.{◌≡◌, ◌≢◌, ℕ, zero, suc, ◌+◌, ◌≤◌, List, [], ◌∷◌, ◌++◌, length, take, drop, Bool, true, false, Ok, Err, Option, refl, sym, ap, subst, ◌∙◌, append_assoc, length-append, arith}
use Rattle.std.proofs.Math.Seq.{drop-append_seam, take-append_seam}
use Rattle.nr_wasmtypes.specs.declared.instr.ValType.{ValType}
use Rattle.nr_wasmtypes.specs.declared.instr.Instr.{Instr}
use Rattle.nr_wasmtypes.specs.declared.instr.Instr.TheVariants as instr
use Rattle.nr_wasmtypes.specs.declared.instr.Plain.{Plain}
use Rattle.nr_wasmtypes.proofs.Levels.{put_plain}
use Rattle.nr_wasmtypes.specs.Code.{Code, End, Then, Block, Loop, Choice, code_of, put}
use Rattle.nr_bytes.specs.Reading.{Input, ◌>>=◌}
use Rattle.nr_wasmbin.specs.Fields.{Read, byte_at, byte_of}
use Rattle.nr_wasmtypes.specs.Opcodes.{op_of}
use Rattle.nr_wasmbin.specs.Expressions.{Sequence, front, onto, instr_at, code_at, plain_at, opened, other_side, is_structured}
use Rattle.nr_wasmtypes.specs.declared.opcode.Op.{Op}
use Rattle.nr_wasmtypes.specs.declared.opcode.Op.TheVariants as op
use Rattle.nr_wasmbin.specs.declared.fault.DecodeFault.{DecodeFault}
use Rattle.nr_wasmbin.specs.declared.fault.DecodeFault.TheVariants as fault

pub front_nothing : (r : Sequence) → front (onto []) r ≡ r
front_nothing (Ok x) = refl
front_nothing (Err e) = refl

onto_push : (is : List Instr) (i : Instr) (rest : Code) → onto (is ++ i ∷ []) rest ≡ onto is (put i rest)
onto_push [] i rest = refl
onto_push (j ∷ is) i rest = ap (put j) (onto_push is i rest)

pub onto_end : (is : List Instr) → onto is End ≡ code_of is
onto_end [] = refl
onto_end (i ∷ is) = ap (put i) (onto_end is)

ended : Bool → Input → Code → Sequence
ended b s c = Ok ((c, b), s)

pub front_push : (is : List Instr) (i : Instr) (r : Sequence) → front (onto is) (front (put i) r) ≡ front (onto (is ++ i ∷ [])) r
unfolding ended
front_push is i (Ok x) = ap (ended x.0.1 x.1) (sym (onto_push is i x.0.0))
front_push is i (Err e) = refl

pub ends_with : (is : List Instr) (b : Bool) (s : Input) → front (onto is) (Ok ((End, b), s)) ≡ Ok ((code_of is, b), s)
unfolding ended
ends_with is b s = ap (ended b s) (onto_end is)

-- ---- one more byte
read_byte : ℕ × Input → Read ℕ
read_byte x = Ok x

same_byte : (x y : ℕ × Input) → read_byte x ≡ read_byte y → x ≡ y
unfolding read_byte
same_byte x y e = cc

step : (turns depth : ℕ) (may_else : Bool) (left : List ℕ) (at b : ℕ) (rest : Input) → byte_of left at ≡ Ok (b, rest) → length left ≤ turns
    → (k : ℕ) × (length rest.left ≤ k) × (code_at turns depth may_else (record { left = left; at = at }) ≡ instr_at (code_at k) depth may_else at (op_of b) rest)
unfolding code_at read_byte
step turns depth may_else [] at b rest e h = absurd (let x : byte_of [] at ≡ Ok (b, rest) = e in cc)
step zero depth may_else (x ∷ xs) at b rest e h = absurd (omega arith)
step (suc k) depth may_else (x ∷ xs) at b rest e h =
    let is = same_byte (x, record { left = xs; at = at + 1 }) (b, rest) e in
    let short : length xs ≤ k = omega arith in
    (k, subst (λ (y : ℕ × Input). length y.1.left ≤ k) is short, ap (λ (y : ℕ × Input). instr_at (code_at k) depth may_else at (op_of y.0) y.1) is)

pub turn : (items : List Instr) (more depth : ℕ) (may_else : Bool) (s rest : Input) (b : ℕ) (total : Sequence) (at : ℕ) (o : Op) → byte_at s ≡ Ok (b, rest) → at ≡ s.at → o ≡ op_of b → length s.left ≤ more
    → front (onto items) (code_at more depth may_else s) ≡ total → (k : ℕ) × (length rest.left ≤ k) × (total ≡ front (onto items) (instr_at (code_at k) depth may_else at o rest))
turn items more depth may_else s rest b total at o e same_at same_op h so_far =
    let x = step more depth may_else s.left s.at b rest e h in
    (x.0, x.1, sym so_far ∙ ap (front (onto items)) (x.2 ∙ ap (λ n. instr_at (code_at x.0) depth may_else n (op_of b) rest) (sym same_at) ∙ ap (λ (p : Op). instr_at (code_at x.0) depth may_else at p rest) (sym same_op)))

short_step : (turns depth : ℕ) (may_else : Bool) (left : List ℕ) (at : ℕ) (e : DecodeFault) → byte_of left at ≡ Err e → code_at turns depth may_else (record { left = left; at = at }) ≡ Err e
unfolding code_at
short_step zero depth may_else [] at e is = ap (λ (r : Read ℕ). r >>= λ b. instr_at (code_at zero) depth may_else at (op_of b.0) b.1) is
short_step (suc k) depth may_else [] at e is = ap (λ (r : Read ℕ). r >>= λ b. instr_at (code_at k) depth may_else at (op_of b.0) b.1) is
short_step turns depth may_else (x ∷ xs) at e is = absurd (let y : byte_of (x ∷ xs) at ≡ Err e = is in cc)

pub short : (items : List Instr) (more depth : ℕ) (may_else : Bool) (s : Input) (e : DecodeFault) (total : Sequence) → byte_at s ≡ Err e → front (onto items) (code_at more depth may_else s) ≡ total → total ≡ Err e
short items more depth may_else s e total is so_far = sym so_far ∙ ap (front (onto items)) (short_step more depth may_else s.left s.at e is)

-- ---- the instructions that hold others
pub block_opens : (next : ℕ → Bool → Input → Sequence) (depth at : ℕ) (may_else : Bool) (s : Input) (e : DecodeFault) → opened depth at s ≡ Err e → instr_at next depth may_else at op.Block s ≡ Err e
unfolding instr_at
block_opens next depth at may_else s e is = ap (λ (r : Read (Option ValType)). r >>= λ ty. next (depth + 1) false ty.1 >>= λ body. front (Block ty.0 body.0.0) (next depth may_else body.1)) is

pub block_body : (next : ℕ → Bool → Input → Sequence) (depth at : ℕ) (may_else : Bool) (s : Input) (ty : Option ValType) (t : Input) (body : Sequence) → opened depth at s ≡ Ok (ty, t) → next (depth + 1) false t ≡ body
    → instr_at next depth may_else at op.Block s ≡ (body >>= λ body. front (Block ty body.0.0) (next depth may_else body.1))
unfolding instr_at
block_body next depth at may_else s ty t body is e =
    ap (λ (r : Read (Option ValType)). r >>= λ ty. next (depth + 1) false ty.1 >>= λ body. front (Block ty.0 body.0.0) (next depth may_else body.1)) is
    ∙ ap (λ (r : Sequence). r >>= λ body. front (Block ty body.0.0) (next depth may_else body.1)) e

pub loop_opens : (next : ℕ → Bool → Input → Sequence) (depth at : ℕ) (may_else : Bool) (s : Input) (e : DecodeFault) → opened depth at s ≡ Err e → instr_at next depth may_else at op.Loop s ≡ Err e
unfolding instr_at
loop_opens next depth at may_else s e is = ap (λ (r : Read (Option ValType)). r >>= λ ty. next (depth + 1) false ty.1 >>= λ body. front (Loop ty.0 body.0.0) (next depth may_else body.1)) is

pub loop_body : (next : ℕ → Bool → Input → Sequence) (depth at : ℕ) (may_else : Bool) (s : Input) (ty : Option ValType) (t : Input) (body : Sequence) → opened depth at s ≡ Ok (ty, t) → next (depth + 1) false t ≡ body
    → instr_at next depth may_else at op.Loop s ≡ (body >>= λ body. front (Loop ty body.0.0) (next depth may_else body.1))
unfolding instr_at
loop_body next depth at may_else s ty t body is e =
    ap (λ (r : Read (Option ValType)). r >>= λ ty. next (depth + 1) false ty.1 >>= λ body. front (Loop ty.0 body.0.0) (next depth may_else body.1)) is
    ∙ ap (λ (r : Sequence). r >>= λ body. front (Loop ty body.0.0) (next depth may_else body.1)) e

pub if_opens : (next : ℕ → Bool → Input → Sequence) (depth at : ℕ) (may_else : Bool) (s : Input) (e : DecodeFault) → opened depth at s ≡ Err e → instr_at next depth may_else at op.If s ≡ Err e
unfolding instr_at
if_opens next depth at may_else s e is = ap (λ (r : Read (Option ValType)). r >>= λ ty. next (depth + 1) true ty.1 >>= λ one. other_side (next (depth + 1) false) one.0.1 one.1 >>= λ other. front (Choice ty.0 one.0.0 other.0.0) (next depth may_else other.1)) is

pub if_body : (next : ℕ → Bool → Input → Sequence) (depth at : ℕ) (may_else : Bool) (s : Input) (ty : Option ValType) (t : Input) (one : Sequence) → opened depth at s ≡ Ok (ty, t) → next (depth + 1) true t ≡ one
    → instr_at next depth may_else at op.If s ≡ (one >>= λ one. other_side (next (depth + 1) false) one.0.1 one.1 >>= λ other. front (Choice ty one.0.0 other.0.0) (next depth may_else other.1))
unfolding instr_at
if_body next depth at may_else s ty t one is e =
    ap (λ (r : Read (Option ValType)). r >>= λ ty. next (depth + 1) true ty.1 >>= λ one. other_side (next (depth + 1) false) one.0.1 one.1 >>= λ other. front (Choice ty.0 one.0.0 other.0.0) (next depth may_else other.1)) is
    ∙ ap (λ (r : Sequence). r >>= λ one. other_side (next (depth + 1) false) one.0.1 one.1 >>= λ other. front (Choice ty one.0.0 other.0.0) (next depth may_else other.1)) e

-- what is read for an instruction is put before the rest
pub puts : (f : Code → Code) (i : Instr) (r : Sequence) → ((rest : Code) → f rest ≡ put i rest) → front f r ≡ front (put i) r
unfolding ended
puts f i (Ok x) same = ap (ended x.0.1 x.1) (same x.0.0)
puts f i (Err e) same = refl

pub ends_here : (is : List Instr) (next : ℕ → Bool → Input → Sequence) (depth : ℕ) (may_else : Bool) (at : ℕ) (s : Input) → front (onto is) (instr_at next depth may_else at op.End s) ≡ Ok ((code_of is, false), s)
unfolding instr_at
ends_here is next depth may_else at s = ends_with is false s

pub else_here : (is : List Instr) (next : ℕ → Bool → Input → Sequence) (depth : ℕ) (may_else : Bool) (at : ℕ) (s : Input) → may_else ≡ true → front (onto is) (instr_at next depth may_else at op.Else s) ≡ Ok ((code_of is, true), s)
unfolding instr_at
else_here is next depth true at s e = ends_with is true s
else_here is next depth false at s e = absurd cc

pub else_refused : (is : List Instr) (next : ℕ → Bool → Input → Sequence) (depth : ℕ) (may_else : Bool) (at : ℕ) (s : Input) → may_else ≡ false → front (onto is) (instr_at next depth may_else at op.Else s) ≡ Err (fault.Opcode at)
unfolding instr_at
else_refused is next depth false at s e = refl
else_refused is next depth true at s e = absurd cc

pub plain_instr : (next : ℕ → Bool → Input → Sequence) (depth at : ℕ) (may_else : Bool) (o : Op) (s : Input) → o ≢ op.Block → o ≢ op.Loop → o ≢ op.If → o ≢ op.End → o ≢ op.Else
    → instr_at next depth may_else at o s ≡ (plain_at at o s >>= λ p. front (Then p.0) (next depth may_else p.1))
unfolding instr_at
plain_instr next depth at may_else op.Block s a b c d e = absurd (a refl)
plain_instr next depth at may_else op.Loop s a b c d e = absurd (b refl)
plain_instr next depth at may_else op.If s a b c d e = absurd (c refl)
plain_instr next depth at may_else op.End s a b c d e = absurd (d refl)
plain_instr next depth at may_else op.Else s a b c d e = absurd (e refl)
plain_instr next depth at may_else o s a b c d e = refl

-- ---- instructions that hold no others, in a row
pub any_in_row : (o : Op) → o ≢ op.Block → o ≢ op.Loop → o ≢ op.If → o ≢ op.Else → o ≢ op.End → false ≡ is_structured o
any_in_row op.Block a b c d e = absurd (a refl)
any_in_row op.Loop a b c d e = absurd (b refl)
any_in_row op.If a b c d e = absurd (c refl)
any_in_row op.Else a b c d e = absurd (d refl)
any_in_row op.End a b c d e = absurd (e refl)
any_in_row o a b c d e = refl

in_row : (next : ℕ → Bool → Input → Sequence) (depth at : ℕ) (may_else : Bool) (o : Op) (s : Input) → is_structured o ≡ false → instr_at next depth may_else at o s ≡ (plain_at at o s >>= λ p. front (Then p.0) (next depth may_else p.1))
unfolding instr_at
in_row next depth at may_else op.Block s h = absurd (let x : true ≡ false = h in cc)
in_row next depth at may_else op.Loop s h = absurd (let x : true ≡ false = h in cc)
in_row next depth at may_else op.If s h = absurd (let x : true ≡ false = h in cc)
in_row next depth at may_else op.Else s h = absurd (let x : true ≡ false = h in cc)
in_row next depth at may_else op.End s h = absurd (let x : true ≡ false = h in cc)
in_row next depth at may_else o s h = refl

pub row_goes_on : (is : List Instr) (k depth at : ℕ) (may_else : Bool) (o : Op) (s after : Input) (p : Plain) → is_structured o ≡ false → plain_at at o s ≡ Ok (p, after)
    → front (onto is) (instr_at (code_at k) depth may_else at o s) ≡ front (onto (is ++ instr.Plain p ∷ [])) (code_at k depth may_else after)
row_goes_on is k depth at may_else o s after p flat gives =
    let left = code_at k depth may_else after in
    ap (front (onto is))
    (in_row (code_at k) depth at may_else o s flat
    ∙ ap (λ (r : Read Plain). r >>= λ p. front (Then p.0) (code_at k depth may_else p.1)) gives
    ∙ puts (Then p) (instr.Plain p) left (λ rest. sym (put_plain (instr.Plain p) p rest refl)))
    ∙ front_push is (instr.Plain p) left

pub row_refused : (is : List Instr) (k depth at : ℕ) (may_else : Bool) (o : Op) (s : Input) (e : DecodeFault) → is_structured o ≡ false → plain_at at o s ≡ Err e
    → front (onto is) (instr_at (code_at k) depth may_else at o s) ≡ Err e
row_refused is k depth at may_else o s e flat gives =
    ap (front (onto is))
    (in_row (code_at k) depth at may_else o s flat
    ∙ ap (λ (r : Read Plain). r >>= λ p. front (Then p.0) (code_at k depth may_else p.1)) gives)

onto_append : (is js : List Instr) (rest : Code) → onto (is ++ js) rest ≡ onto is (onto js rest)
onto_append [] js rest = refl
onto_append (i ∷ is) js rest = ap (put i) (onto_append is js rest)

front_append : (is js : List Instr) (r : Sequence) → front (onto is) (front (onto js) r) ≡ front (onto (is ++ js)) r
unfolding ended
front_append is js (Ok x) = ap (ended x.0.1 x.1) (sym (onto_append is js x.0.0))
front_append is js (Err e) = refl

-- a row behind what was read before
pub row_joins : (before items after : List Instr) (whole next total : Sequence) → after ≡ before ++ items → whole ≡ front (onto items) next → front (onto before) whole ≡ total → total ≡ front (onto after) next
row_joins before items after whole next total e leads so_far =
    sym so_far ∙ ap (front (onto before)) leads ∙ front_append before items next ∙ ap (λ (is : List Instr). front (onto is) next) (sym e)

pub row_stops : (before : List Instr) (whole total : Sequence) (e : DecodeFault) → whole ≡ Err e → front (onto before) whole ≡ total → total ≡ Err e
row_stops before whole total e is so_far = sym so_far ∙ ap (front (onto before)) is

-- ---- a sequence on top of a stack
pub behind : (before is js stack after : List Instr) → stack ≡ before ++ is → after ≡ stack ++ js → after ≡ before ++ (is ++ js)
behind before is js stack after so_far more = more ∙ ap (λ (ks : List Instr). ks ++ js) so_far ∙ append_assoc before is js

pub longer : (before items after : List Instr) → after ≡ before ++ items → length before ≤ length after
longer before items after e = let l : length after ≡ length (before ++ items) = ap length e in omega (arith, l, length-append before items)

pub cut_off : (before items after tail : List Instr) (start : ℕ) → start ≡ length before → after ≡ before ++ items → tail ≡ drop start after → tail ≡ items
cut_off before items after tail start s e is =
    is ∙ ap (drop start) e ∙ ap (λ n. drop n (before ++ items)) s ∙ drop-append_seam before items

pub left_over : (before items after : List Instr) (start : ℕ) → start ≡ length before → after ≡ before ++ items → take start after ≡ before
left_over before items after start s e = ap (take start) e ∙ ap (λ n. take n (before ++ items)) s ∙ take-append_seam before items

abbrev pub sequence : List Instr → Bool → Input → Sequence
sequence is is_else s = Ok ((code_of is, is_else), s)
