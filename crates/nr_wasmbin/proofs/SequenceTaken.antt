-- What is read as a sequence is one, by its grammar.
use Rattle.std.proofs.Common.{◌≡◌, ℕ, zero, suc, ◌+◌, ◌<◌, List, [], ◌∷◌, ◌++◌, Option, Bool, true, false, cond, Ok, Err, refl, sym, ap, subst, ◌∙◌, append_assoc, inl, inr}
use Rattle.std.proofs.lemmas.Bool.{cases_lt, lt-ltb, le-ltb}
use Rattle.nr_bytes.proofs.Basics.{bind_ok}
use Rattle.nr_wasmtypes.specs.declared.instr.ValType.{ValType}
use Rattle.nr_wasmtypes.specs.declared.instr.Plain.{Plain}
use Rattle.nr_wasmtypes.specs.Code.{Code, End, Then, Block, Loop, Choice}
use Rattle.nr_bytes.specs.Reading.{Input, ◌>>=◌}
use Rattle.nr_wasmbin.specs.Fields.{Read, byte_at, byte_of}
use Rattle.nr_wasmtypes.specs.Opcodes.{op_of}
use Rattle.nr_wasmbin.specs.Expressions.{Sequence, front, instr_at, code_at, plain_at, opened, block_type_at, other_side}
use Rattle.nr_wasmbin.specs.Grammar.{operands, plain_op, block_type, end_op, IsOther, IsSequence}
use Rattle.nr_wasmtypes.specs.declared.opcode.Op.{Op}
use Rattle.nr_wasmtypes.specs.declared.opcode.Op.TheVariants as op
use Rattle.nr_wasmbin.specs.declared.fault.DecodeFault.TheVariants as fault

-- the text is what was taken
abbrev Takes : Input → List ℕ → Input → Type 0
Takes s text t = s.left ≡ text ++ t.left

-- the laws of the parts
pub record PartLaws : Type 0 where
  pub plain_taken : (at : ℕ) (o : Op) (s : Input) (p : Plain) (t : Input) → plain_at at o s ≡ Ok (p, t) → (x : List ℕ) × Takes s x t × ((o ≡ plain_op p) × operands p x)
  pub type_taken : (s : Input) (ty : Option ValType) (t : Input) → block_type_at s ≡ Ok (ty, t) → (x : List ℕ) × Takes s x t × block_type ty x

abbrev answer : Code → Bool → Input → Sequence
answer c e t = Ok ((c, e), t)

abbrev read_type : Read (Option ValType) → Read (Option ValType)
read_type r = r

-- what is read is a sequence with its end, and an `else` only where it may stand
abbrev IsRead : ℕ → Bool → Input → (Code × Bool) × Input → Type 0
IsRead depth may_else s r = (text : List ℕ) × Takes s text r.1 × IsSequence depth text r.0.0 r.0.1 × (r.0.1 ≡ true → may_else ≡ true)

-- the same behind an opcode
abbrev IsReadBehind : ℕ → Bool → ℕ → Input → (Code × Bool) × Input → Type 0
IsReadBehind depth may_else b s r = (text : List ℕ) × Takes s text r.1 × IsSequence depth (b ∷ text) r.0.0 r.0.1 × (r.0.1 ≡ true → may_else ≡ true)

abbrev whole : (Code × Bool) × Input → Sequence
whole r = Ok r

abbrev refused : Sequence → Sequence
refused r = r

abbrev byte : ℕ × Input → Read ℕ
byte x = Ok x

bytes_are : (x y : ℕ × Input) → byte x ≡ byte y → x ≡ y
bytes_are x y e = cc

ok_is : (x y : (Code × Bool) × Input) → whole x ≡ whole y → x ≡ y
ok_is x y e = cc

front_ok : (step : Code → Code) (r : Sequence) (c : Code) (e : Bool) (t : Input) → front step r ≡ answer c e t → (rest : Code) × (r ≡ answer rest e t) × (step rest ≡ c)
front_ok step (Ok x) c e t is =
    let q = ok_is ((step x.0.0, x.0.1), x.1) ((c, e), t) is in
    (x.0.0, ap (λ (y : (Code × Bool) × Input). whole ((x.0.0, y.0.1), y.1)) q, ap (λ (y : (Code × Bool) × Input). y.0.0) q)
front_ok step (Err d) c e t is = absurd cc

pub no_else : (e : Bool) → (e ≡ true → false ≡ true) → e ≡ false
no_else false h = refl
no_else true h = absurd (let x : false ≡ true = h refl in cc)

opened_ok : (depth at : ℕ) (s : Input) (ty : Option ValType) (t : Input) → opened depth at s ≡ Ok (ty, t) → (depth < 256) × (block_type_at s ≡ Ok (ty, t))
opened_ok depth at s ty t e =
    elim (cases_lt depth 256) [
      | inl lt ↦ (lt, sym (ap (λ b. cond b (block_type_at s) (Err (fault.TooMany at))) (lt-ltb depth 256 lt)) ∙ e)
      | inr ge ↦ absurd (stopped (sym (ap (λ b. cond b (block_type_at s) (Err (fault.TooMany at))) (le-ltb depth 256 ge)) ∙ e))
    ]
  where
    stopped : read_type (Err (fault.TooMany at)) ≡ read_type (Ok (ty, t)) → ⊥
    stopped e = absurd cc

joined : (s t u v : Input) (x y z : List ℕ) → Takes s x t → Takes t y u → Takes u z v → Takes s (x ++ (y ++ z)) v
joined s t u v x y z a b c =
    a ∙ ap (λ (l : List ℕ). x ++ l) (b ∙ ap (λ (l : List ℕ). y ++ l) c ∙ sym (append_assoc y z v.left)) ∙ sym (append_assoc x (y ++ z) v.left)

abbrev Next : (ℕ → Bool → Input → Sequence) → Type 0
Next next = (depth : ℕ) (may_else : Bool) (s : Input) (r : (Code × Bool) × Input) → next depth may_else s ≡ Ok r → IsRead depth may_else s r

block_taken : PartLaws → (next : ℕ → Bool → Input → Sequence) → Next next → (depth at : ℕ) (may_else : Bool) (b : ℕ) (s : Input) (r : (Code × Bool) × Input) → op_of b ≡ op.Block
    → instr_at next depth may_else at op.Block s ≡ Ok r → IsReadBehind depth may_else b s r
unfolding instr_at
block_taken laws next ih depth at may_else b s r is e =
    let ty = bind_ok (opened depth at s) _ r e in
    let body = bind_ok (next (depth + 1) false ty.0.1) _ r ty.2 in
    let o = opened_ok depth at s ty.0.0 ty.0.1 ty.1 in
    let x = laws.type_taken s ty.0.0 ty.0.1 o.1 in
    let y = ih (depth + 1) false ty.0.1 body.0 body.1 in
    let rest = front_ok (Block ty.0.0 body.0.0.0) (next depth may_else body.0.1) r.0.0 r.0.1 r.1 body.2 in
    let z = ih depth may_else body.0.1 ((rest.0, r.0.1), r.1) rest.1 in
    let inner = subst (λ v. IsSequence (depth + 1) y.0 body.0.0.0 v) (no_else body.0.0.1 y.3) y.2 in (
      x.0 ++ (y.0 ++ z.0),
      joined s ty.0.1 body.0.1 r.1 x.0 y.0 z.0 x.1 y.1 z.1,
      subst (λ k. IsSequence depth (b ∷ (x.0 ++ (y.0 ++ z.0))) k r.0.1) rest.2 (b, x.0, y.0, z.0, refl, is, o.0, x.2, inner, z.2),
      z.3,
    )

loop_taken : PartLaws → (next : ℕ → Bool → Input → Sequence) → Next next → (depth at : ℕ) (may_else : Bool) (b : ℕ) (s : Input) (r : (Code × Bool) × Input) → op_of b ≡ op.Loop
    → instr_at next depth may_else at op.Loop s ≡ Ok r → IsReadBehind depth may_else b s r
unfolding instr_at
loop_taken laws next ih depth at may_else b s r is e =
    let ty = bind_ok (opened depth at s) _ r e in
    let body = bind_ok (next (depth + 1) false ty.0.1) _ r ty.2 in
    let o = opened_ok depth at s ty.0.0 ty.0.1 ty.1 in
    let x = laws.type_taken s ty.0.0 ty.0.1 o.1 in
    let y = ih (depth + 1) false ty.0.1 body.0 body.1 in
    let rest = front_ok (Loop ty.0.0 body.0.0.0) (next depth may_else body.0.1) r.0.0 r.0.1 r.1 body.2 in
    let z = ih depth may_else body.0.1 ((rest.0, r.0.1), r.1) rest.1 in
    let inner = subst (λ v. IsSequence (depth + 1) y.0 body.0.0.0 v) (no_else body.0.0.1 y.3) y.2 in (
      x.0 ++ (y.0 ++ z.0),
      joined s ty.0.1 body.0.1 r.1 x.0 y.0 z.0 x.1 y.1 z.1,
      subst (λ k. IsSequence depth (b ∷ (x.0 ++ (y.0 ++ z.0))) k r.0.1) rest.2 (b, x.0, y.0, z.0, refl, is, o.0, x.2, inner, z.2),
      z.3,
    )

-- the second side
other_taken : (next : ℕ → Bool → Input → Sequence) → Next next → (depth : ℕ) (stands : Bool) (s : Input) (r : (Code × Bool) × Input) → other_side (next (depth + 1) false) stands s ≡ Ok r
    → (text : List ℕ) × Takes s text r.1 × IsOther stands (λ text. IsSequence (depth + 1) text r.0.0 false) r.0.0 text
other_taken next ih depth true s r e =
    let y = ih (depth + 1) false s r e in
    (y.0, y.1, subst (λ v. IsSequence (depth + 1) y.0 r.0.0 v) (no_else r.0.1 y.3) y.2)
other_taken next ih depth false s r e =
    let x : ((Code × Bool) × Input) = ((End, false), s) in
    let P : ((Code × Bool) × Input) → Type 0 = λ y. (text : List ℕ) × Takes s text y.1 × ((text ≡ []) × (y.0.0 ≡ End)) in
    subst P (ok_is x r e) ([], refl, (refl, refl))

joined_four : (s t u v w : Input) (x y z q : List ℕ) → Takes s x t → Takes t y u → Takes u z v → Takes v q w → Takes s (x ++ (y ++ (z ++ q))) w
joined_four s t u v w x y z q a b c d =
    a ∙ ap (λ (l : List ℕ). x ++ l) (joined t u v w y z q b c d) ∙ sym (append_assoc x (y ++ (z ++ q)) w.left)

if_taken : PartLaws → (next : ℕ → Bool → Input → Sequence) → Next next → (depth at : ℕ) (may_else : Bool) (b : ℕ) (s : Input) (r : (Code × Bool) × Input) → op_of b ≡ op.If
    → instr_at next depth may_else at op.If s ≡ Ok r → IsReadBehind depth may_else b s r
unfolding instr_at
if_taken laws next ih depth at may_else b s r is e =
    let ty = bind_ok (opened depth at s) _ r e in
    let one = bind_ok (next (depth + 1) true ty.0.1) _ r ty.2 in
    let other = bind_ok (other_side (next (depth + 1) false) one.0.0.1 one.0.1) _ r one.2 in
    let o = opened_ok depth at s ty.0.0 ty.0.1 ty.1 in
    let x = laws.type_taken s ty.0.0 ty.0.1 o.1 in
    let y = ih (depth + 1) true ty.0.1 one.0 one.1 in
    let z = other_taken next ih depth one.0.0.1 one.0.1 other.0 other.1 in
    let rest = front_ok (Choice ty.0.0 one.0.0.0 other.0.0.0) (next depth may_else other.0.1) r.0.0 r.0.1 r.1 other.2 in
    let q = ih depth may_else other.0.1 ((rest.0, r.0.1), r.1) rest.1 in (
      x.0 ++ (y.0 ++ (z.0 ++ q.0)),
      joined_four s ty.0.1 one.0.1 other.0.1 r.1 x.0 y.0 z.0 q.0 x.1 y.1 z.1 q.1,
      subst (λ k. IsSequence depth (b ∷ (x.0 ++ (y.0 ++ (z.0 ++ q.0)))) k r.0.1) rest.2 (b, x.0, y.0, z.0, q.0, refl, is, o.0, x.2, one.0.0.1, y.2, z.2, q.2),
      q.3,
    )

plain_taken : PartLaws → (next : ℕ → Bool → Input → Sequence) → Next next → (depth at : ℕ) (may_else : Bool) (b : ℕ) (s : Input) (r : (Code × Bool) × Input) (o : Op) → op_of b ≡ o
    → (plain_at at o s >>= λ p. front (Then p.0) (next depth may_else p.1)) ≡ Ok r → IsReadBehind depth may_else b s r
plain_taken laws next ih depth at may_else b s r o is e =
    let p = bind_ok (plain_at at o s) (λ p. front (Then p.0) (next depth may_else p.1)) r e in
    let x = laws.plain_taken at o s p.0.0 p.0.1 p.1 in
    let rest = front_ok (Then p.0.0) (next depth may_else p.0.1) r.0.0 r.0.1 r.1 p.2 in
    let y = ih depth may_else p.0.1 ((rest.0, r.0.1), r.1) rest.1 in
    let operands = subst (λ (k : Op). (k ≡ plain_op p.0.0) × operands p.0.0 x.0) (sym is) x.2 in (
      x.0 ++ y.0,
      x.1 ∙ ap (λ (l : List ℕ). x.0 ++ l) y.1 ∙ sym (append_assoc x.0 y.0 r.1.left),
      subst (λ k. IsSequence depth (b ∷ (x.0 ++ y.0)) k r.0.1) rest.2 (b, x.0, y.0, refl, operands, y.2),
      y.3,
    )

ends_taken : (depth : ℕ) (may_else stands : Bool) (b : ℕ) (s : Input) (r : (Code × Bool) × Input) → op_of b ≡ end_op stands → (stands ≡ true → may_else ≡ true) → whole ((End, stands), s) ≡ whole r → IsReadBehind depth may_else b s r
ends_taken depth may_else stands b s r is may e = subst (IsReadBehind depth may_else b s) (ok_is ((End, stands), s) r e) ([], refl, (b, refl, is), may)

instr_taken : PartLaws → (next : ℕ → Bool → Input → Sequence) → Next next → (depth at : ℕ) (may_else : Bool) (b : ℕ) (s : Input) (r : (Code × Bool) × Input) (o : Op) → op_of b ≡ o
    → instr_at next depth may_else at o s ≡ Ok r → IsReadBehind depth may_else b s r
unfolding instr_at
instr_taken laws next ih depth at may_else b s r op.End is e = ends_taken depth may_else false b s r is (λ h. absurd (let x : false ≡ true = h in cc)) e
instr_taken laws next ih depth at true b s r op.Else is e = ends_taken depth true true b s r is (λ h. refl) e
instr_taken laws next ih depth at false b s r op.Else is e = absurd (let x : refused (Err (fault.Opcode at)) ≡ refused (Ok r) = e in cc)
instr_taken laws next ih depth at may_else b s r op.Block is e = block_taken laws next ih depth at may_else b s r is e
instr_taken laws next ih depth at may_else b s r op.Loop is e = loop_taken laws next ih depth at may_else b s r is e
instr_taken laws next ih depth at may_else b s r op.If is e = if_taken laws next ih depth at may_else b s r is e
instr_taken laws next ih depth at may_else b s r o is e = plain_taken laws next ih depth at may_else b s r o is e

byte_taken : (left : List ℕ) (at : ℕ) (b : ℕ × Input) → byte_of left at ≡ Ok b → left ≡ b.0 ∷ b.1.left
byte_taken [] at b e = absurd (let x : byte_of [] at ≡ Ok b = e in cc)
byte_taken (x ∷ xs) at b e = subst (λ (y : ℕ × Input). x ∷ xs ≡ y.0 ∷ y.1.left) (bytes_are (x, record { left = xs; at = at + 1 }) b e) refl

-- every sequence
pub code_taken : PartLaws → (turns depth : ℕ) (may_else : Bool) (s : Input) (r : (Code × Bool) × Input) → code_at turns depth may_else s ≡ Ok r → IsRead depth may_else s r
unfolding code_at
code_taken laws zero depth may_else s r e = absurd (let x : refused (Err (fault.Short s.at)) ≡ refused (Ok r) = e in cc)
code_taken laws (suc turns) depth may_else s r e =
    let b = bind_ok (byte_at s) (λ b. instr_at (code_at turns) depth may_else s.at (op_of b.0) b.1) r e in
    let x = instr_taken laws (code_at turns) (λ d m u v h. code_taken laws turns d m u v h) depth s.at may_else b.0.0 b.0.1 r (op_of b.0.0) refl b.2 in
    (b.0.0 ∷ x.0, byte_taken s.left s.at b.0 b.1 ∙ ap (λ (l : List ℕ). b.0.0 ∷ l) x.1, x.2, x.3)
