-- Custom sections and groups of locals, one after the other.
use Rattle.std.proofs.Common.{◌≡◌, ℕ, zero, suc, ◌+◌, ◌-◌, ◌<◌, ◌≤◌, List, length, [], ◌∷◌, ◌++◌, replicate, true, false, cond, Ok, Err, Result, refl, sym, ap, ◌∙◌, append_assoc, arith}
use Rattle.std.proofs.lemmas.List.{append-nil}
use Rattle.nr_bytes.specs.Reading.{Input, ◌>>=◌}
use Rattle.nr_bytes.proofs.Items.{with_front}
use Rattle.nr_wasmtypes.specs.declared.instr.ValType.{ValType}
use Rattle.nr_wasmbin.specs.Fields.{Read, begins}
use Rattle.nr_wasmbin.specs.Parts.{group_at, groups_at}
use Rattle.nr_wasmbin.specs.Modules.{custom_at, customs_at}
use Rattle.nr_wasmbin.specs.declared.fault.DecodeFault.{DecodeFault}

pub begins_some : (id : ℕ) (l : List ℕ) → begins id l ≡ true → 0 < length l
begins_some id [] e = absurd cc
begins_some id (b ∷ bs) e = omega arith

pub customs_go_on : (turns : ℕ) (s t : Input) (total : Result Input DecodeFault) → begins 0 s.left ≡ true → length s.left ≤ turns → custom_at s ≡ Ok t → length t.left < length s.left → customs_at turns s ≡ total
    → (k : ℕ) × (length t.left ≤ k) × (customs_at k t ≡ total)
unfolding customs_at
customs_go_on zero s t total some h is shorter so_far = absurd (omega arith)
customs_go_on (suc k) s t total some h is shorter so_far =
    (k, omega arith, sym (ap (λ b. cond b (custom_at s >>= customs_at k) (Ok s)) some ∙ ap (λ (r : Result Input DecodeFault). r >>= customs_at k) is) ∙ so_far)

pub customs_stop : (turns : ℕ) (s : Input) (e : DecodeFault) (total : Result Input DecodeFault) → begins 0 s.left ≡ true → length s.left ≤ turns → custom_at s ≡ Err e → customs_at turns s ≡ total → total ≡ Err e
unfolding customs_at
customs_stop zero s e total some h is so_far = absurd (let long = begins_some 0 s.left some in omega arith)
customs_stop (suc k) s e total some h is so_far =
    sym so_far ∙ (ap (λ b. cond b (custom_at s >>= customs_at k) (Ok s)) some ∙ ap (λ (r : Result Input DecodeFault). r >>= customs_at k) is)

pub customs_end : (turns : ℕ) (s : Input) (total : Result Input DecodeFault) → begins 0 s.left ≡ false → customs_at turns s ≡ total → total ≡ Ok s
unfolding customs_at
customs_end zero s total none so_far = sym so_far
customs_end (suc k) s total none so_far = sym so_far ∙ ap (λ b. cond b (custom_at s >>= customs_at k) (Ok s)) none

-- ---- groups of locals
regroup : (front more : List ValType) (read : Read (List ValType)) → with_front front (read >>= λ y. Ok (more ++ y.0, y.1)) ≡ with_front (front ++ more) read
regroup front more (Ok y) = ap (λ (xs : List ValType). Ok (xs, y.1)) (sym (append_assoc front more y.0))
regroup front more (Err f) = refl

pub groups_go_on : (front : List ValType) (count i so_far : ℕ) (s : Input) (n : ℕ) (t : ValType) (after : Input) (total : Read (List ValType)) → i < count → group_at so_far s ≡ Ok ((n, t), after)
    → with_front front (groups_at (count - i) so_far s) ≡ total → with_front (front ++ replicate n t) (groups_at (count - (i + 1)) (so_far + n) after) ≡ total
unfolding groups_at
groups_go_on front count i so_far s n t after total lt h was =
    let k : count - i ≡ suc (count - (i + 1)) = omega arith in
    let one : with_front front (groups_at (count - i) so_far s) ≡ with_front (front ++ replicate n t) (groups_at (count - (i + 1)) (so_far + n) after) =
    ap (λ m. with_front front (groups_at m so_far s)) k
    ∙ ap (λ (r : Read (ℕ × ValType)). with_front front (r >>= λ group. groups_at (count - (i + 1)) (so_far + group.0.0) group.1 >>= λ others. Ok (replicate group.0.0 group.0.1 ++ others.0, others.1))) h
    ∙ regroup front (replicate n t) (groups_at (count - (i + 1)) (so_far + n) after) in
    sym one ∙ was

pub groups_stop : (front : List ValType) (count i so_far : ℕ) (s : Input) (e : DecodeFault) (total : Read (List ValType)) → i < count → group_at so_far s ≡ Err e
    → with_front front (groups_at (count - i) so_far s) ≡ total → total ≡ Err e
unfolding groups_at
groups_stop front count i so_far s e total lt h was =
    let k : count - i ≡ suc (count - (i + 1)) = omega arith in
    sym was ∙ ap (λ m. with_front front (groups_at m so_far s)) k
    ∙ ap (λ (r : Read (ℕ × ValType)). with_front front (r >>= λ group. groups_at (count - (i + 1)) (so_far + group.0.0) group.1 >>= λ others. Ok (replicate group.0.0 group.0.1 ++ others.0, others.1))) h

pub groups_end : (front : List ValType) (count i so_far : ℕ) (s : Input) (total : Read (List ValType)) → count ≤ i → with_front front (groups_at (count - i) so_far s) ≡ total → total ≡ Ok (front, s)
unfolding groups_at
groups_end front count i so_far s total le was =
    let k : count - i ≡ 0 = omega arith in
    sym was ∙ ap (λ m. with_front front (groups_at m so_far s)) k ∙ ap (λ (xs : List ValType). Ok (xs, s)) (append-nil front)
