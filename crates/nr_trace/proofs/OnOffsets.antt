-- Opcodes and bodies, one after the other.
use Rattle.std.proofs.Common.{◌≡◌, ◌≢◌, true, false, ℕ, zero, suc, ◌+◌, ◌-◌, ◌<◌, ◌≤◌, List, [], ◌∷◌, length, Ok, Err, Result, refl, sym, ap, ◌∙◌, arith}
use Rattle.nr_bytes.specs.Reading.{Input, ◌>>=◌}
use Rattle.nr_wasmbin.specs.Fields.{Read, sized_at}
use Rattle.nr_wasmtypes.specs.declared.opcode.Op.{Op}
use Rattle.nr_wasmtypes.specs.declared.opcode.Op.TheVariants as op
use Rattle.nr_trace.specs.Offsets.{is_instr, nth_at, onward, opcode_in, opens, passed_at, past_body}
use Rattle.nr_wasmbin.specs.declared.fault.DecodeFault.{DecodeFault}
use Rattle.nr_wasmbin.specs.declared.fault.DecodeFault.TheVariants as fault
use Rattle.nr_trace.specs.declared.offset.Sought.{Sought}
use Rattle.nr_trace.specs.declared.offset.Sought.TheVariants as sought

-- ---- one opcode
pub any_instr : (o : Op) → o ≢ op.Else → o ≢ op.End → true ≡ is_instr o
any_instr op.Else a b = absurd (a refl)
any_instr op.End a b = absurd (b refl)
any_instr o a b = refl

pub any_plain : (o : Op) → o ≢ op.Block → o ≢ op.Loop → o ≢ op.If → false ≡ opens o
any_plain op.Block a b c = absurd (a refl)
any_plain op.Loop a b c = absurd (b refl)
any_plain op.If a b c = absurd (c refl)
any_plain o a b c = refl

-- ---- opcodes
-- at least one turn is left where a byte is
pub opcodes_go_on : (turns number more : ℕ) (s t : Input) (total : Result ℕ DecodeFault) → length s.left ≤ turns → passed_at number s ≡ Ok (sought.Behind more, t) → length t.left < length s.left → opcode_in turns number s ≡ total
    → (k : ℕ) × (length t.left ≤ k) × (opcode_in k more t ≡ total)
unfolding opcode_in
opcodes_go_on zero number more s t total h is shorter so_far = absurd (omega arith)
opcodes_go_on (suc k) number more s t total h is shorter so_far =
    (k, omega arith, sym (ap (λ (r : Read Sought). r >>= onward (opcode_in k)) is) ∙ so_far)

pub opcodes_end : (turns number at : ℕ) (s t : Input) (total : Result ℕ DecodeFault) → length s.left ≤ turns → passed_at number s ≡ Ok (sought.Here at, t) → length t.left < length s.left → opcode_in turns number s ≡ total
    → total ≡ Ok at
unfolding opcode_in
opcodes_end zero number at s t total h is shorter so_far = absurd (omega arith)
opcodes_end (suc k) number at s t total h is shorter so_far =
    sym so_far ∙ ap (λ (r : Read Sought). r >>= onward (opcode_in k)) is

-- without a byte the fault is the same
abbrev fault_of : Read Sought → DecodeFault → DecodeFault
fault_of (Ok x) other = other
fault_of (Err e) other = e

abbrev refused : DecodeFault → Result ℕ DecodeFault
refused e = Err e

no_byte : (number : ℕ) (left : List ℕ) (at : ℕ) (e : DecodeFault) → length left ≤ 0 → passed_at number (record { left = left; at = at }) ≡ Err e → opcode_in zero number (record { left = left; at = at }) ≡ Err e
unfolding opcode_in passed_at
no_byte number [] at e none is = let same : fault.Short at ≡ e = ap (λ (r : Read Sought). fault_of r e) is in ap refused same
no_byte number (b ∷ bs) at e none is = absurd (omega arith)

pub opcodes_stop : (turns number : ℕ) (s : Input) (e : DecodeFault) (total : Result ℕ DecodeFault) → length s.left ≤ turns → passed_at number s ≡ Err e → opcode_in turns number s ≡ total → total ≡ Err e
unfolding opcode_in
opcodes_stop zero number s e total h is so_far = sym so_far ∙ no_byte number s.left s.at e h is
opcodes_stop (suc k) number s e total h is so_far = sym so_far ∙ ap (λ (r : Read Sought). r >>= onward (opcode_in k)) is

-- ---- bodies
pub nth_goes_on : (number i : ℕ) (s t : Input) (total : Read Input) → i < number → past_body s ≡ Ok t → nth_at (number - i) s ≡ total → nth_at (number - (i + 1)) t ≡ total
unfolding nth_at
nth_goes_on number i s t total lt is so_far =
    let k : number - i ≡ suc (number - (i + 1)) = omega arith in
    sym (ap (λ m. nth_at m s) k ∙ ap (λ (r : Result Input DecodeFault). r >>= nth_at (number - (i + 1))) is) ∙ so_far

pub nth_stops : (number i : ℕ) (s : Input) (e : DecodeFault) (total : Read Input) → i < number → past_body s ≡ Err e → nth_at (number - i) s ≡ total → total ≡ Err e
unfolding nth_at
nth_stops number i s e total lt is so_far =
    let k : number - i ≡ suc (number - (i + 1)) = omega arith in
    sym so_far ∙ (ap (λ m. nth_at m s) k ∙ ap (λ (r : Result Input DecodeFault). r >>= nth_at (number - (i + 1))) is)

pub nth_is : (number i : ℕ) (s : Input) (total : Read Input) → number ≤ i → nth_at (number - i) s ≡ total → total ≡ sized_at s
unfolding nth_at
nth_is number i s total le so_far =
    let k : number - i ≡ 0 = omega arith in
    sym so_far ∙ ap (λ m. nth_at m s) k
