-- How many instructions a sequence has.
use Rattle.std.proofs.Common.{◌≡◌, ◌+◌, sym, ap, ◌∙◌, arith}
use Rattle.nr_wasmtypes.specs.Code.{Code, End, count_of, put, instr_step}
use Rattle.nr_wasmtypes.specs.declared.instr.Instr.{Instr, fold_out-Instr}
use Rattle.nr_wasmtypes.specs.declared.instr.Instr.TheOpen.{Instr-F}

-- an instruction is one of the four kinds
pub put_is : (i : Instr) → (level : Instr-F (Code → Code)) × (put i ≡ instr_step level)
put_is i = (_, fold_out-Instr (Code → Code) instr_step i)

step_count : (level : Instr-F (Code → Code)) (rest : Code) → count_of (instr_step level rest) ≡ count_of (instr_step level End) + count_of rest
step_count (Instr-F.Plain p) rest = omega arith
step_count (Instr-F.Block ty body) rest = omega arith
step_count (Instr-F.Loop ty body) rest = omega arith
step_count (Instr-F.If ty arms) rest = omega arith

pub put_count : (i : Instr) (rest : Code) → count_of (put i rest) ≡ count_of (put i End) + count_of rest
put_count i rest =
    let level = put_is i in
    ap (λ (f : Code → Code). count_of (f rest)) level.1 ∙ step_count level.0 rest ∙ sym (ap (λ (f : Code → Code). count_of (f End) + count_of rest) level.1)
