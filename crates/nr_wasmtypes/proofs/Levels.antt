-- The tree of a list of instructions, by its first.
use Rattle.std.proofs.Common.{◌≡◌, Option, Vec, Box, Global, rules, ap, ◌∙◌, refl, sym, true}
use Rattle.nr_wasmtypes.specs.Code as tree
use Rattle.nr_wasmtypes.specs.Code.{Code, code_of, put, instr_step}
use Rattle.nr_wasmtypes.proofs.Counts.{put_is}
use Rattle.nr_wasmtypes.specs.declared.instr.ValType.{ValType}
use Rattle.nr_wasmtypes.specs.declared.instr.Plain.{Plain}
use Rattle.nr_wasmtypes.specs.declared.instr.Instr.{Instr, the_lemmas}
use Rattle.nr_wasmtypes.specs.declared.instr.Instr.TheVariants as instr
use Rattle.nr_wasmtypes.specs.declared.instr.Instr.TheOpen.{Instr-F}

plain_put : (p : Plain) (rest : Code) → put (instr.Plain p) rest ≡ tree.Then p rest
plain_put p rest = search (rules, the_lemmas)

block_put : (ty : Option ValType) (body : Box (Vec Instr Global) Global) (rest : Code) → put (instr.Block ty body) rest ≡ tree.Block ty (code_of body.value.items) rest
block_put ty body rest = search (rules, the_lemmas)

loop_put : (ty : Option ValType) (body : Box (Vec Instr Global) Global) (rest : Code) → put (instr.Loop ty body) rest ≡ tree.Loop ty (code_of body.value.items) rest
loop_put ty body rest = search (rules, the_lemmas)

if_put : (ty : Option ValType) (arms : Box (Vec Instr Global × Vec Instr Global) Global) (rest : Code) → put (instr.If ty arms) rest ≡ tree.Choice ty (code_of arms.value.0.items) (code_of arms.value.1.items) rest
if_put ty arms rest = search (rules, the_lemmas)

-- ---- the same of a value that is one of the four
pub put_plain : (i : Instr) (p : Plain) (rest : Code) → i ≡ instr.Plain p → put i rest ≡ tree.Then p rest
put_plain i p rest e = ap (λ (j : Instr). put j rest) e ∙ plain_put p rest

pub put_block : (i : Instr) (ty : Option ValType) (body : Box (Vec Instr Global) Global) (rest : Code) → i ≡ instr.Block ty body → put i rest ≡ tree.Block ty (code_of body.value.items) rest
put_block i ty body rest e = ap (λ (j : Instr). put j rest) e ∙ block_put ty body rest

pub put_loop : (i : Instr) (ty : Option ValType) (body : Box (Vec Instr Global) Global) (rest : Code) → i ≡ instr.Loop ty body → put i rest ≡ tree.Loop ty (code_of body.value.items) rest
put_loop i ty body rest e = ap (λ (j : Instr). put j rest) e ∙ loop_put ty body rest

pub put_if : (i : Instr) (ty : Option ValType) (arms : Box (Vec Instr Global × Vec Instr Global) Global) (rest : Code) → i ≡ instr.If ty arms → put i rest ≡ tree.Choice ty (code_of arms.value.0.items) (code_of arms.value.1.items) rest
put_if i ty arms rest e = ap (λ (j : Instr). put j rest) e ∙ if_put ty arms rest

-- ---- the first of a list
begins_level : (level : Instr-F (Code → Code)) (rest : Code) → tree.begins (instr_step level rest) ≡ true
begins_level (Instr-F.Plain p) rest = refl
begins_level (Instr-F.Block ty body) rest = refl
begins_level (Instr-F.Loop ty body) rest = refl
begins_level (Instr-F.If ty arms) rest = refl

pub begins_put : (i : Instr) (rest : Code) → tree.begins (put i rest) ≡ true
begins_put i rest =
    let level = put_is i in
    ap (λ (f : Code → Code). tree.begins (f rest)) level.1 ∙ begins_level level.0 rest

-- ---- the same, of what a box holds
pub put_block_at : (i : Instr) (ty : Option ValType) (body : Box (Vec Instr Global) Global) (inner : Vec Instr Global) (rest : Code) → i ≡ instr.Block ty body → inner ≡ body.value → put i rest ≡ tree.Block ty (code_of inner.items) rest
put_block_at i ty body inner rest e f = put_block i ty body rest e ∙ ap (λ (v : Vec Instr Global). tree.Block ty (code_of v.items) rest) (sym f)

pub put_loop_at : (i : Instr) (ty : Option ValType) (body : Box (Vec Instr Global) Global) (inner : Vec Instr Global) (rest : Code) → i ≡ instr.Loop ty body → inner ≡ body.value → put i rest ≡ tree.Loop ty (code_of inner.items) rest
put_loop_at i ty body inner rest e f = put_loop i ty body rest e ∙ ap (λ (v : Vec Instr Global). tree.Loop ty (code_of v.items) rest) (sym f)

pub put_if_at : (i : Instr) (ty : Option ValType) (arms : Box (Vec Instr Global × Vec Instr Global) Global) (both : Vec Instr Global × Vec Instr Global) (rest : Code) → i ≡ instr.If ty arms → both ≡ arms.value → put i rest ≡ tree.Choice ty (code_of both.0.items) (code_of both.1.items) rest
put_if_at i ty arms both rest e f = put_if i ty arms rest e ∙ ap (λ (v : Vec Instr Global × Vec Instr Global). tree.Choice ty (code_of v.0.items) (code_of v.1.items) rest) (sym f)
