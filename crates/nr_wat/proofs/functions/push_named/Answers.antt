-- The goals of `functions::push_named` that no tactic closes.
use Rattle.std.proofs.Common.{◌++◌, Option, string_bytes, ap, ◌∙◌}
use Rattle.std.specs.Prelude.{slice_get}
use Rattle.std.proofs.lemmas.Result.{on_ok_weaker}
use Rattle.nr_wasmtypes.specs.declared.module.FuncType.{FuncType}
use Rattle.nr_wat.specs.Fields.{listed_sig}
use Rattle.nr_wat.specs.Pieces.{type_use}
use Rattle.nr_wat.proofs.Joined.{two_parts}
use Rattle.nr_wat.proofs.functions.push_named.Goals as goal

pub returns : goal.returns
returns c =
    on_ok_weaker c.push_listed.result
    (λ e. two_parts (string_bytes c.args.text.now) (type_use c.args.number) (listed_sig (slice_get c.args.types.now c.args.number))
    (string_bytes c.push_type_use.new.text) (string_bytes c.push_listed.new.text) c.in_ok-push_type_use.ensures
    (e ∙ ap (λ (s : Option FuncType). string_bytes c.push_type_use.new.text ++ listed_sig s) c.type_at.ensures))
    c.push_listed.ensures
