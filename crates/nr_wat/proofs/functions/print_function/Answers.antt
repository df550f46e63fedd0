-- The goals of `functions::print_function` that no tactic closes.
use Rattle.std.proofs.Common.{ℕ, ◌+◌, ◌++◌, string_bytes, ap, ◌∙◌}
use Rattle.std.specs.Prelude.{codes, slice_get}
use Rattle.std.proofs.lemmas.Result.{on_ok_weaker}
use Rattle.nr_wat.specs.Fields.{body_text, func_field, functions_in, head, use_text}
use Rattle.nr_wat.proofs.Joined.{three_parts}
use Rattle.nr_wat.proofs.functions.print_function.Goals as goal

pub returns : goal.returns
unfolding func_field
returns c =
    let m = c.args.module.now in
    on_ok_weaker c.print_body.result
    (λ e. three_parts (string_bytes c.args.text.now) (head (codes "func") (functions_in m.imports + c.args.number))
    (use_text m.types (slice_get m.funcs c.args.number)) (body_text c.args.body.now)
    (string_bytes c.push_function_head.new.text) (string_bytes c.push_signature.new.text) (string_bytes c.print_body.new.text)
    (c.in_ok-push_function_head.ensures ∙ ap (λ (n : ℕ). string_bytes c.args.text.now ++ head (codes "func") (n + c.args.number)) c.requires)
    c.in_ok-push_signature.ensures e)
    c.print_body.ensures
