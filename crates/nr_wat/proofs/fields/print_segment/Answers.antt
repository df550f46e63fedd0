-- The goals of `fields::print_segment` that no tactic closes.
use Rattle.std.proofs.Common.{ℕ, List, ◌++◌, string_bytes, ap, ◌∙◌}
use Rattle.std.specs.Prelude.{codes}
use Rattle.std.proofs.lemmas.Result.{on_ok_weaker}
use Rattle.nr_wat.specs.Fields.{data_text, head, segment_field, where_text}
use Rattle.nr_wat.proofs.Joined.{three_parts}
use Rattle.nr_wat.proofs.fields.print_segment.Goals as goal

pub returns : goal.returns
unfolding segment_field
returns c =
    let d = c.args.segment.now in
    on_ok_weaker c.push_data.result
    (λ e. three_parts (string_bytes c.args.text.now) (head (codes "data") c.args.number) (where_text d.memory d.offset)
    (data_text d.bytes) (string_bytes c.push_head.new.text)
    (string_bytes c.push_where.new.text) (string_bytes c.push_data.new.text)
    c.in_ok-push_head.ensures c.in_ok-push_where.ensures
    (e ∙ ap (λ (l : List ℕ). string_bytes c.push_where.new.text ++ data_text l) c.inner.ensures))
    c.push_data.ensures
