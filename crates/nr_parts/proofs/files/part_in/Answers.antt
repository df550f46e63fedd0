-- The goals of `files::part_in` that no tactic closes.
use Rattle.std.proofs.lemmas.Result.{err_from_is_err_and}
use Rattle.nr_parts.proofs.Unread.{part_stops}
use Rattle.nr_parts.proofs.files.part_in.Goals as goal

pub returns-in_err-part : goal.returns-in_err-part
returns-in_err-part c =
    let p = err_from_is_err_and c.from_residual.result c.from_residual.ensures.1 in
    rw (p.1, p.2) (λ other. part_stops c.args.bytes.now c.new-reader.result c.in_err-part.field-0.0 c.new-reader.ensures (c.in_err-part.ensures other))
