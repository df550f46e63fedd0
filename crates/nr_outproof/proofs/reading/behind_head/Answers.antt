-- The goals of `reading::behind_head` that no tactic closes.
use Rattle.std.proofs.Common.{Ok, sym, ap, ◌∙◌}
use Rattle.nr_outproof.proofs.TextLines.{path_given, path_refused}
use Rattle.nr_outproof.proofs.reading.behind_head.Goals as goal

pub returns-in-Err : goal.returns-in-Err
returns-in-Err c =
    path_refused c.args.head c.args.bytes.now c.in-Some.line.now c.in-Some.rest.now c.in-Some-2.item c.in-Err.fault c.in-Some.ensures.pieces (sym c.in_ok-item.ensures ∙ c.in-Some-2.is) c.in-Err.ensures

pub returns-in-Ok : goal.returns-in-Ok
returns-in-Ok c =
    path_given c.args.head c.args.bytes.now c.in-Some.line.now c.in-Some.rest.now c.in-Some-2.item c.of.result c.in-Some.ensures.pieces (sym c.in_ok-item.ensures ∙ c.in-Some-2.is)
    (c.in-Ok.ensures ∙ ap (λ path. Ok path) (sym c.of.ensures))
