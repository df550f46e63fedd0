-- The goals of `telling::shown_line` that no tactic closes.
use Rattle.std.proofs.Common.{ℕ, List, IfOk, subst}
use Rattle.std.specs.Prelude.{string_bytes}
use Rattle.nr_module.specs.Answers.{TellsShown}
use Rattle.nr_module.specs.declared.telling.Line.{Line}
use Rattle.nr_module.proofs.telling.shown_line.Goals as goal

pub returns : goal.returns
returns c =
    subst (λ (b : List ℕ). IfOk c.bytes_line.result (λ (l : Line). TellsShown c.args.shown.now.view b (string_bytes l.text) l.rating)) c.as_slice.ensures.value c.bytes_line.ensures
