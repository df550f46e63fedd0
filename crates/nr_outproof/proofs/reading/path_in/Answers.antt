-- The goals of `reading::path_in` that no tactic closes.
use Rattle.std.proofs.Common.{sym, ◌∙◌, arith}
use Rattle.nr_outproof.proofs.TextLines.{line_read, line_refused, read_in_part, read_whole}
use Rattle.nr_outproof.proofs.reading.path_in.Goals as goal

pub returns-in-None : goal.returns-in-None
returns-in-None c = λ _. let l = c.lines in
    line_refused l.number l.path.items l.rest.now c.in-Some.line.now c.in-Some.more.now _ c.in-Some.ensures.pieces (sym c.in_ok-hash.ensures ∙ c.in-None.is) l.invariant.told

pub lines-preserved : goal.lines-preserved
lines-preserved c = let l = c.lines in record {
  told = line_read l.number l.path.items c.push.new.self.items l.rest.now c.in-Some.line.now c.in-Some.more.now c.in-Some-2.hash _ c.in-Some.ensures.pieces (sym c.in_ok-hash.ensures ∙ c.in-Some-2.is)
      c.in_ok-push-in-Some-2.ensures.items l.invariant.told;
  few = omega (arith, l.invariant.few, c.in-Some.ensures.shorter);
}

pub returns-then-is_empty : goal.returns-then-is_empty
returns-then-is_empty c = let l = c.lines in read_whole l.number l.path.items l.rest.now _ c.in_default.ensures.pieces c.if-is_empty.ensures l.invariant.told

pub returns-else-is_empty : goal.returns-else-is_empty
returns-else-is_empty c = λ _. let l = c.lines in read_in_part l.number l.path.items l.rest.now _ c.in_default.ensures.pieces c.if-is_empty.ensures l.invariant.told
