-- The goals of `cursor::Cursor::four` that no tactic closes.
use Rattle.std.proofs.Common.{sym, ap, ◌∙◌, arith}
use Rattle.nr_bytes.specs.Reading.{Input}
use Rattle.nr_wasmbin.specs.Fields.{taken}
use Rattle.nr_wasmbin.proofs.OnFields.{taken_is}
use Rattle.nr_wasmbin.proofs.cursor.Cursor.four.Goals as goal

pub returns : goal.returns
returns c = ap (λ (s : Input). taken s.at (4, s)) (sym c.self.view_is) ∙ taken_is c.self.inside.bytes.now c.self.inside.at 4 c.self.invariant (omega arith)
