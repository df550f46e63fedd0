-- The goals of `cursor::Cursor::filled` that no tactic closes.
use Rattle.std.proofs.Common.{sym, ap, ◌∙◌, arith}
use Rattle.nr_wasmbin.specs.Fields.{filled}
use Rattle.nr_wasmbin.proofs.OnFields.{filled_more}
use Rattle.nr_wasmbin.proofs.cursor.Cursor.filled.Goals as goal

pub returns : goal.returns
returns c = sym (ap filled (sym c.self.view_is) ∙ filled_more c.self.inside.bytes.now c.self.inside.at (omega (arith, c.self.invariant)))
