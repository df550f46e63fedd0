-- The goals of `cursor::Cursor::contents` that no tactic closes.
use Rattle.std.proofs.Common.{sym, ap, ◌∙◌, arith}
use Rattle.nr_wasmbin.specs.Fields.{contents_at}
use Rattle.nr_wasmbin.proofs.OnFields.{contents_is}
use Rattle.nr_wasmbin.proofs.cursor.Cursor.contents.Goals as goal

pub returns-clause-gives : goal.returns-clause-gives
returns-clause-gives c =
    ap (contents_at c.args.size) (sym c.self.view_is) ∙ contents_is c.self.inside.bytes.now c.self.inside.at c.args.size c.self.invariant (omega arith)
