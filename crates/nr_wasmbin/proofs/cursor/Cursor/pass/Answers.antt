-- The goals of `cursor::Cursor::pass` that no tactic closes.
use Rattle.nr_wasmbin.proofs.OnFields.{passed}
use Rattle.nr_wasmbin.proofs.cursor.Cursor.pass.Goals as goal

pub returns : goal.returns
returns c = passed c.self.inside.bytes.now c.self.inside.at c.args.self.now c.self.view_is
