-- The goals of `hashes::Hashed::is` that no tactic closes.
use Rattle.std.proofs.Common.{sym, ◌∙◌}
use Rattle.std.specs.Cmp.Lexicographic.{bytes_decides}
use Rattle.nr_trielist.proofs.hashes.Hashed.is.Goals as goal

pub returns : goal.returns
returns c = λ e. sym c.self.view_is ∙ sym c.inner.ensures ∙ (bytes_decides _ _).0 (sym c.eq.ensures ∙ e)
