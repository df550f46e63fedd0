-- The goals of `laws::with_bytes_law` that no tactic closes.
use Rattle.nr_shell.proofs.WithBytes.{leads_with_bytes}
use Rattle.nr_shell.proofs.laws.with_bytes_law.Goals as goal

pub returns : goal.returns
returns g c = λ held name bytes p q told leads. leads_with_bytes held name bytes p q told leads
