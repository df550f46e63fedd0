-- The goals of `command::of_help` that no tactic closes.
use Rattle.std.proofs.Common.{◌≡◌, ℕ, List, Option, IfOk, ap, subst}
use Rattle.nr_files.specs.Command.{asked_in, of_help}
use Rattle.nr_files.proofs.command.of_help.Goals as goal

pub returns-in-Some : goal.returns-in-Some
returns-in-Some c = subst (λ (o : Option (List ℕ)). IfOk c.told.result (λ asked. asked_in asked ≡ of_help o)) c.in-Some.ensures c.told.ensures

pub returns-in-None : goal.returns-in-None
returns-in-None c = ap of_help c.in-None.ensures
