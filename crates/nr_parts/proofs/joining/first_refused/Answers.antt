-- The goals of `joining::first_refused` that no tactic closes.
use Rattle.std.proofs.Common.{◌≡◌, ℕ, List, Option, subst}
use Rattle.std.specs.Prelude.{IfOk}
use Rattle.nr_parts.specs.Joining.{first_refused}
use Rattle.nr_parts.specs.declared.part.Part.{Part}
use Rattle.nr_parts.proofs.Refused.{refused_fault}
use Rattle.nr_parts.proofs.joining.first_refused.Goals as goal

pub returns-clause-fault : goal.returns-clause-fault
returns-clause-fault c =
    refused_fault c.args.root.now c.args.parts.now c.refused_at.result (subst (λ (ps : List Part). IfOk c.refused_at.result (λ (found : Option ℕ). found ≡ first_refused c.args.root.now 0 ps)) c.inner.ensures c.refused_at.ensures)
