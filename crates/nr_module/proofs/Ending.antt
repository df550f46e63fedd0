-- From the end of a plan to the answer of the top call: the line that tells it was written, or a front of it, or memory
-- didn't suffice for it.
use Rattle.std.proofs.Common.{ℕ, List, Option, Result, Ok, Err, IfOk, sym, subst}
use Rattle.std.specs.Prelude.{string_bytes}
use Rattle.std.specs.declared.alloc.AllocError.{AllocError}
use Rattle.nr_shell.specs.Answers.{Comes}
use Rattle.nr_shell.specs.Plans.{Plan}
use Rattle.nr_module.specs.Answers.{Serves, TellsEnd, Told}
use Rattle.nr_module.specs.Plans.{Due}
use Rattle.nr_module.specs.declared.status.Status.{Status}
use Rattle.nr_module.specs.declared.status.Status.TheVariants.{Sound, Unfit, Faulty, Usage, Config, ReadFault, WriteFault}
use Rattle.nr_module.specs.declared.status.Status.TheVariants.{NoMemory}
use Rattle.nr_module.specs.declared.telling.Line.{Line}
use Rattle.nr_module.specs.declared.verdict.Rating.{Rating}

module _ (plan : Plan Due Status) (held : List ℕ → Option (List ℕ)) (asked asks : List (List ℕ)) (took takes : Option (List ℕ)) where
  pub told_end : (end : Plan Due Status) (line : Result Line AllocError) (status : Status) → Comes held asked asks plan end → IfOk line (λ l. TellsEnd end (string_bytes l.text) l.rating) → Told line status took takes
      → Serves status plan held asked asks took takes
  told_end end (Ok l) Sound comes tells told =
      record { end = end; line = string_bytes l.text; comes = comes; tells = subst (λ (r : Rating). TellsEnd end (string_bytes l.text) r) told.0 tells; grew = told.1 }
  told_end end (Ok l) Unfit comes tells told =
      record { end = end; line = string_bytes l.text; comes = comes; tells = subst (λ (r : Rating). TellsEnd end (string_bytes l.text) r) told.0 tells; grew = told.1 }
  told_end end (Ok l) Faulty comes tells told =
      record { end = end; line = string_bytes l.text; comes = comes; tells = subst (λ (r : Rating). TellsEnd end (string_bytes l.text) r) told.0 tells; grew = told.1 }
  told_end end (Ok l) WriteFault comes tells told =
      record { end = end; line = string_bytes l.text; rated_as = l.rating; comes = comes; tells = tells; grew = told }
  told_end end (Ok l) Usage comes tells told = absurd told
  told_end end (Ok l) (Config kind entry) comes tells told = absurd told
  told_end end (Ok l) ReadFault comes tells told = absurd told
  told_end end (Ok l) NoMemory comes tells told = absurd told
  told_end end (Err fault) status comes tells told =
      subst (λ (s : Status). Serves s plan held asked asks took takes) (sym told.0) (record { rest = end; comes = comes }, told.1)
