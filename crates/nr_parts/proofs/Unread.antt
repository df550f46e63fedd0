-- A file whose fields can't all be read.
use Rattle.std.proofs.Common.{◌≡◌, ℕ, List, Ok, Err, ap, sym, ◌∙◌}
use Rattle.nr_bytes.specs.Reading.{Input, ◌>>=◌, end_at}
use Rattle.nr_bytes.specs.Fields.{lifted, all_of}
use Rattle.nr_parts.specs.Files.{part_fault, part_at, part_in}
use Rattle.nr_parts.specs.declared.fault.PartFault.{PartFault}

pub part_stops : (bytes : List ℕ) (s : Input) (e : PartFault) → s ≡ record { left = bytes; at = 0 } → part_at s ≡ Err e → part_in bytes ≡ Err e
unfolding part_in all_of
part_stops bytes s e is h = ap (λ r. r >>= λ v. lifted part_fault (end_at v.1) >>= λ end. Ok v.0) (ap part_at (sym is) ∙ h)
