-- The goals of `third::take_third` that no tactic closes.
use Rattle.std.proofs.Common.{◌≡◌, List, ℕ, Ok, Err, subst}
use Rattle.nr_bytes.specs.Numbers.{IsBytes}
use Rattle.nr_records.specs.Reading.{all_of}
use Rattle.nr_reshard.specs.Outlines.{third_outline_at}
use Rattle.nr_reshard.proofs.Outlined.{third_fault}
use Rattle.nr_reshard.proofs.third.take_third.Goals as goal

pub made_third-requires-clause-outlined : goal.made_third-requires-clause-outlined
made_third-requires-clause-outlined c =
    subst (λ (l : List ℕ). all_of third_outline_at l ≡ Ok c.in-Ok.outline) c.as_slice-all.ensures.value c.in-Ok.ensures

pub made_third-requires-clause-bytes : goal.made_third-requires-clause-bytes
made_third-requires-clause-bytes c = subst IsBytes c.as_slice-all.ensures.value c.bytes_law.ensures

pub returns-in-Err : goal.returns-in-Err
returns-in-Err c = λ other.
    third_fault c.args.bytes.items (subst IsBytes c.as_slice-all.ensures.value c.bytes_law.ensures) c.in-Err.fault
    (subst (λ (l : List ℕ). all_of third_outline_at l ≡ Err c.in-Err.fault) c.as_slice-all.ensures.value
    (c.in-Err.ensures other))
