-- The goals of `blocks_file::decode_blocks` that no tactic closes.
use Rattle.std.proofs.Common.{◌≡◌, List, ℕ, Ok, Err, subst}
use Rattle.nr_bytes.specs.Numbers.{IsBytes}
use Rattle.nr_records.specs.Reading.{all_of}
use Rattle.nr_blocks.specs.Outlines.{file_outline_at}
use Rattle.nr_blocks.proofs.Outlined.{file_fault}
use Rattle.nr_blocks.proofs.blocks_file.decode_blocks.Goals as goal

pub made_file-requires-clause-outlined : goal.made_file-requires-clause-outlined
made_file-requires-clause-outlined c =
    subst (λ (l : List ℕ). all_of file_outline_at l ≡ Ok c.in-Ok.outline) c.as_slice-all.ensures.value c.in-Ok.ensures

pub made_file-requires-clause-bytes : goal.made_file-requires-clause-bytes
made_file-requires-clause-bytes c = subst IsBytes c.as_slice-all.ensures.value c.bytes_law.ensures

pub returns-in-Err : goal.returns-in-Err
returns-in-Err c = λ other.
    file_fault c.args.bytes.items (subst IsBytes c.as_slice-all.ensures.value c.bytes_law.ensures) c.in-Err.fault
    (subst (λ (l : List ℕ). all_of file_outline_at l ≡ Err c.in-Err.fault) c.as_slice-all.ensures.value
    (c.in-Err.ensures other))
