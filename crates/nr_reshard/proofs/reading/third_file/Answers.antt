-- The goals of `reading::third_file` that no tactic closes.
use Rattle.std.proofs.Common.{subst}
use Rattle.nr_bytes.specs.Numbers.{IsBytes}
use Rattle.nr_reshard.proofs.Sound.{third_before, third_found, third_gives, third_only, third_priced, third_whole}
use Rattle.nr_reshard.proofs.reading.third_file.Goals as goal

pub returns-clause-gives : goal.returns-clause-gives
returns-clause-gives c =
    third_gives c.args.shards c.args.bytes.items c.judged.result c.requires
    (subst IsBytes c.as_slice.ensures.value c.bytes_law.ensures)
    c.judged.ensures

pub returns-clause-found : goal.returns-clause-found
returns-clause-found c =
    third_found c.args.shards c.args.bytes.items c.judged.result c.requires
    (subst IsBytes c.as_slice.ensures.value c.bytes_law.ensures)
    c.judged.ensures

pub returns-clause-priced : goal.returns-clause-priced
returns-clause-priced c =
    third_priced c.args.shards c.args.bytes.items c.judged.result c.requires
    (subst IsBytes c.as_slice.ensures.value c.bytes_law.ensures)
    c.judged.ensures

pub returns-clause-whole : goal.returns-clause-whole
returns-clause-whole c =
    third_whole c.args.shards c.args.bytes.items c.judged.result c.requires
    (subst IsBytes c.as_slice.ensures.value c.bytes_law.ensures)
    c.judged.ensures

pub returns-clause-only : goal.returns-clause-only
returns-clause-only c =
    third_only c.args.shards c.args.bytes.items c.judged.result c.requires
    (subst IsBytes c.as_slice.ensures.value c.bytes_law.ensures)
    c.judged.ensures

pub returns-clause-only_before : goal.returns-clause-only_before
returns-clause-only_before c = λ version bs are e.
    third_before c.args.shards c.args.bytes.items c.judged.result c.requires
    (subst IsBytes c.as_slice.ensures.value c.bytes_law.ensures)
    c.judged.ensures version bs e
