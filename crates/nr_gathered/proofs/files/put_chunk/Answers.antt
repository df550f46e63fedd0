-- The goals of `files::put_chunk` that no tactic closes.
use Rattle.nr_gathered.proofs.Filed.{joined}
use Rattle.nr_gathered.proofs.files.put_chunk.Goals as goal

pub returns-clause-value : goal.returns-clause-value
returns-clause-value c =
    joined _ _ _ _ _ _ _ _ _ _ _ c.in_ok-put_raw.ensures c.in_ok-write.ensures.appends c.in_ok-write-2.ensures.appends c.in_ok-put_place.ensures.value c.in_ok-put_lists.ensures.value
