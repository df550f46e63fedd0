-- The goals of `apart::add_id` that no tactic closes.
use Rattle.std.proofs.Common.{ap, ◌∙◌}
use Rattle.std.specs.Prelude.{◌||◌}
use Rattle.std.specs.BTreeSet.{contains}
use Rattle.std.specs.Str.{bytes_eq}
use Rattle.nr_state.specs.World.{bytes_cmp}
use Rattle.nr_blocks.proofs.Entries.{named_more}
use Rattle.nr_blocks.proofs.apart.add_id.Goals as goal

pub returns-clause-ids : goal.returns-clause-ids
returns-clause-ids c = λ q.
    c.in_ok-fresh.ensures.updates.0 q
    ∙ named_more c.in_ok-name.name q (contains bytes_cmp c.args.ids.now q)
    ∙ ap (λ k. bytes_eq k q || contains bytes_cmp c.args.ids.now q) c.in_ok-name.ensures
