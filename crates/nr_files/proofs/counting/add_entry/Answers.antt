-- The goals of `counting::add_entry` that no tactic closes.
use Rattle.std.proofs.Common.{ℕ, ◌+◌, List, ◌∙◌, cond}
use Rattle.std.specs.BTreeMap as tree
use Rattle.std.specs.Map.{count_at}
use Rattle.std.specs.Str.{bytes_eq}
use Rattle.nr_state.specs.World.{bytes_cmp}
use Rattle.nr_files.proofs.counting.add_entry.Goals as goal

pub returns : goal.returns
returns c = λ q.
    let old = λ (k : List ℕ). count_at (tree.get bytes_cmp c.args.usages.now) k in
    c.in_ok-add_usage.ensures q ∙ (λ i. cond (bytes_eq (c.owner_of.ensures i) q) (old q + c.in_ok-bytes.ensures i) (old q))
