-- The goals of `counting::add_bytes` that no tactic closes.
use Rattle.std.proofs.Common.{◌≡◌, ℕ, List, ap, ◌∙◌, cond, ◌+◌}
use Rattle.std.specs.Prelude.{unwrap_or}
use Rattle.std.specs.BTreeMap as tree
use Rattle.std.specs.Str.{bytes_eq}
use Rattle.nr_columns.specs.Orders.{bytes_cmp}
use Rattle.nr_entries.proofs.Counts.{usage_written}
use Rattle.nr_entries.proofs.counting.add_bytes.Goals as goal

pub returns : goal.returns
returns c = λ q.
    let old = λ (k : List ℕ). tree.get bytes_cmp c.args.counts.now k in
    let written : c.in_ok-after.after ≡ unwrap_or (old c.in_ok-name.name) 0 + c.args.bytes =
    c.in_ok-after.ensures ∙ ap (λ n. n + c.args.bytes) (c.unwrap_or-before.ensures ∙ ap (λ o. unwrap_or o 0) (c.copied.ensures ∙ c.get.ensures.value)) in
    usage_written old c.in_ok-name.name q _ c.args.bytes _ (c.in_ok-insert.ensures.updates.0 q) written
    ∙ ap (λ k. cond (bytes_eq k q) (unwrap_or (old q) 0 + c.args.bytes) (unwrap_or (old q) 0)) c.in_ok-name.ensures
