-- The goals of `entry_checks::check_trie_keys` that no tactic closes.
use Rattle.std.proofs.Common.{sym, ◌∙◌, arith}
use Rattle.std.specs.Prelude.{◌||◌}
use Rattle.std.specs.Str.{bytes_eq}
use Rattle.nr_blocks.specs.Genesis.{trie_key}
use Rattle.nr_blocks.specs.Judging.{is_first}
use Rattle.nr_blocks.proofs.Entries.{is_new, is_repeated, seen_more}
use Rattle.nr_blocks.proofs.Turns.{any_more, each_goes_on, each_stops}
use Rattle.nr_blocks.proofs.entry_checks.check_trie_keys.Goals as goal

pub returns-then-not-fresh : goal.returns-then-not-fresh
returns-then-not-fresh c =
    let es = c.args.entries.now in
    let n = c.loop-index.index in
    let e = c.index-entries-index.result in
    λ other. each_stops (is_first es) es n e _ (omega arith) c.index-entries-index.is
    (is_repeated es n e c.in_ok-key.key _ _ c.if-not-fresh.true c.in_ok-fresh.ensures.added (c.loop-index.invariant.seen c.in_ok-key.key) c.in_ok-key.ensures)
    c.loop-index.invariant.left

pub loop-index-preserved : goal.loop-index-preserved
loop-index-preserved c =
    let es = c.args.entries.now in
    let n = c.loop-index.index in
    let e = c.index-entries-index.result in
    record {
      left = each_goes_on (is_first es) es n e (omega arith) c.index-entries-index.is
          (is_new es n e c.in_ok-key.key _ _ c.if-not-fresh.false c.in_ok-fresh.ensures.added (c.loop-index.invariant.seen c.in_ok-key.key) c.in_ok-key.ensures)
          c.loop-index.invariant.left;
      seen = λ q. c.in_ok-fresh.ensures.updates.0 q
          ∙ seen_more c.in_ok-key.key q _
          ∙ (λ i. bytes_eq q (c.in_ok-key.ensures i) || c.loop-index.invariant.seen q i)
          ∙ sym (any_more (bytes_eq q) trie_key es n e (omega arith) c.index-entries-index.is);
    }
