-- The goals of `counting::usages_of` that no tactic closes.
use Rattle.std.proofs.Common.{◌≡◌, ◌-◌, ◌∷◌, drop, map, ap, sym, ◌∙◌, arith}
use Rattle.nr_blocks.specs.Genesis.{usage_in}
use Rattle.nr_files.specs.Filling.{plain, usage_with}
use Rattle.nr_blocks.proofs.Turns.{front_of}
use Rattle.nr_files.proofs.Sums.{usage_more}
use Rattle.nr_files.proofs.counting.usages_of.Goals as goal

pub loop-left-preserved : goal.loop-left-preserved
loop-left-preserved c =
    let es = c.args.entries.now in
    let config = c.args.config.now in
    let n = c.loop-left.left in
    let e = c.index-entries-left.result in
    let front : drop (n - 1) es ≡ e ∷ drop n es = front_of es (n - 1) n e (omega (arith, c.loop-left.invariant.within, c.loop-left-test.true)) (omega (arith, c.loop-left-test.true)) c.index-entries-left.is in
    record {
      within = omega (arith, c.loop-left.invariant.within);
      counted = λ q. c.in_ok-add_entry.ensures q
          ∙ ap (usage_with config (plain e) q) (c.loop-left.invariant.counted q)
          ∙ usage_more config e (drop n es) q
          ∙ ap (λ l. usage_in config (map plain l) q) (sym front);
    }
