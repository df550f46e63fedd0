-- The goals of `counting::hashes_of` that no tactic closes.
use Rattle.std.proofs.Common.{◌≡◌, ◌-◌, ◌∷◌, drop, map, ap, sym, ◌∙◌, arith}
use Rattle.nr_blocks.specs.Genesis.{code_hash_in}
use Rattle.nr_blocks.specs.Parts.{hash_with}
use Rattle.nr_files.specs.Filling.{plain}
use Rattle.nr_blocks.proofs.Turns.{front_of}
use Rattle.nr_files.proofs.Sums.{hash_more}
use Rattle.nr_files.proofs.counting.hashes_of.Goals as goal

pub loop-left-preserved : goal.loop-left-preserved
loop-left-preserved c =
    let es = c.args.entries.now in
    let n = c.loop-left.left in
    let e = c.index-entries-left.result in
    let front : drop (n - 1) es ≡ e ∷ drop n es = front_of es (n - 1) n e (omega (arith, c.loop-left.invariant.within, c.loop-left-test.true)) (omega (arith, c.loop-left-test.true)) c.index-entries-left.is in
    record {
      within = omega (arith, c.loop-left.invariant.within);
      hashed = λ q. c.in_ok-add_hash.ensures q ∙ ap (hash_with (plain e) q) (c.loop-left.invariant.hashed q) ∙ hash_more e (drop n es) q ∙ ap (λ l. code_hash_in (map plain l) q) (sym front);
    }
