-- The goals of `owners::accounts_of` that no tactic closes.
use Rattle.std.proofs.Common.{◌≡◌, ◌-◌, ◌∷◌, drop, ap, sym, ◌∙◌, arith}
use Rattle.std.specs.Prelude.{◌||◌}
use Rattle.nr_blocks.specs.Genesis.{is_account}
use Rattle.nr_blocks.specs.Parts.{is_account_of}
use Rattle.nr_blocks.proofs.Entries.{account_more}
use Rattle.nr_blocks.proofs.Turns.{front_of}
use Rattle.nr_blocks.proofs.owners.accounts_of.Goals as goal

pub loop-left-preserved : goal.loop-left-preserved
loop-left-preserved c =
    let es = c.args.entries.now in
    let n = c.loop-left.left in
    let e = c.index-entries-left.result in
    let front : drop (n - 1) es ≡ e ∷ drop n es = front_of es (n - 1) n e (omega (arith, c.loop-left.invariant.within, c.loop-left-test.true)) (omega (arith, c.loop-left-test.true)) c.index-entries-left.is in
    record {
      within = omega (arith, c.loop-left.invariant.within);
      known = λ q. c.in_ok-add_account.ensures q ∙ ap (λ b. is_account_of q e || b) (c.loop-left.invariant.known q) ∙ account_more e (drop n es) q ∙ ap (λ l. is_account l q) (sym front);
    }
