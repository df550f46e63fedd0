-- The goals of `apart::are_ids_apart` that no tactic closes.
use Rattle.std.proofs.Common.{◌≡◌, ℕ, ◌-◌, ◌∷◌, true, drop, ap, sym, subst, ◌∙◌, arith}
use Rattle.std.specs.Prelude.{◌||◌}
use Rattle.std.specs.BTreeSet.{contains}
use Rattle.nr_state.specs.World.{bytes_cmp}
use Rattle.nr_blocks.specs.Apart.{AreValid, are_new, is_new_to}
use Rattle.nr_blocks.specs.Genesis.{is_account}
use Rattle.nr_blocks.specs.Parts.{is_account_of}
use Rattle.nr_blocks.proofs.Ranked.{both, new_alike}
use Rattle.nr_blocks.proofs.Entries.{account_more}
use Rattle.nr_blocks.proofs.Turns.{front_of}
use Rattle.nr_blocks.proofs.apart.are_ids_apart.Goals as goal

pub loop-left-preserved : goal.loop-left-preserved
loop-left-preserved c =
    let es = c.args.entries.now in
    let n = c.loop-left.left in
    let e = c.index-entries-left.result in
    let known = c.loop-left.invariant.known in
    let front : drop (n - 1) es ≡ e ∷ drop n es = front_of es (n - 1) n e (omega (arith, c.loop-left.invariant.within, c.loop-left-test.true)) (omega (arith, c.loop-left-test.true)) c.index-entries-left.is in
    let first : is_new_to (is_account (drop n es)) e ≡ true =
    sym (new_alike (contains bytes_cmp c.loop-left.ids) (is_account (drop n es)) e known) ∙ sym c.in_ok-fresh.ensures.told ∙ c.if-not-fresh.false in
    record {
      within = omega (arith, c.loop-left.invariant.within);
      known = λ q. c.in_ok-fresh.ensures.ids q ∙ ap (λ b. is_account_of q e || b) (known q) ∙ account_more e (drop n es) q ∙ ap (λ l. is_account l q) (sym front);
      valid = subst AreValid (sym front) (c.in_ok-fresh.ensures.valid, c.loop-left.invariant.valid);
      apart = ap are_new front ∙ both (is_new_to (is_account (drop n es)) e) (are_new (drop n es)) first c.loop-left.invariant.apart;
    }

pub returns : goal.returns
returns c = λ _.
    let none : c.loop-left.left ≡ 0 = omega (arith, c.loop-left-test.false) in
    (subst (λ (n : ℕ). AreValid (drop n c.args.entries.now)) none c.loop-left.invariant.valid, subst (λ (n : ℕ). are_new (drop n c.args.entries.now) ≡ true) none c.loop-left.invariant.apart)
