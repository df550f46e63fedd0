-- The goals of `slots::fits` that no tactic closes.
use Rattle.std.proofs.Common.{◌≡◌, cond, true, ℕ, sym, ap, ◌∙◌, arith}
use Rattle.std.specs.Prelude.{is_some}
use Rattle.nr_store.specs.Plain.{slot_at}
use Rattle.nr_store.proofs.Sizes.{is_some-slot}
use Rattle.nr_store.proofs.slots.fits.Goals as goal

pub returns-then-count-eq-MOST_SLOTS-clause-room : goal.returns-then-count-eq-MOST_SLOTS-clause-room
returns-then-count-eq-MOST_SLOTS-clause-room c found =
    let there : is_some (slot_at c.args.slots.now.entries c.args.key.now) ≡ true = is_some-slot c.args.slots.now.entries c.args.key.now ∙ sym c.contains_key.ensures ∙ found in
    let none : cond {A = ℕ} (is_some (slot_at c.args.slots.now.entries c.args.key.now)) 0 1 ≡ 0 = ap (λ b. cond {A = ℕ} b 0 1) there in
    omega (arith, c.len-count.ensures.len)
