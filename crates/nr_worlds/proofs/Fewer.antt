-- Numbers that are taken off, and tokens that are added.
use Rattle.std.proofs.Common.{◌≡◌, ℕ, ◌+◌, ◌-◌, ◌<◌, ◌≤◌, false, List, ◌∷◌, length, arith}
use Rattle.std.specs.Prelude.{◌==◌}
use Rattle.std.proofs.lemmas.Bool.Decides.{nat_tests}
use Rattle.std.proofs.lemmas.List.Sums.{sum_by-cons}
use Rattle.nr_records.specs.declared.receipt.Receipt.{Receipt}
use Rattle.nr_state.specs.Flat.{inputs_of}
use Rattle.nr_worlds.specs.Tests.{inputs_count}

pub fewer_left : (left len rest : ℕ) → len ≤ left → ((left - len) == rest) ≡ (left == (len + rest))
fewer_left left len rest h = grind (arith, nat_tests)

pub too_few : (left len rest : ℕ) → left < len → false ≡ (left == (len + rest))
too_few left len rest h = grind (arith, nat_tests)

pub one_more_count : (r : Receipt) (rs : List Receipt) → inputs_count (r ∷ rs) ≡ length (inputs_of r.body) + inputs_count rs
one_more_count r rs = sum_by-cons (λ (q : Receipt). length (inputs_of q.body)) r rs
