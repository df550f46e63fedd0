-- The tokens for gas.
use Rattle.std.proofs.Common.{ℕ, ◌*◌, ◌^◌, ◌<◌, ◌≤◌, arith}
use Rattle.std.proofs.lemmas.Nat.{mul-le}

-- two numbers of 64 bits
pub paid_small : (gas price : ℕ) → gas < 2 ^ 64 → price < 2 ^ 64 → gas * price < 2 ^ 128
paid_small gas price h k =
    let le : gas * price ≤ 18446744073709551615 * 18446744073709551615 = mul-le gas price 18446744073709551615 18446744073709551615 (omega (arith, h)) (omega (arith, k)) in
    omega (arith, le)
