-- The first place that passes a test, found by going over the places in order.
use Rattle.std.proofs.Common.{◌≡◌, ◌<◌, ◌+◌, ◌-◌, ℕ, zero, suc, Bool, true, false, Some, None, refl, arith, add-one}
use Rattle.nr_ids.specs.Grammar.{first_below}

pub none_yet : (test : ℕ → Bool) → first_below test 0 ≡ None
unfolding first_below
none_yet test = refl

pub still_none : (test : ℕ → Bool) (n : ℕ) → first_below test n ≡ None → test n ≡ false → first_below test (n + 1) ≡ None
unfolding first_below
still_none test n e f = rw (add-one, e, f) refl

found_here : (test : ℕ → Bool) (n : ℕ) → first_below test n ≡ None → test n ≡ true → first_below test (suc n) ≡ Some n
unfolding first_below
found_here test n e t = rw (e, t) refl

stays_after : (test : ℕ → Bool) (n k i : ℕ) → first_below test n ≡ Some i → first_below test (k + n) ≡ Some i
unfolding first_below
stays_after test n zero i e = let s : 0 + n ≡ n = omega arith in rw s e
stays_after test n (suc k) i e =
    let s : suc k + n ≡ suc (k + n) = omega arith in
    rw (s, stays_after test n k i e) refl

pub found_first : (test : ℕ → Bool) (n m : ℕ) → first_below test n ≡ None → test n ≡ true → n < m → first_below test m ≡ Some n
found_first test n m e t lt =
    let s : m ≡ (m - suc n) + suc n = omega arith in
    rw s (stays_after test (suc n) (m - suc n) n (found_here test n e t))
