-- Numbers, tests of numbers and lists of numbers.
use Rattle.std.proofs.Common.{◌≡◌, ◌≢◌, ℕ, zero, suc, ◌+◌, ◌<◌, ◌≤◌, Bool, true, false, cond, ◌∷◌, ◌++◌, refl, sym, ap, ◌∙◌, arith}
use Rattle.std.specs.Prelude.{nat_lt}
use Rattle.std.specs.List.{range_with_len}
use Rattle.std.proofs.lemmas.Bool.Decides.{nat_tests}

pub one_more : (t k a b : ℕ) → t ≢ k → cond (nat_lt t (k + 1)) a b ≡ cond (nat_lt t k) a b
one_more t k a b ne = grind (arith, nat_tests)

pub this_one : (k a b : ℕ) → cond (nat_lt k (k + 1)) a b ≡ a
this_one k a b = grind (arith, nat_tests)

pub all_of : (t k a b : ℕ) → t < k → cond (nat_lt t k) a b ≡ a
all_of t k a b lt = grind (arith, nat_tests)

pub none_of : (t k a b : ℕ) → k ≤ t → cond (nat_lt t k) a b ≡ b
none_of t k a b le = grind (arith, nat_tests)

-- behind a source, or behind the last one at the next height
pub by_next : (b : Bool) (shards done source t : ℕ) → nat_lt (source + 1) shards ≡ b → t < shards → cond (nat_lt t (cond b (source + 1) 0)) (cond b done (done + 1) + 1) (cond b done (done + 1)) ≡ cond (nat_lt t (source + 1)) (done + 1) done
by_next true shards done source t e l = refl
by_next false shards done source t e l = none_of t 0 (done + 1 + 1) (done + 1) (omega arith) ∙ sym (all_of t (source + 1) (done + 1) done (grind (arith, nat_tests)))

-- two ranges, one behind the other
pub range_parts : (a m n : ℕ) → range_with_len a (m + n) ≡ range_with_len a m ++ range_with_len (a + m) n
range_parts a zero n =
    let z : a + 0 ≡ a = omega arith in
    let y : 0 + n ≡ n = omega arith in
    ap (range_with_len a) y ∙ ap (λ (t : ℕ). range_with_len t n) (sym z)
range_parts a (suc m) n =
    let z : (a + 1) + m ≡ a + suc m = omega arith in
    let y : suc m + n ≡ suc (m + n) = omega arith in
    rw y (ap (λ ys. a ∷ ys) (range_parts (a + 1) m n ∙ ap (λ (t : ℕ). range_with_len (a + 1) m ++ range_with_len t n) z))
