-- Each link has a taken word and eight places of its own, and lists that lie in its ring at once have places of their own.
use Rattle.std.proofs.Common.{◌≡◌, ℕ, suc, ◌+◌, ◌*◌, ◌%◌, ◌<◌, ◌≤◌, sym, ap, mul-le-mul_right, suc-mul, lt_of_not-le, arith}
use native.Mathlib.Decide.{dec_le}
use Rattle.nr_exchange.specs.Plan.{Plan}
use Rattle.nr_exchange.specs.Places.{way, place, places, taken_word, words}

further : (a b n : ℕ) → a < b → a * n + n ≤ b * n
further a b n h = let m : suc a * n ≤ b * n = mul-le-mul_right n h in omega (arith, suc-mul a n)

not_further : (a b n d e : ℕ) → a * n + d ≡ b * n + e → d < n → a < b → ⊥
not_further a b n d e is lt h = let m = further a b n h in let x : ℕ = a * n in let y : ℕ = b * n in let m' : x + n ≤ y = m in let is' : x + d ≡ y + e = is in omega arith

fronts : (a b n d e : ℕ) → a * n + d ≡ b * n + e → d < n → e < n → Dec (a ≤ b) → Dec (b ≤ a) → a ≡ b
fronts a b n d e is lt lt' (yes h) (yes k) = omega arith
fronts a b n d e is lt lt' (no h) k = absurd (not_further b a n e d (sym is) lt' (lt_of_not-le h))
fronts a b n d e is lt lt' (yes h) (no k) = absurd (not_further a b n d e is lt (lt_of_not-le k))

front : (a b n d e : ℕ) → a * n + d ≡ b * n + e → d < n → e < n → a ≡ b
front a b n d e is lt lt' = fronts a b n d e is lt lt' (dec_le a b) (dec_le b a)

back : (a b n d e : ℕ) → a * n + d ≡ b * n + e → d < n → e < n → d ≡ e
back a b n d e is lt lt' =
    let same : a * n ≡ b * n = ap (λ (k : ℕ). k * n) (front a b n d e is lt lt') in
    let x : ℕ = a * n in let y : ℕ = b * n in let same' : x ≡ y = same in let is' : x + d ≡ y + e = is in omega arith

below : (a b n d : ℕ) → a < b → d < n → a * n + d < b * n
below a b n d h lt = let m = further a b n h in let x : ℕ = a * n in let y : ℕ = b * n in let m' : x + n ≤ y = m in let g : x + d < y = omega arith in g

in_ring : (n : ℕ) → n % 8 < 8
in_ring n = omega arith

-- two lists of one ring with the same place
pub one_place : (t n n' : ℕ) → n % 8 ≡ n' % 8 → t ≤ n → n < t + 8 → t ≤ n' → n' < t + 8 → n ≡ n'
one_place t n n' is a b c d = omega arith

pub next_round : (n : ℕ) → (n + 8) % 8 ≡ n % 8
next_round n = omega arith

module _ {L : Type 0} (p : Plan L) where
  same_way : (s d s' d' : ℕ) → d < p.shards → d' < p.shards → way p s d ≡ way p s' d' → (s ≡ s') × (d ≡ d')
  same_way s d s' d' lt lt' is = (front s s' p.shards d d' is lt lt', back s s' p.shards d d' is lt lt')

  pub same_place : (s d n s' d' n' : ℕ) → d < p.shards → d' < p.shards → place p s d n ≡ place p s' d' n' → (s ≡ s') × (d ≡ d') × (n % 8 ≡ n' % 8)
  same_place s d n s' d' n' lt lt' is =
      let link = same_way s d s' d' lt lt' (front (way p s d) (way p s' d') 8 (n % 8) (n' % 8) is (in_ring n) (in_ring n')) in
      (link.0, link.1, back (way p s d) (way p s' d') 8 (n % 8) (n' % 8) is (in_ring n) (in_ring n'))

  pub place_below : (s d n : ℕ) → s < p.shards → d < p.shards → place p s d n < places p
  place_below s d n lts ltd = below (way p s d) (p.shards * p.shards) 8 (n % 8) (below s p.shards p.shards d lts ltd) (in_ring n)

  pub same_word : (s d s' d' : ℕ) → d < p.shards → d' < p.shards → taken_word p s d ≡ taken_word p s' d' → (s ≡ s') × (d ≡ d')
  same_word s d s' d' lt lt' is =
      let a : ℕ = way p s d in let b : ℕ = way p s' d' in let is' : p.shards + a ≡ p.shards + b = is in let e : a ≡ b = omega arith in same_way s d s' d' lt lt' e

  pub word_above : (s d j : ℕ) → j < p.shards → taken_word p s d ≡ j → ⊥
  word_above s d j lt is = let a : ℕ = way p s d in let is' : p.shards + a ≡ j = is in omega arith

  pub word_below : (s d : ℕ) → s < p.shards → d < p.shards → taken_word p s d < words p
  word_below s d lts ltd = let e = below s p.shards p.shards d lts ltd in let a : ℕ = way p s d in let b : ℕ = p.shards * p.shards in let e' : a < b = e in let g : p.shards + a < p.shards + b = omega arith in g

  pub published_below : (s : ℕ) → s < p.shards → s < words p
  published_below s lt = let b : ℕ = p.shards * p.shards in let g : s < p.shards + b = omega arith in g
