-- Numbers that are drawn one after another: a linear congruential sequence (Knuth, The Art of Computer Programming,
-- 3.2.1) of 64 bits. The multiplier and the increment are those of Knuth's MMIX.
use Rattle.std.specs.Prelude.{ℕ, ◌+◌, ◌*◌, ◌/◌, ◌%◌, ◌^◌}

-- the number behind x
unfoldable pub next_number : ℕ → ℕ
next_number x = (x * 6364136223846793005 + 1442695040888963407) % 2 ^ 64

-- the draw below a bound that the number x gives, from its bits above the lowest 33
unfoldable pub drawn_of : ℕ → ℕ → ℕ
drawn_of bound x = x / 2 ^ 33 % bound

-- a draw below the bound, and the number behind it
abbrev pub draw : ℕ → ℕ → ℕ × ℕ
draw bound x = let next = next_number x in (drawn_of bound next, next)
