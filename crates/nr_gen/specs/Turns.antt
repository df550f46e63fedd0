-- What the numbers below a bound give one after another, from 0 on. This project's own.
use Rattle.std.specs.Prelude.{ℕ, zero, suc, List, [], ◌∷◌, ◌++◌}

-- their lists, one behind another
unfoldable pub joined_below : {X : Type 0} → ℕ → (ℕ → List X) → List X
joined_below zero f = []
joined_below (suc n) f = joined_below n f ++ f n

-- a value of each, and the state behind them, where each takes the state that the one before it left
unfoldable pub in_turn : {S X : Type 0} → ℕ → (ℕ → S → X × S) → S → List X × S
in_turn zero f s = ([], s)
in_turn (suc n) f s =
    let before = in_turn n f s in
    let one = f n before.1 in
    (before.0 ++ one.0 ∷ [], one.1)
