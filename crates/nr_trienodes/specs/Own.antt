-- A list of names in which the oldest nodes have their own ones, held without these. This project's own.
use Rattle.std.specs.Prelude.{ℕ, zero, suc, List, [], ◌∷◌, ◌++◌, Option, Some}
use Rattle.nr_trienodes.specs.declared.names.Names.TheInside.{Inside}

-- from this node on so many, each under its own name
abbrev pub own_names : ℕ → ℕ → List (Option ℕ)
own_names first zero = []
own_names first (suc n) = Some first ∷ own_names (suc first) n

-- the oldest nodes, and the others behind them
abbrev pub names_view : Inside → List (Option ℕ)
names_view a = own_names 0 a.oldest ++ a.young.items
