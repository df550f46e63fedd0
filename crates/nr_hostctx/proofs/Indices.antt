-- One number more.
use Rattle.std.proofs.Common.{◌≡◌, ℕ, ◌+◌, ◌++◌, [], ◌∷◌, List, arith}
use Rattle.std.proofs.lemmas.List.FromFn.{map-range_with_len_more}
use Rattle.nr_hostctx.specs.Promises.{number_at, numbers_in}

pub one_more : (bytes : List ℕ) (i : ℕ) → numbers_in (i + 1) bytes ≡ numbers_in i bytes ++ number_at bytes i ∷ []
one_more bytes i = map-range_with_len_more (number_at bytes) 0 i i (omega arith)
