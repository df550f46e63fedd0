-- Lists for one shard more.
use Rattle.std.proofs.Common.{◌≡◌, ℕ, ◌+◌, List, [], ◌∷◌, ◌++◌, arith}
use Rattle.std.proofs.lemmas.List.FromFn.{map-range_with_len_more}
use Rattle.nr_overlap_tests.specs.Small.{out_to, lists_to}

pub lists_more : (n d : ℕ) (xs : List ℕ) → lists_to n (d + 1) xs ≡ lists_to n d xs ++ out_to n d xs ∷ []
lists_more n d xs = map-range_with_len_more (λ dest. out_to n dest xs) 0 d d (omega arith)
