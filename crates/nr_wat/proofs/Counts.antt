-- How many functions are imported, one import after the other.
use Rattle.std.proofs.Common.{◌≡◌, ℕ, ◌+◌, ◌<◌, true, false, List, length, take, get_or}
use Rattle.std.proofs.lemmas.List.Sums.{count_by_more_yes, count_by_more_no}
use Rattle.nr_wasmtypes.specs.declared.module.Import.{Import}
use Rattle.nr_wat.specs.Fields.{functions_in, is_function}

pub one_function : (imports : List Import) (k : ℕ) (d : Import) → k < length imports → is_function (get_or imports k d).kind ≡ true → functions_in (take (k + 1) imports) ≡ functions_in (take k imports) + 1
one_function imports k d lt e = count_by_more_yes (λ (i : Import). is_function i.kind) imports k d lt e

pub no_function : (imports : List Import) (k : ℕ) (d : Import) → k < length imports → is_function (get_or imports k d).kind ≡ false → functions_in (take (k + 1) imports) ≡ functions_in (take k imports)
no_function imports k d lt e = count_by_more_no (λ (i : Import). is_function i.kind) imports k d lt e

pub ruleset steps = (one_function, no_function)
