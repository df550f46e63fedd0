-- The entries behind one more.
use Rattle.std.proofs.Common.{◌≡◌, ℕ, zero, suc, List, [], ◌∷◌, drop, refl}
use Rattle.nr_columns.specs.declared.entry.Entry.{Entry}

pub drop_suc : (i : ℕ) (es : List Entry) → drop (suc i) es ≡ drop 1 (drop i es)
drop_suc zero es = refl
drop_suc (suc i) [] = refl
drop_suc (suc i) (e ∷ es) = drop_suc i es
