-- What a store shows: what it holds, what its checkpoints saw, and how many more it can make. This project's own.
use Rattle.std.specs.Prelude.{ℕ, List, refl}
use Rattle.std.specs.FinMap.{code}
use Rattle.std.specs.Coded.{Coded, code_by, coded×, coded_ℕ, coded_list}
use Rattle.nr_triedef.specs.Root.{Contents}

abbrev pub contents_code : Coded Contents
contents_code = code (coded_list coded_ℕ) (coded_list coded_ℕ)

-- what it holds, what each standing checkpoint saw (the newest first), and how many more can be made
pub record StoreView : Type 0 where
  pub contents : Contents
  pub marks : List Contents
  pub spare : ℕ

abbrev pub store_code : Coded StoreView
store_code =
    code_by (Contents × (List Contents × ℕ)) (coded× contents_code (coded× (coded_list contents_code) coded_ℕ))
    (λ v. (v.contents, (v.marks, v.spare))) (λ p. record { contents = p.0; marks = p.1.0; spare = p.1.1 }) (λ _. refl)
