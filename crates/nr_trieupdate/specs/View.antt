-- What a store over nodes shows. This project's own.
use Rattle.std.specs.Prelude.{ℕ, List, refl}
use Rattle.std.specs.Coded.{Coded, code_by, coded×, coded_ℕ, coded_list}
use Rattle.nr_store.specs.Contents.{contents_code}
use Rattle.nr_triedef.specs.Root.{Contents}

-- what it holds, what each standing checkpoint saw (the newest first), how many more can be made, and how many nodes
-- a next root hashes at most, now or after going back
pub record TrieView : Type 0 where
  pub contents : Contents
  pub marks : List Contents
  pub spare : ℕ
  pub unhashed : ℕ

abbrev pub trie_code : Coded TrieView
trie_code =
    code_by (Contents × (List Contents × (ℕ × ℕ)))
    (coded× contents_code (coded× (coded_list contents_code) (coded× coded_ℕ coded_ℕ)))
    (λ v. (v.contents, (v.marks, (v.spare, v.unhashed))))
    (λ p. record { contents = p.0; marks = p.1.0; spare = p.1.1.0; unhashed = p.1.1.1 }) (λ _. refl)
