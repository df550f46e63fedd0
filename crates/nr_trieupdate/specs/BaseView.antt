-- What the trie shows that waiting changes lie over. This project's own.
use Rattle.std.specs.Prelude.{ℕ, refl}
use Rattle.std.specs.Coded.{Coded, code_by, coded×, coded_ℕ}
use Rattle.nr_store.specs.Contents.{contents_code}
use Rattle.nr_triedef.specs.Root.{Contents}

-- what it holds, and how many nodes its next root hashes at most
pub record BaseView : Type 0 where
  pub contents : Contents
  pub unhashed : ℕ

abbrev pub base_code : Coded BaseView
base_code =
    code_by (Contents × ℕ) (coded× contents_code coded_ℕ) (λ v. (v.contents, v.unhashed))
    (λ p. record { contents = p.0; unhashed = p.1 }) (λ _. refl)
