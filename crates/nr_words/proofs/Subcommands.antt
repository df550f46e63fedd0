-- The subcommand that was found, by its name and its rows.
use Rattle.std.proofs.Common.{◌≡◌, Option, Some, None, option_map, option_and_then, is_some, ap, refl, sym, true≢false}

pub map-map : {A B C : Type 0} (f : B → C) (g : A → B) (o : Option A) → option_map (λ x. f (g x)) o ≡ option_map f (option_map g o)
map-map f g None = refl
map-map f g (Some x) = refl

module _ {A : Type 0} where
  value_or : A → Option A → A
  value_or d None = d
  value_or d (Some x) = x

  pub same : (x y : A) → Some x ≡ Some y → x ≡ y
  unfolding value_or
  same x y e = ap (value_or x) e

module _ {A B C : Type 0} (f : A × B → Option C) where
  pub there : (s : Option (A × B)) (a : A) (b : B) → Some a ≡ option_map (λ p. p.0) s → Some b ≡ option_map (λ p. p.1) s → f (a, b) ≡ option_and_then f s
  there None a b name rows = absurd (true≢false (ap is_some name))
  there (Some p) a b name rows = (λ i. f (same a p.0 name i, same b p.1 rows i))

  pub missing : (s : Option (A × B)) → None ≡ option_map (λ p. p.0) s → None ≡ option_and_then f s
  missing None name = refl
  missing (Some p) name = absurd (true≢false (sym (ap is_some name)))
