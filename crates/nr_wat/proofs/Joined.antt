-- Texts that are added one behind the other.
use Rattle.std.proofs.Common.{◌≡◌, ℕ, List, ◌++◌, ap, ◌∙◌, append_assoc}

pub two_parts : (before x y a b : List ℕ) → a ≡ before ++ x → b ≡ a ++ y → b ≡ before ++ (x ++ y)
two_parts before x y a b first second = second ∙ ap (λ (l : List ℕ). l ++ y) first ∙ append_assoc before x y

pub three_parts : (before x y z a b c : List ℕ) → a ≡ before ++ x → b ≡ a ++ y → c ≡ b ++ z → c ≡ before ++ ((x ++ y) ++ z)
three_parts before x y z a b c first second third =
    two_parts before (x ++ y) z b c (two_parts before x y a b first second) third
