-- Tokens that are added, and whether they are too many.
use Rattle.std.proofs.Common.{◌≡◌, ℕ, ◌+◌, ◌<◌, ◌≤◌, ◌^◌, Bool, false, ◌&&◌, List, [], ◌∷◌, length, Some, None, sym, ap, ◌∙◌, inl, inr, arith}
use Rattle.std.specs.Prelude.{nat_le, sum_by}
use Rattle.std.specs.List.{list_all}
use Rattle.std.proofs.lemmas.Bool.Decides.{nat_tests}
use mathlib.Core.Bool.{and-false}
use Rattle.nr_config.specs.Config.{Config}
use Rattle.nr_records.specs.declared.account.Account.{Account}
use Rattle.nr_records.specs.declared.receipt.Receipt.{Receipt}
use Rattle.nr_state.specs.World.{account_tokens}
use Rattle.nr_worlds.specs.Tests.{Adds, are_bounded, tokens_of}
use Rattle.nr_worlds.specs.Valid.{is_bounded}

too_many : (n : ℕ) → 2 ^ 128 ≤ n → nat_le n (2 ^ 127) ≡ false
too_many n h = grind (arith, nat_tests)

module _ (c : Config) (accounts : List Account) (postponed delayed : List Receipt) where
  abbrev P : Bool
  P = list_all (is_bounded c) postponed

  abbrev D : Bool
  D = list_all (is_bounded c) delayed

  abbrev all : ℕ
  all = tokens_of c accounts postponed delayed

  past : 2 ^ 128 ≤ all → false ≡ are_bounded c accounts postponed delayed
  past h = sym (ap (λ b. P && D && b) (too_many all h) ∙ and-false (P && D))

  pub over_accounts : 2 ^ 128 ≤ sum_by account_tokens accounts → false ≡ are_bounded c accounts postponed delayed
  over_accounts h = past (omega (arith, h))

  pub over_postponed : (own : ℕ) → own ≡ sum_by account_tokens accounts → Adds c own postponed None → false ≡ are_bounded c accounts postponed delayed
  over_postponed own e h = elim h [
    | inl b ↦ sym (ap (λ b. b && D && nat_le all (2 ^ 127)) b)
    | inr t ↦ past (omega (arith, t, e))
  ]

  pub over_delayed : (own kept : ℕ) → own ≡ sum_by account_tokens accounts → Adds c own postponed (Some kept) → Adds c kept delayed None → false ≡ are_bounded c accounts postponed delayed
  over_delayed own kept e first h = elim h [
    | inl b ↦ sym (ap (λ b. P && b && nat_le all (2 ^ 127)) b ∙ ap (λ b. b && nat_le all (2 ^ 127)) (and-false P))
    | inr t ↦ past (omega (arith, t, e, first.1))
  ]

  pub all_tokens : (own kept n : ℕ) → own ≡ sum_by account_tokens accounts → Adds c own postponed (Some kept) → Adds c kept delayed (Some n) → nat_le n (2 ^ 127) ≡ are_bounded c accounts postponed delayed
  all_tokens own kept n e first second =
      let sum : n ≡ all = omega (arith, e, first.1, second.1) in
      ap (λ m. nat_le m (2 ^ 127)) sum ∙ sym (λ i. first.0 i && second.0 i && nat_le all (2 ^ 127))

-- no account is left
pub all_added : (rest accounts : List Account) (sum : ℕ) → length rest < 1 → sum + sum_by account_tokens rest ≡ sum_by account_tokens accounts → sum < 2 ^ 128
    → (sum ≡ sum_by account_tokens accounts) × (sum_by account_tokens accounts < 2 ^ 128)
all_added [] accounts sum none total fits = (omega (arith, total), omega (arith, total, fits))
all_added (a ∷ rest) accounts sum none total fits = absurd (omega (arith, none))
