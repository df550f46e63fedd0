-- The entries of a shard, laid one after the other into an empty world, make the world of the genesis.
use Rattle.std.proofs.Common.{◌≡◌, ℕ, Bool, true, false, cond, List, [], ◌∷◌, Option, Some, refl, sym, ap, ◌∙◌}
use Rattle.std.specs.Prelude.{◌||◌, ◌==◌, not, is_some}
use Rattle.std.specs.FinMap.Entries.{find}
use Rattle.std.specs.Ordering.{eq_by_cmp}
use Rattle.std.specs.List.{list_any, list_all}
use Rattle.std.specs.Str.{bytes_eq}
use Rattle.std.proofs.lemmas.Bool.{and_parts}
use mathlib.Core.Bool.{or-true}
use Rattle.nr_ids.specs.Grammar.{is_system}
use Rattle.nr_layout.specs.Layout.{shard_of}
use Rattle.nr_records.specs.declared.account.Account.{Account}
use Rattle.nr_state.specs.View.{StateView, with_world}
use Rattle.nr_state.specs.World.{World, bytes_cmp, no_world, with_account, with_key, with_code_bytes, with_datum}
use Rattle.nr_state.proofs.ValidOwned.{same_id}
use Rattle.nr_blocks.proofs.Entries.{ties_back}
use Rattle.nr_blocks.specs.Filling.{laid, with_entry}
use Rattle.nr_blocks.specs.Genesis.{entries_of, genesis_world, is_account, is_owned, lives_in, owner}
use Rattle.nr_blocks.specs.declared.genesis_entry.GenesisEntry.{GenesisEntry}
use Rattle.nr_blocks.specs.declared.genesis_entry.GenesisEntry.TheVariants as kind

-- ---- entries that are written as they are make the world of the genesis
is_filled : (es : List GenesisEntry) → laid with_entry no_world es ≡ genesis_world es
unfolding with_entry genesis_world
is_filled [] = refl
is_filled (kind.Account id account ∷ es) = ap (λ w. with_account w id account) (is_filled es)
is_filled (kind.Code id code ∷ es) = ap (λ w. with_code_bytes w id code) (is_filled es)
is_filled (kind.Key id key access ∷ es) = ap (λ w. with_key w id key access) (is_filled es)
is_filled (kind.Datum id key value ∷ es) = ap (λ w. with_datum w id key value) (is_filled es)

pub filled_world : (es : List GenesisEntry) (first all : StateView) → first.world ≡ no_world → all ≡ with_world first (laid with_entry first.world es) → all.world ≡ genesis_world es
filled_world es first all none one = ap (λ (s : StateView). s.world) one ∙ ap (λ (w : World). laid with_entry w es) none ∙ is_filled es

-- ---- the entries of a shard have their owners in it
pub account_found : (id : List ℕ) (xs : List (List ℕ × Account)) → list_any (λ a. bytes_eq a.0 id) xs ≡ is_some (find bytes_cmp id xs)
account_found id [] = refl
account_found id (a ∷ xs) = (λ i. ties_back a.0 id i || account_found id xs i) ∙ joined (eq_by_cmp bytes_cmp id a.0) a.1 (find bytes_cmp id xs)
  where
    joined : (b : Bool) (x : Account) (o : Option Account) → (b || is_some o) ≡ is_some (cond b (Some x) o)
    joined true x o = refl
    joined false x o = refl

abbrev pub is_owner : List ℕ → GenesisEntry → Bool
is_owner q e = bytes_eq (owner e) q

-- each owner has an account
abbrev pub AreOwned : List GenesisEntry → Type 0
AreOwned es = (q : List ℕ) → list_any (is_owner q) es ≡ true → is_account es q ≡ true

any_kept : (boundaries : List (List ℕ)) (shard : ℕ) (es : List GenesisEntry) (q : List ℕ) → list_any (is_owner q) (entries_of boundaries shard es) ≡ true
    → ((shard_of boundaries q == shard) ≡ true) × (list_any (is_owner q) es ≡ true)
any_kept boundaries shard [] q h = absurd cc
any_kept boundaries shard (e ∷ es) q h =
    elim (lives_in boundaries shard e) as (λ b. lives_in boundaries shard e ≡ b → list_any (is_owner q) (cond b (e ∷ entries_of boundaries shard es) (entries_of boundaries shard es)) ≡ true → ((shard_of boundaries q == shard) ≡ true) × (list_any (is_owner q) (e ∷ es) ≡ true)) [
      | true ↦ λ t.
          elim (is_owner q e) as (λ b. is_owner q e ≡ b → (b || list_any (is_owner q) (entries_of boundaries shard es)) ≡ true → ((shard_of boundaries q == shard) ≡ true) × ((b || list_any (is_owner q) es) ≡ true)) [
            | true ↦ λ u _. (ap (λ x. shard_of boundaries x == shard) (sym (same_id (owner e) q u)) ∙ t, refl)
            | false ↦ λ u h. any_kept boundaries shard es q h
          ] refl
      | false ↦ λ t h. let x = any_kept boundaries shard es q h in (x.0, ap (λ b. is_owner q e || b) x.1 ∙ or-true (is_owner q e))
    ] refl h

owner_known : (all es : List GenesisEntry) (q : List ℕ) → list_all (is_owned all) es ≡ true → list_any (is_owner q) es ≡ true → is_account all q ≡ true
owner_known all [] q owned h = absurd cc
owner_known all (e ∷ es) q owned h =
    let two = and_parts (is_owned all e) (list_all (is_owned all) es) owned in
    elim (is_owner q e) as (λ b. is_owner q e ≡ b → (b || list_any (is_owner q) es) ≡ true → is_account all q ≡ true) [
      | true ↦ λ t _. ap (is_account all) (sym (same_id (owner e) q t)) ∙ (and_parts (is_account all (owner e)) (not (is_system (owner e))) two.0).0
      | false ↦ λ t h. owner_known all es q two.1 h
    ] refl h

other_kept : (boundaries : List (List ℕ)) (shard : ℕ) (e : GenesisEntry) (es : List GenesisEntry) (q : List ℕ) → ((xs : List GenesisEntry) → is_account (e ∷ xs) q ≡ is_account xs q)
    → is_account (entries_of boundaries shard es) q ≡ true → is_account (entries_of boundaries shard (e ∷ es)) q ≡ true
other_kept boundaries shard e es q other h =
    elim (lives_in boundaries shard e) as (λ b. is_account (cond b (e ∷ entries_of boundaries shard es) (entries_of boundaries shard es)) q ≡ true) [
      | true ↦ other (entries_of boundaries shard es) ∙ h
      | false ↦ h
    ]

account_kept : (boundaries : List (List ℕ)) (shard : ℕ) (es : List GenesisEntry) (q : List ℕ) → (shard_of boundaries q == shard) ≡ true → is_account es q ≡ true → is_account (entries_of boundaries shard es) q ≡ true
account_kept boundaries shard [] q here h = absurd cc
account_kept boundaries shard (kind.Account id account ∷ es) q here h =
    elim (bytes_eq id q) as (λ b. bytes_eq id q ≡ b → (b || is_account es q) ≡ true → is_account (entries_of boundaries shard (kind.Account id account ∷ es)) q ≡ true) [
      | true ↦ λ t _.
          let stays : lives_in boundaries shard (kind.Account id account) ≡ true = ap (λ x. shard_of boundaries x == shard) (same_id id q t) ∙ here in
          ap (λ b. is_account (cond b (kind.Account id account ∷ entries_of boundaries shard es) (entries_of boundaries shard es)) q) stays ∙ ap (λ b. b || is_account (entries_of boundaries shard es) q) t
      | false ↦ λ t h.
          elim (lives_in boundaries shard (kind.Account id account)) as (λ b. is_account (cond b (kind.Account id account ∷ entries_of boundaries shard es) (entries_of boundaries shard es)) q ≡ true) [
            | true ↦ ap (λ b. b || is_account (entries_of boundaries shard es) q) t ∙ account_kept boundaries shard es q here h
            | false ↦ account_kept boundaries shard es q here h
          ]
    ] refl h
account_kept boundaries shard (kind.Code id code ∷ es) q here h = other_kept boundaries shard (kind.Code id code) es q (λ _. refl) (account_kept boundaries shard es q here h)
account_kept boundaries shard (kind.Key id key access ∷ es) q here h = other_kept boundaries shard (kind.Key id key access) es q (λ _. refl) (account_kept boundaries shard es q here h)
account_kept boundaries shard (kind.Datum id key value ∷ es) q here h = other_kept boundaries shard (kind.Datum id key value) es q (λ _. refl) (account_kept boundaries shard es q here h)

pub are_owned : (boundaries : List (List ℕ)) (shard : ℕ) (es : List GenesisEntry) → list_all (is_owned es) es ≡ true → AreOwned (entries_of boundaries shard es)
are_owned boundaries shard es owned q h =
    let kept = any_kept boundaries shard es q h in
    account_kept boundaries shard es q kept.0 (owner_known es es q owned kept.1)
