-- A key whose allowance a refund raises.
use Rattle.std.proofs.Common.{◌≡◌, ℕ, List, Option, Some, sym, ap, ◌∙◌}
use Rattle.std.specs.FinMap.{get}
use Rattle.nr_actions.specs.Accounts.{raised, with_raised}
use Rattle.nr_ids.specs.declared.key.PublicKey.{PublicKey}
use Rattle.nr_keys.specs.Changed.{with_allowance, changed}
use Rattle.nr_records.specs.declared.access_key.AccessKey.{AccessKey}
use Rattle.nr_state.specs.Changes.{set_key}
use Rattle.nr_state.specs.View.{StateView, with_world}

-- the key as it is once tokens came back
abbrev raised_key : ℕ → AccessKey → AccessKey
raised_key amount key = record key { permission = raised amount key.permission }

-- of a key that was read, whose allowance alone is another
pub raised_is : (key access : AccessKey) (amount : ℕ) (more : Option ℕ) → access ≡ key → with_allowance more access.permission ≡ raised amount access.permission
    → changed access.nonce more access ≡ raised_key amount key
raised_is key access amount more same is = (λ i. record access { permission = is i }) ∙ ap (raised_key amount) same

abbrev some : AccessKey → Option AccessKey
some key = Some key

same_key : (o : Option AccessKey) (x y : AccessKey) → o ≡ Some x → o ≡ Some y → x ≡ y
same_key o x y e d = same (sym e ∙ d)
  where
    same : some x ≡ some y → x ≡ y
    same e = cc

-- the world once that key was written, as it was told
pub raises : (old new : StateView) (id : List ℕ) (signer_key : PublicKey) (amount : ℕ) (found told : Option AccessKey) (key made : AccessKey)
    → found ≡ get old.world.keys (id, signer_key) → found ≡ Some key → told ≡ Some made → told ≡ Some (raised_key amount key)
    → new ≡ with_world old (set_key old.config old.world id signer_key made)
    → new ≡ with_world old (with_raised old.config old.world id signer_key amount (get old.world.keys (id, signer_key)))
raises old new id signer_key amount found told key made got there read is after =
    after
    ∙ ap (λ (k : AccessKey). with_world old (set_key old.config old.world id signer_key k)) (same_key told made (raised_key amount key) read is)
    ∙ ap (λ (o : Option AccessKey). with_world old (with_raised old.config old.world id signer_key amount o)) (sym there ∙ got)
