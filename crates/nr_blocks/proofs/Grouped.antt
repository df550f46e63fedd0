-- Entries that stand behind their accounts: that each has an owner is seen without a set of ids.
use Rattle.std.proofs.Common.{◌≡◌, ℕ, zero, suc, ◌+◌, ◌<◌, Bool, true, false, List, [], ◌∷◌, drop, length, get_or, Some, None, Ok, Err, refl, sym, ap, subst, ◌∙◌}
use Rattle.std.specs.Prelude.{◌&&◌, ◌||◌, ◌==◌, not, if◌then◌else◌}
use Rattle.std.specs.Str.{bytes_eq}
use Rattle.std.proofs.lemmas.Option.{same_Some}
use mathlib.Core.Bool.{or-true}
use Rattle.std.proofs.lemmas.Bool.{and_from}
use Rattle.nr_bytes.proofs.Basics.{none≢some}
use Rattle.nr_ids.specs.Grammar.{is_system}
use Rattle.nr_records.specs.declared.account.Account.{Account}
use Rattle.nr_state.proofs.ValidOwned.{same_id, itself}
use Rattle.nr_blocks.proofs.Turns.{front_of}
use Rattle.nr_blocks.specs.Genesis.{is_account, is_owned}
use Rattle.nr_blocks.specs.Judging.{has_owner}
use Rattle.nr_blocks.specs.Groups.{again, grouped, is_again, known_after}
use Rattle.nr_blocks.specs.declared.fault.GenesisFault.TheVariants.{NoOwner}
use Rattle.nr_blocks.specs.declared.genesis_entry.GenesisEntry.{GenesisEntry}
use Rattle.nr_blocks.specs.declared.genesis_entry.GenesisEntry.TheVariants as kind

-- ---- an account of the list
more : (x : GenesisEntry) (es : List GenesisEntry) (q : List ℕ) → is_account es q ≡ true → is_account (x ∷ es) q ≡ true
more (kind.Account id account) es q h = ap (λ b. bytes_eq id q || b) h ∙ or-true (bytes_eq id q)
more (kind.Code id code) es q h = h
more (kind.Key id key access) es q h = h
more (kind.Datum id key value) es q h = h

later : (n : ℕ) (es : List GenesisEntry) (q : List ℕ) → is_account (drop n es) q ≡ true → is_account es q ≡ true
later zero es q h = h
later (suc n) [] q h = h
later (suc n) (x ∷ es) q h = more x es q (later n es q h)

account_there : (es : List GenesisEntry) (n : ℕ) (id : List ℕ) (account : Account) → n < length es → kind.Account id account ≡ get_or es n (kind.Account id account) → is_account es id ≡ true
account_there es n id account h is =
    let first : is_account (kind.Account id account ∷ drop (n + 1) es) id ≡ true = ap (λ b. b || is_account (drop (n + 1) es) id) (itself id) in
    later n es id (ap (λ l. is_account l id) (front_of es n (n + 1) (kind.Account id account) h refl is) ∙ first)

-- ---- an id that is known to be an account's, and not the system's
abbrev pub is_known : List GenesisEntry → List ℕ → Bool
is_known es id = is_account es id && not (is_system id)

abbrev pub IsKnown : List GenesisEntry → List ℕ → Type 0
IsKnown es known = (length known == 0) ≡ false → is_known es known ≡ true

pub none_known : (es : List GenesisEntry) → IsKnown es []
none_known es h = absurd (let e : true ≡ false = h in cc)

again_known : (es : List GenesisEntry) (id known next : List ℕ) → Some next ≡ again known id → IsKnown es known → (is_known es id ≡ true) × IsKnown es next
again_known es id known next made before = go (length known == 0) (bytes_eq id known) refl refl made
  where
    go : (b t : Bool) → (length known == 0) ≡ b → bytes_eq id known ≡ t → Some next ≡ (if not b && t then Some id else None) → (is_known es id ≡ true) × IsKnown es next
    go true t e f m = absurd (none≢some next (sym m))
    go false false e f m = absurd (none≢some next (sym m))
    go false true e f m =
        let owned : is_known es id ≡ true = subst (λ (q : List ℕ). is_known es q ≡ true) (sym (same_id id known f)) (before e) in
        (owned, λ _. subst (λ (q : List ℕ). is_known es q ≡ true) (sym (same_Some next id m)) owned)

pub known_on : (es : List GenesisEntry) (n : ℕ) (e : GenesisEntry) (known next : List ℕ) → n < length es → e ≡ get_or es n e → Some next ≡ known_after known e → IsKnown es known → (is_owned es e ≡ true) × IsKnown es next
known_on es n (kind.Account id account) known next h is made before = go (is_system id) refl made
  where
    go : (b : Bool) → is_system id ≡ b → Some next ≡ (if b then None else Some id) → (is_known es id ≡ true) × IsKnown es next
    go true t m = absurd (none≢some next (sym m))
    go false t m =
        let owned : is_known es id ≡ true = and_from (is_account es id) (not (is_system id)) (account_there es n id account h is) (ap not t) in
        (owned, λ _. subst (λ (q : List ℕ). is_known es q ≡ true) (sym (same_Some next id m)) owned)
known_on es n (kind.Code id code) known next h is made before = again_known es id known next made before
known_on es n (kind.Key id key access) known next h is made before = again_known es id known next made before
known_on es n (kind.Datum id key value) known next h is made before = again_known es id known next made before

pub owned_passes : (es : List GenesisEntry) (n : ℕ) (e : GenesisEntry) → is_owned es e ≡ true → has_owner es n e ≡ Ok tt
owned_passes es n e is = ap (λ (t : Bool). if t then Ok tt else Err (NoOwner n)) is

-- ---- the entries behind are grouped where all are
again_grouped : (known id next : List ℕ) (es : List GenesisEntry) → Some next ≡ again known id → (is_again known id && grouped known es) ≡ grouped next es
again_grouped known id next es made = go (length known == 0) (bytes_eq id known) refl made
  where
    go : (b t : Bool) → bytes_eq id known ≡ t → Some next ≡ (if not b && t then Some id else None) → ((not b && t) && grouped known es) ≡ grouped next es
    go true t f m = absurd (none≢some next (sym m))
    go false false f m = absurd (none≢some next (sym m))
    go false true f m = ap (λ (q : List ℕ). grouped q es) (sym (same_id id known f) ∙ sym (same_Some next id m))

pub grouped_on : (known next : List ℕ) (e : GenesisEntry) (es : List GenesisEntry) → Some next ≡ known_after known e → grouped known (e ∷ es) ≡ grouped next es
grouped_on known next (kind.Account id account) es made = go (is_system id) made
  where
    go : (b : Bool) → Some next ≡ (if b then None else Some id) → (not b && grouped id es) ≡ grouped next es
    go true m = absurd (none≢some next (sym m))
    go false m = ap (λ (q : List ℕ). grouped q es) (sym (same_Some next id m))
grouped_on known next (kind.Code id code) es made = again_grouped known id next es made
grouped_on known next (kind.Key id key access) es made = again_grouped known id next es made
grouped_on known next (kind.Datum id key value) es made = again_grouped known id next es made
