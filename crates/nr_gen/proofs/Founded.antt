-- Entries that are sound pass all checks of a genesis file.
use Rattle.std.proofs.Common.{◌≡◌, ℕ, ◌+◌, Bool, true, false, List, [], ◌∷◌, ◌++◌, length, take, map, Result, Ok, Err, refl, sym, ap, ◌∙◌, append_assoc}
use Rattle.std.specs.Prelude.{◌||◌, ◌==◌, if◌then◌else◌}
use Rattle.std.specs.List.{AllByRecursion, list_any, list_all}
use Rattle.std.specs.Str.{bytes_eq}
use Rattle.std.proofs.Math.Seq.{take-append_seam}
use Rattle.std.proofs.lemmas.Bool.{le-leb, and_parts, or_parts}
use Rattle.std.proofs.lemmas.List.{length-append, map-append}
use Rattle.std.proofs.lemmas.List.Folds.{list_any-append}
use Rattle.nr_bytes.specs.Reading.{◌>>=◌}
use Rattle.nr_config.specs.Config.{Config}
use Rattle.nr_state.proofs.ValidOwned.{turned}
use Rattle.nr_state.specs.Repeats.{has_repeat}
use Rattle.nr_blocks.specs.Genesis.{AreSoundEntries, accounts_in, code_hash_in, has_code_hash, has_usage, is_owned, supply, trie_key, usage_in}
use Rattle.nr_blocks.specs.Judging.{bounded_supply, each, each_from, founded, has_owner, is_first, states_hash, states_usage}
use Rattle.nr_blocks.specs.declared.fault.GenesisFault.{GenesisFault}
use Rattle.nr_blocks.specs.declared.fault.GenesisFault.TheVariants.{CodeHash, Duplicate, NoOwner, Supply, Usage}
use Rattle.nr_blocks.specs.declared.genesis_entry.GenesisEntry.{GenesisEntry}
use Rattle.nr_blocks.specs.declared.genesis_entry.GenesisEntry.TheVariants as kind
use Rattle.nr_gen.proofs.Ordered.{all_right, passes_then}

-- ---- each entry passes
owners_pass : (all es : List GenesisEntry) (n : ℕ) → list_all (is_owned all) es ≡ true → each_from (has_owner all) n es ≡ all_right
unfolding each_from
owners_pass all [] n h = refl
owners_pass all (e ∷ es) n h =
    let two = and_parts (is_owned all e) (list_all (is_owned all) es) h in
    passes_then (has_owner all n e) _ (ap (λ b. if b then all_right else Err (NoOwner n)) two.0) (owners_pass all es (n + 1) two.1)

usages_pass : (c : Config) (all es : List GenesisEntry) (n : ℕ) → list_all (has_usage c all) (accounts_in es) ≡ true → each_from (states_usage (usage_in c all)) n es ≡ all_right
unfolding each_from
usages_pass c all [] n h = refl
usages_pass c all (kind.Account id a ∷ es) n h =
    let two = and_parts (a.storage_usage == usage_in c all id) (list_all (has_usage c all) (accounts_in es)) h in
    passes_then (states_usage (usage_in c all) n (kind.Account id a)) _ (ap (λ b. if b then all_right else Err (Usage n a.storage_usage (usage_in c all id))) two.0) (usages_pass c all es (n + 1) two.1)
usages_pass c all (kind.Code id code ∷ es) n h = usages_pass c all es (n + 1) h
usages_pass c all (kind.Key id key access ∷ es) n h = usages_pass c all es (n + 1) h
usages_pass c all (kind.Datum id key value ∷ es) n h = usages_pass c all es (n + 1) h

hashes_pass : (all es : List GenesisEntry) (n : ℕ) → list_all (has_code_hash all) (accounts_in es) ≡ true → each_from (states_hash (code_hash_in all)) n es ≡ all_right
unfolding each_from
hashes_pass all [] n h = refl
hashes_pass all (kind.Account id a ∷ es) n h =
    let two = and_parts (bytes_eq a.code_hash.0 (code_hash_in all id).0) (list_all (has_code_hash all) (accounts_in es)) h in
    passes_then (states_hash (code_hash_in all) n (kind.Account id a)) _ (ap (λ b. if b then all_right else Err (CodeHash n)) two.0) (hashes_pass all es (n + 1) two.1)
hashes_pass all (kind.Code id code ∷ es) n h = hashes_pass all es (n + 1) h
hashes_pass all (kind.Key id key access ∷ es) n h = hashes_pass all es (n + 1) h
hashes_pass all (kind.Datum id key value ∷ es) n h = hashes_pass all es (n + 1) h

-- ---- no trie key stands before it
abbrev knows : List GenesisEntry → GenesisEntry → Bool
knows before e = list_any (bytes_eq (trie_key e)) (map trie_key before)

abbrev AreNew : List GenesisEntry → List GenesisEntry → Type 0
AreNew before es = AllByRecursion (λ e. knows before e ≡ false) es

-- those behind x are new behind it too
still_new : (before : List GenesisEntry) (x : GenesisEntry) (es : List GenesisEntry) → AreNew before es → list_any (bytes_eq (trie_key x)) (map trie_key es) ≡ false → AreNew (before ++ x ∷ []) es
still_new before x [] fresh apart = tt
still_new before x (e ∷ es) fresh apart =
    let two = or_parts (bytes_eq (trie_key x) (trie_key e)) (list_any (bytes_eq (trie_key x)) (map trie_key es)) apart in
    let both : knows (before ++ x ∷ []) e ≡ (knows before e || (bytes_eq (trie_key e) (trie_key x) || false)) = ap (list_any (bytes_eq (trie_key e))) (map-append trie_key before (x ∷ [])) ∙ list_any-append (bytes_eq (trie_key e)) (map trie_key before) (trie_key x ∷ []) in
    let other : bytes_eq (trie_key e) (trie_key x) ≡ false = turned (trie_key e) (trie_key x) ∙ two.0 in
    (both ∙ (λ i. fresh.0 i || (other i || false)), still_new before x es fresh.1 two.1)

keys_pass : (all before es : List GenesisEntry) → all ≡ before ++ es → AreNew before es → has_repeat (map trie_key es) ≡ false → each_from (is_first all) (length before) es ≡ all_right
unfolding each_from
keys_pass all before [] whole fresh apart = refl
keys_pass all before (x ∷ es) whole fresh apart =
    let two = or_parts (list_any (bytes_eq (trie_key x)) (map trie_key es)) (has_repeat (map trie_key es)) apart in
    let front : take (length before) all ≡ before = ap (take (length before)) whole ∙ take-append_seam before (x ∷ es) in
    let here : knows (take (length before) all) x ≡ false = ap (λ l. knows l x) front ∙ fresh.0 in
    let next = keys_pass all (before ++ x ∷ []) es (whole ∙ sym (append_assoc before (x ∷ []) es)) (still_new before x es fresh.1 two.0) two.1 in
    passes_then (is_first all (length before) x) _ (ap (λ b. if b then Err (Duplicate (length before)) else all_right) here)
    (ap (λ n. each_from (is_first all) n es) (sym (length-append before (x ∷ []))) ∙ next)

none_before : (es : List GenesisEntry) → AreNew [] es
none_before [] = tt
none_before (e ∷ es) = (refl, none_before es)

-- ---- all of them
abbrev pub some : ℕ → Result ℕ GenesisFault
some n = Ok n

then_some : (here : Result (Unit {0}) GenesisFault) (others : Result ℕ GenesisFault) (n : ℕ) → here ≡ all_right → others ≡ some n → (here >>= λ (u : Unit {0}). others) ≡ some n
then_some (Ok u) others n h o = o
then_some (Err e) others n h o = absurd cc

pub sound_is_founded : (c : Config) (es : List GenesisEntry) → AreSoundEntries c es → founded c es ≡ some (supply es)
unfolding founded
sound_is_founded c es sound =
    let tokens : bounded_supply es ≡ some (supply es) = ap (λ b. if b then some (supply es) else Err Supply) (le-leb _ _ sound.bounded) in
    then_some (each (is_first es) es) _ (supply es) (keys_pass es [] es refl (none_before es) sound.apart)
    (then_some (each (has_owner es) es) _ (supply es) (owners_pass es es 0 sound.owned)
    (then_some (each (states_usage (usage_in c es)) es) _ (supply es) (usages_pass c es es 0 sound.usage)
    (ap (λ (r : Result ℕ GenesisFault). r >>= λ tokens. each (states_hash (code_hash_in es)) es >>= λ u. some tokens) tokens
    ∙ then_some (each (states_hash (code_hash_in es)) es) (some (supply es)) (supply es) (hashes_pass es es 0 sound.code_hash) refl)))
