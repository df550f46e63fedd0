-- Where entries stand behind their accounts, what an account states with the entries before the next one is what all say.
use Rattle.std.proofs.Common.{◌≡◌, ℕ, ◌+◌, Bool, true, false, cond, List, [], ◌∷◌, map, length, Result, Ok, Err, refl, sym, ap, ◌∙◌, arith}
use Rattle.std.specs.Prelude.{◌&&◌, ◌||◌, ◌==◌, not, is_some, if◌then◌else◌}
use Rattle.std.specs.List.{list_any}
use Rattle.std.specs.Str.{bytes_eq}
use Rattle.std.proofs.lemmas.Bool.{and_parts, or_parts}
use mathlib.Core.Bool.{or-true, and-false}
use Rattle.nr_bytes.specs.Reading.{◌>>=◌}
use Rattle.nr_config.specs.Config.{Config, account_bytes_entry}
use Rattle.nr_columns.specs.Keys.{account_key}
use Rattle.nr_ids.specs.Grammar.{is_system}
use Rattle.nr_state.specs.Repeats.{has_repeat}
use Rattle.nr_state.proofs.ValidOwned.{itself, same_id, turned}
use Rattle.nr_blocks.proofs.Entries.{usage_more}
use Rattle.nr_blocks.proofs.Filling.{account_found}
use Rattle.nr_blocks.proofs.Founded.{other_account}
use Rattle.nr_blocks.proofs.Sound.{keys_apart}
use Rattle.nr_blocks.specs.Genesis.{accounts_in, entry_usage, is_account, owner, trie_key, usage_in}
use Rattle.nr_blocks.specs.Groups.{LeadsOn, ahead, are_stated, grouped, is_again, lead, states}
use Rattle.nr_blocks.specs.Judging.{each, each_from, is_first, states_usage}
use Rattle.nr_blocks.specs.declared.fault.GenesisFault.{GenesisFault}
use Rattle.nr_blocks.specs.declared.fault.GenesisFault.TheVariants.{Usage}
use Rattle.nr_blocks.specs.declared.genesis_entry.GenesisEntry.{GenesisEntry}
use Rattle.nr_blocks.specs.declared.genesis_entry.GenesisEntry.TheVariants as kind

-- ---- one entry adds to its owner's usage, and to no other's
adds : (c : Config) (e : GenesisEntry) (es : List GenesisEntry) (q : List ℕ) → bytes_eq (owner e) q ≡ true → usage_in c (e ∷ es) q ≡ usage_in c es q + entry_usage c e
adds c e es q t = sym (usage_more c e es q) ∙ ap (λ b. cond b (usage_in c es q + entry_usage c e) (usage_in c es q)) t

leaves : (c : Config) (e : GenesisEntry) (es : List GenesisEntry) (q : List ℕ) → bytes_eq (owner e) q ≡ false → usage_in c (e ∷ es) q ≡ usage_in c es q
leaves c e es q t = sym (usage_more c e es q) ∙ ap (λ b. cond b (usage_in c es q + entry_usage c e) (usage_in c es q)) t

not_again : (id q : List ℕ) → bytes_eq id q ≡ false → is_again id q ≡ false
not_again id q h = ap (λ b. not (length id == 0) && b) (turned q id ∙ h) ∙ and-false (not (length id == 0))

other_id : (known id q : List ℕ) → is_again known id ≡ true → is_again known q ≡ false → bytes_eq id q ≡ false
other_id known id q h k =
    elim (bytes_eq id q) as (λ b. bytes_eq id q ≡ b → b ≡ false) [
      | true ↦ λ t. absurd (let e : true ≡ false = sym h ∙ ap (is_again known) (same_id id q t) ∙ k in cc)
      | false ↦ λ t. refl
    ] refl

-- ---- grouped entries have the accounts among them as owners, and the one before them
other_usage : (c : Config) (known : List ℕ) (es : List GenesisEntry) (q : List ℕ) → grouped known es ≡ true → is_again known q ≡ false → is_account es q ≡ false → usage_in c es q ≡ 0
other_usage c known [] q g k h = refl
other_usage c known (kind.Account id account ∷ es) q g k h =
    let two = or_parts (bytes_eq id q) (is_account es q) h in
    let on = and_parts (not (is_system id)) (grouped id es) g in
    leaves c (kind.Account id account) es q two.0 ∙ other_usage c id es q on.1 (not_again id q two.0) two.1
other_usage c known (kind.Code id code ∷ es) q g k h =
    let on = and_parts (is_again known id) (grouped known es) g in
    leaves c (kind.Code id code) es q (other_id known id q on.0 k) ∙ other_usage c known es q on.1 k h
other_usage c known (kind.Key id key access ∷ es) q g k h =
    let on = and_parts (is_again known id) (grouped known es) g in
    leaves c (kind.Key id key access) es q (other_id known id q on.0 k) ∙ other_usage c known es q on.1 k h
other_usage c known (kind.Datum id key value ∷ es) q g k h =
    let on = and_parts (is_again known id) (grouped known es) g in
    leaves c (kind.Datum id key value) es q (other_id known id q on.0 k) ∙ other_usage c known es q on.1 k h

-- ---- what stands behind an account up to the next one is all that it has
lead_on : (c : Config) (id : List ℕ) (e : GenesisEntry) (es : List GenesisEntry) → is_again id (owner e) ≡ true → usage_in c es id ≡ lead c es → usage_in c (e ∷ es) id ≡ entry_usage c e + lead c es
lead_on c id e es h is = adds c e es id (and_parts (not (length id == 0)) (bytes_eq (owner e) id) h).1 ∙ omega (arith, is)

lead_usage : (c : Config) (id : List ℕ) (es : List GenesisEntry) → grouped id es ≡ true → is_account es id ≡ false → usage_in c es id ≡ lead c es
lead_usage c id [] g h = refl
lead_usage c id (kind.Account i account ∷ es) g h =
    let two = or_parts (bytes_eq i id) (is_account es id) h in
    let on = and_parts (not (is_system i)) (grouped i es) g in
    leaves c (kind.Account i account) es id two.0 ∙ other_usage c i es id on.1 (not_again i id two.0) two.1
lead_usage c id (kind.Code i code ∷ es) g h =
    let on = and_parts (is_again id i) (grouped id es) g in
    lead_on c id (kind.Code i code) es on.0 (lead_usage c id es on.1 h)
lead_usage c id (kind.Key i key access ∷ es) g h =
    let on = and_parts (is_again id i) (grouped id es) g in
    lead_on c id (kind.Key i key access) es on.0 (lead_usage c id es on.1 h)
lead_usage c id (kind.Datum i key value ∷ es) g h =
    let on = and_parts (is_again id i) (grouped id es) g in
    lead_on c id (kind.Datum i key value) es on.0 (lead_usage c id es on.1 h)

-- ---- an entry in front of others that state their bytes
pub leads_on : (c : Config) (e : GenesisEntry) (es : List GenesisEntry) (behind all : ℕ) → all ≡ entry_usage c e + behind → states e all ≡ true → lead c es ≡ behind → are_stated c es ≡ true → LeadsOn c e es (ahead e all)
leads_on c (kind.Account id account) es behind all sum told is stated =
    let same : all ≡ account_bytes_entry c + lead c es = omega (arith, sum, is) in
    (refl, ap (λ (n : ℕ). (account.storage_usage == n) && are_stated c es) (sym same) ∙ ap (λ b. b && are_stated c es) told ∙ stated)
leads_on c (kind.Code id code) es behind all sum told is stated = (omega (arith, sum, is), stated)
leads_on c (kind.Key id key access) es behind all sum told is stated = (omega (arith, sum, is), stated)
leads_on c (kind.Datum id key value) es behind all sum told is stated = (omega (arith, sum, is), stated)

-- ---- the entries from one on, where all say of their accounts what these say
apart_rest : (e : GenesisEntry) (es : List GenesisEntry) → has_repeat (map trie_key (e ∷ es)) ≡ false → has_repeat (map trie_key es) ≡ false
apart_rest e es h = (or_parts (list_any (bytes_eq (trie_key e)) (map trie_key es)) (has_repeat (map trie_key es)) h).1

differ : (es : List GenesisEntry) (id q : List ℕ) → is_account es id ≡ false → is_account es q ≡ true → bytes_eq id q ≡ false
differ es id q gone there =
    elim (bytes_eq id q) as (λ b. bytes_eq id q ≡ b → b ≡ false) [
      | true ↦ λ t. absurd (let e : true ≡ false = sym there ∙ ap (is_account es) (sym (same_id id q t)) ∙ gone in cc)
      | false ↦ λ t. refl
    ] refl

abbrev Says : Config → (List ℕ → ℕ) → List GenesisEntry → Type 0
Says c U es = (q : List ℕ) → is_account es q ≡ true → U q ≡ usage_in c es q

abbrev IsGone : List ℕ → List GenesisEntry → Type 0
IsGone known es = not (length known == 0) ≡ true → is_account es known ≡ false

others_say : (c : Config) (U : List ℕ → ℕ) (known : List ℕ) (e : GenesisEntry) (es : List GenesisEntry) → is_again known (owner e) ≡ true → IsGone known es
    → ((q : List ℕ) → is_account es q ≡ true → U q ≡ usage_in c (e ∷ es) q) → Says c U es
others_say c U known e es h gone says q there =
    let two = and_parts (not (length known == 0)) (bytes_eq (owner e) known) h in
    says q there ∙ leaves c e es q (ap (λ x. bytes_eq x q) (same_id (owner e) known two.1) ∙ differ es known q (gone two.0) there)

-- the answer for an account
abbrev chosen : Bool → GenesisFault → Result (Unit {0}) GenesisFault
chosen t fault = if t then Ok tt else Err fault

abbrev judged : ℕ → ℕ → ℕ → Result (Unit {0}) GenesisFault
judged n stated used = chosen (stated == used) (Usage n stated used)

all_stated : (c : Config) (U : List ℕ → ℕ) (known : List ℕ) (n : ℕ) (es : List GenesisEntry) → grouped known es ≡ true → has_repeat (map trie_key es) ≡ false → IsGone known es → Says c U es → are_stated c es ≡ true → each_from (states_usage U) n es ≡ Ok tt
unfolding each_from
all_stated c U known n [] g apart gone says stated = refl
all_stated c U known n (kind.Account id account ∷ es) g apart gone says stated =
    let on = and_parts (not (is_system id)) (grouped id es) g in
    let two = or_parts (list_any (bytes_eq (account_key id)) (map trie_key es)) (has_repeat (map trie_key es)) apart in
    let last : is_account es id ≡ false = account_found id (accounts_in es) ∙ ap is_some (other_account id es two.0) in
    let its = and_parts (account.storage_usage == (account_bytes_entry c + lead c es)) (are_stated c es) stated in
    let sum : usage_in c es id + account_bytes_entry c ≡ account_bytes_entry c + lead c es = omega (arith, lead_usage c id es on.1 last) in
    let used : U id ≡ account_bytes_entry c + lead c es = says id (ap (λ b. b || is_account es id) (itself id)) ∙ adds c (kind.Account id account) es id (itself id) ∙ sum in
    let passes : states_usage U n (kind.Account id account) ≡ Ok tt =
    ap (judged n account.storage_usage) used ∙ ap (λ t. chosen t (Usage n account.storage_usage (account_bytes_entry c + lead c es))) its.0 in
    ap (λ (r : Result (Unit {0}) GenesisFault). r >>= λ passed. each_from (states_usage U) (n + 1) es) passes
    ∙ all_stated c U id (n + 1) es on.1 two.1 (λ some. last)
    (λ q there. says q (ap (λ b. bytes_eq id q || b) there ∙ or-true (bytes_eq id q)) ∙ leaves c (kind.Account id account) es q (differ es id q last there)) its.1
all_stated c U known n (kind.Code id code ∷ es) g apart gone says stated =
    let on = and_parts (is_again known id) (grouped known es) g in
    all_stated c U known (n + 1) es on.1 (apart_rest (kind.Code id code) es apart) gone (others_say c U known (kind.Code id code) es on.0 gone says) stated
all_stated c U known n (kind.Key id key access ∷ es) g apart gone says stated =
    let on = and_parts (is_again known id) (grouped known es) g in
    all_stated c U known (n + 1) es on.1 (apart_rest (kind.Key id key access) es apart) gone (others_say c U known (kind.Key id key access) es on.0 gone says) stated
all_stated c U known n (kind.Datum id key value ∷ es) g apart gone says stated =
    let on = and_parts (is_again known id) (grouped known es) g in
    all_stated c U known (n + 1) es on.1 (apart_rest (kind.Datum id key value) es apart) gone (others_say c U known (kind.Datum id key value) es on.0 gone says) stated

none_gone : (es : List GenesisEntry) → IsGone [] es
none_gone es h = absurd (let e : false ≡ true = h in cc)

pub usage_passes : (c : Config) (es : List GenesisEntry) → grouped [] es ≡ true → each (is_first es) es ≡ Ok tt → are_stated c es ≡ true → each (states_usage (usage_in c es)) es ≡ Ok tt
usage_passes c es g first stated = all_stated c (usage_in c es) [] 0 es g (keys_apart es [] es refl first).1 (none_gone es) (λ q there. refl) stated
