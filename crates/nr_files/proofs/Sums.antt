-- What is counted of each account, from the last entry to the first.
use Rattle.std.proofs.Common.{◌≡◌, ℕ, ◌+◌, ◌<◌, Bool, true, false, cond, List, ◌∷◌, [], ◌++◌, append_assoc, length, take, map, get_or, refl, ap, sym, ◌∙◌, arith}
use Rattle.std.specs.Str.{bytes_eq}
use Rattle.std.proofs.lemmas.List.{append-nil, map-append, take_more}
use Rattle.std.proofs.lemmas.List.Concat.{flat_map-append}
use Rattle.std.specs.List.{flat_map}
use Rattle.std.proofs.lemmas.List.Sums.{sum_by-cons}
use Rattle.nr_config.specs.Config.{Config}
use Rattle.nr_ids.specs.declared.key.Hash32.{Hash32}
use Rattle.nr_blocks.specs.Genesis.{code_hash_in, entry_usage, owner, usage_if_owned, usage_in}
use Rattle.nr_blocks.specs.GenesisFiles.{entry_bytes}
use Rattle.nr_blocks.specs.Parts.{hash_with}
use Rattle.nr_blocks.specs.declared.genesis_entry.GenesisEntry.{GenesisEntry}
use Rattle.nr_json.specs.declared.genesis.StatedEntry.{StatedEntry}
use Rattle.nr_json.specs.declared.genesis.StatedEntry.TheVariants.{Account, Code, Key, Datum}
use Rattle.nr_files.specs.Filling.{filled_entries, filled_entry, plain, usage_with}

-- ---- one entry more
pub usage_more : (c : Config) (e : StatedEntry) (es : List StatedEntry) (q : List ℕ) → usage_with c (plain e) q (usage_in c (map plain es) q) ≡ usage_in c (map plain (e ∷ es)) q
usage_more c e es q = split (bytes_eq (owner (plain e)) q) ∙ sym (sum_by-cons (usage_if_owned c q) (plain e) (map plain es))
  where
    split : (b : Bool) → cond b (usage_in c (map plain es) q + entry_usage c (plain e)) (usage_in c (map plain es) q) ≡ cond b (entry_usage c (plain e)) 0 + usage_in c (map plain es) q
    split true = omega arith
    split false = omega arith

pub hash_more : (e : StatedEntry) (es : List StatedEntry) (q : List ℕ) → hash_with (plain e) q (code_hash_in (map plain es) q) ≡ code_hash_in (map plain (e ∷ es)) q
hash_more (Account id account) es q = refl
hash_more (Code id code) es q = refl
hash_more (Key id key access) es q = refl
hash_more (Datum id key value) es q = refl

-- ---- what is written
pub written_more : (f : StatedEntry → GenesisEntry) (es : List StatedEntry) (n : ℕ) (e : StatedEntry) (old mid new : List ℕ) → n < length es → e ≡ get_or es n e
    → mid ≡ old ++ flat_map entry_bytes (map f (take n es)) → new ≡ mid ++ entry_bytes (f e) → new ≡ old ++ flat_map entry_bytes (map f (take (n + 1) es))
written_more f es n e old mid new h is before now =
    let more : take (n + 1) es ≡ take n es ++ e ∷ [] = take_more es n e h ∙ ap (λ y. take n es ++ y ∷ []) (sym is) in
    let parts : flat_map entry_bytes (map f (take (n + 1) es)) ≡ flat_map entry_bytes (map f (take n es)) ++ entry_bytes (f e) =
    ap (λ l. flat_map entry_bytes (map f l)) more
    ∙ ap (flat_map entry_bytes) (map-append f (take n es) (e ∷ []))
    ∙ flat_map-append entry_bytes (map f (take n es)) (f e ∷ [])
    ∙ ap (λ l. flat_map entry_bytes (map f (take n es)) ++ l) (append-nil (entry_bytes (f e))) in
    now ∙ ap (λ l. l ++ entry_bytes (f e)) before ∙ append_assoc old (flat_map entry_bytes (map f (take n es))) (entry_bytes (f e)) ∙ ap (λ l. old ++ l) (sym parts)

-- what was counted fills all entries
pub filled_by : (c : Config) (es : List StatedEntry) (usage : List ℕ → ℕ) (hash : List ℕ → Hash32) → ((q : List ℕ) → usage q ≡ usage_in c (map plain es) q)
    → ((q : List ℕ) → hash q ≡ code_hash_in (map plain es) q) → map (filled_entry usage hash) es ≡ filled_entries c es
filled_by c es usage hash counted hashed = λ i. map (filled_entry (λ q. counted q i) (λ q. hashed q i)) es
