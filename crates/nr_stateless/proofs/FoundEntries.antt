-- The entries that a walk finds are those of the map that are searched.
use Rattle.std.proofs.Common.{◌≡◌, ◌+◌, ◌*◌, ◌/◌, ◌%◌, ℕ, suc, true, false, cond, List, [], ◌∷◌, ◌++◌, map, refl, sym, ap, subst, ◌∙◌, arith}
use Rattle.std.specs.List.{AllByRecursion, filter}
use Rattle.std.specs.FinMap.{entries}
use Rattle.nr_bytes.specs.Numbers.{IsBytes}
use Rattle.nr_ids.specs.declared.key.Hash32.{Hash32}
use Rattle.nr_triedef.specs.Node.{nibbles}
use Rattle.nr_triedef.specs.Root.{Contents, Paths, paths}
use Rattle.nr_columns.specs.declared.entry.Entry.{Entry}
use Rattle.nr_walk.specs.declared.searched.Searched.{Searched}
use Rattle.nr_walk.specs.declared.walking.Kept.{Kept}
use Rattle.nr_walk.specs.declared.walking.Gain.{Gain}
use Rattle.nr_walk.specs.declared.walking.Gain.TheVariants.{Found, Beside}
use Rattle.nr_walk.specs.Searched.{finds}
use Rattle.nr_walk.specs.Walking.{packed}
use Rattle.nr_walk.specs.Shown.{Shows, IsOf}
use Rattle.nr_remake.specs.Merging.{searched_in, found_in, kept_in, pairs_of, searched_entries, IsKept}
use Rattle.nr_remake.proofs.MergedMarks.{shows_beside}

abbrev Path : Type 0
Path = List ℕ × List ℕ

packed_nibbles : (key : List ℕ) → IsBytes key → packed (nibbles key) ≡ key
packed_nibbles [] h = refl
packed_nibbles (b ∷ key) h =
    let first : 16 * (b / 16 % 16) + b % 16 % 16 ≡ b = omega (arith, h 0) in
    let rest = packed_nibbles key (λ i. h (suc i)) in
    λ i. first i ∷ rest i

none_searched : (searched : List Searched) (ps qs : Paths) → AllByRecursion (λ (p : Path). finds searched p.0 ≡ false) ps → searched_in searched (ps ++ qs) ≡ searched_in searched qs
none_searched searched [] qs h = refl
none_searched searched (p ∷ ps) qs h = ap (λ b. cond b (p ∷ searched_in searched (ps ++ qs)) (searched_in searched (ps ++ qs))) h.0 ∙ none_searched searched ps qs h.1

abbrev packed_pairs : Paths → List Path
packed_pairs ps = map (λ p. (packed p.0, p.1)) ps

found_shown : (searched : List Searched) (all : Paths) (gains : List Gain) (ps : Paths) → Shows searched all gains ps → pairs_of (found_in gains) ≡ packed_pairs (searched_in searched ps)
found_shown searched all [] ps h = sym (ap (λ (qs : Paths). packed_pairs (searched_in searched qs)) h)
found_shown searched all (Found e ∷ gains) ps h =
    let one : ps ≡ (h.adds.path, h.adds.value) ∷ h.others = h.is ∙ ap (λ (qs : Paths). qs ++ h.others) h.adds.is in
    let there : searched_in searched ps ≡ (h.adds.path, h.adds.value) ∷ searched_in searched h.others =
    ap (searched_in searched) one ∙ ap (λ b. cond b ((h.adds.path, h.adds.value) ∷ searched_in searched h.others) (searched_in searched h.others)) h.adds.found in
    ap (λ (x : Entry). (x.key, x.value) ∷ pairs_of (found_in gains)) h.adds.entry_is
    ∙ ap (λ (qs : List Path). (packed h.adds.path, h.adds.value) ∷ qs) (found_shown searched all gains h.others h.more) ∙ sym (ap packed_pairs there)
found_shown searched all (Beside k ∷ gains) ps h =
    found_shown searched all gains h.others h.more ∙ sym (ap packed_pairs (ap (searched_in searched) h.is ∙ none_searched searched h.first h.others h.adds.apart))

entries_packed : (searched : List Searched) (es : List (List ℕ × List ℕ)) → AllByRecursion (λ (e : Path). IsBytes e.0) es → packed_pairs (searched_in searched (paths es)) ≡ filter (λ (e : Path). finds searched (nibbles e.0)) es
entries_packed searched [] h = refl
entries_packed searched (e ∷ es) h =
    elim (finds searched (nibbles e.0)) as (λ b. packed_pairs (cond b ((nibbles e.0, e.1) ∷ searched_in searched (paths es)) (searched_in searched (paths es))) ≡ cond b (e ∷ filter (λ (f : Path). finds searched (nibbles f.0)) es) (filter (λ (f : Path). finds searched (nibbles f.0)) es)) [
      | true ↦
          let first = packed_nibbles e.0 h.0 in
          let rest = entries_packed searched es h.1 in
          λ i. (first i, e.1) ∷ rest i
      | false ↦ entries_packed searched es h.1
    ]

pub parts_shown : (searched : List Searched) (texts : Contents) (root : Hash32) (gains : List Gain) (r : List Kept × List Entry) → r ≡ (kept_in gains, found_in gains)
    → ((m : Contents) → IsOf texts root m → Shows searched (paths (entries m)) gains (paths (entries m))) → (m : Contents) → IsOf texts root m → IsKept searched (paths (entries m)) r.0 × (pairs_of r.1 ≡ searched_entries searched m)
parts_shown searched texts root gains r e h m is =
    let s = h m is in
    let kept : IsKept searched (paths (entries m)) r.0 = subst (λ (ks : List Kept). IsKept searched (paths (entries m)) ks) (sym (ap (λ (x : List Kept × List Entry). x.0) e)) (shows_beside searched (paths (entries m)) gains (paths (entries m)) s) in
    (kept, ap (λ (x : List Kept × List Entry). pairs_of x.1) e ∙ found_shown searched (paths (entries m)) gains (paths (entries m)) s ∙ entries_packed searched (entries m) is.bytes)
