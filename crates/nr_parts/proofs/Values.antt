-- What holds of each value of a map holds of the values of its trie's nodes; and values with one hash that agree.
use Rattle.std.proofs.Common.{◌≡◌, ◌==◌, ◌+◌, ℕ, zero, suc, Bool, true, false, cond, List, [], ◌∷◌, ◌++◌, Option, Some, None, refl, ap, sym, ◌∙◌}
use Rattle.std.specs.Prelude.{is_some}
use Rattle.std.specs.List.{AllByRecursion, flat_map}
use Rattle.std.specs.Ordering.{is_eq}
use Rattle.std.specs.FinMap.{empty, entries, get, insert, get-empty, get-insert}
use Rattle.std.specs.Cmp.Lexicographic.{nat_list_cmp_total}
use Rattle.std.proofs.lemmas.Map.Text.{is_eq-slice_cmp}
use Rattle.std.proofs.lemmas.Slice.Eq.{bytes_eq-Decides}
use Rattle.nr_bytes.proofs.Basics.{all_both}
use Rattle.sha2.specs.Sha256.{sha256}
use Rattle.nr_triedef.specs.Root.{Contents, Paths, paths, depth, front, value_here, under, sixteen}
use Rattle.nr_triedef.specs.declared.hash.Summary.{Summary}
use Rattle.nr_store.specs.Tries.{cut}
use Rattle.nr_store.proofs.Held.{R}
use Rattle.nr_trielist.specs.Forest.{Stood, Forest, bare, tree, entry_here, fronted, rows, forest, forest_of}
use Rattle.nr_columns.specs.declared.entry.Entry.{Entry}
use Rattle.nr_walk.specs.Texts.{texts_of}
use Rattle.nr_walk.specs.Tries.{Agrees, IsOwn}
use Rattle.nr_walk.proofs.Placing.{values_behind}
use Rattle.nr_parts.specs.Offsets.{owned, placed, has, entry_list, entry_in, part_of_entries}
use Rattle.nr_parts.specs.declared.part.Part.{Part}
use Rattle.nr_parts.specs.declared.share.Share.{Share}

-- ---- a text that is held alone
pub same_key : (k : List ℕ) → is_eq (R k k) ≡ true
same_key k = is_eq-slice_cmp k k ∙ (bytes_eq-Decides k k).1 refl

with_alone : (m : Contents) (h text : List ℕ) → get m h ≡ None → get (cond (is_some (get m h)) m (insert m h text)) h ≡ Some text
with_alone m h text none =
    ap (λ (o : Option (List ℕ)). get (cond (is_some o) m (insert m h text)) h) none
    ∙ get-insert nat_list_cmp_total m h text h
    ∙ ap (λ b. cond b (Some text) (get m h)) (same_key h)

alone : (text : List ℕ) → get (texts_of (text ∷ [])) (sha256 text) ≡ Some text
unfolding texts_of
alone text = with_alone empty (sha256 text) text (get-empty R (sha256 text))

-- values with one hash are the same
abbrev pub IsSame : List ℕ → List ℕ → Type 0
IsSame value own = sha256 value ≡ sha256 own → value ≡ own

same_alone : (value own : List ℕ) → IsOwn (texts_of (value ∷ [])) own → IsSame value own
same_alone value own is e = is value (ap (get (texts_of (value ∷ []))) (sym e) ∙ alone value)

abbrev AreSame : List Entry → List ℕ → Type 0
AreSame es own = AllByRecursion (λ (e : Entry). IsSame e.value own) es

each_alone : (value : List ℕ) (ps : Paths) → AllByRecursion (λ (p : List ℕ × List ℕ). IsOwn (texts_of (value ∷ [])) p.1) ps → AllByRecursion (λ (p : List ℕ × List ℕ). IsSame value p.1) ps
each_alone value [] h = tt
each_alone value (p ∷ ps) h = (same_alone value p.1 h.0, each_alone value ps h.1)

none_same : (ps : Paths) → AllByRecursion (λ (p : List ℕ × List ℕ). AreSame [] p.1) ps
none_same [] = tt
none_same (p ∷ ps) = (tt, none_same ps)

more_same : (e : Entry) (es : List Entry) (ps : Paths) → AllByRecursion (λ (p : List ℕ × List ℕ). IsSame e.value p.1) ps → AllByRecursion (λ (p : List ℕ × List ℕ). AreSame es p.1) ps → AllByRecursion (λ (p : List ℕ × List ℕ). AreSame (e ∷ es) p.1) ps
more_same e es [] a b = tt
more_same e es (p ∷ ps) a b = ((a.0, b.0), more_same e es ps a.1 b.1)

all_same : (es : List Entry) (ps : Paths) → AllByRecursion (λ (e : Entry). Agrees (texts_of (e.value ∷ [])) ps) es → AllByRecursion (λ (p : List ℕ × List ℕ). AreSame es p.1) ps
all_same [] ps h = none_same ps
all_same (e ∷ es) ps h = more_same e es ps (each_alone e.value ps h.0.values) (all_same es ps h.1)

-- ---- the values of the nodes
abbrev HasValue : (List ℕ → Type 0) → Option (List ℕ × List ℕ) → Type 0
HasValue V None = Unit {0}
HasValue V (Some e) = V e.1

abbrev AllValues : (List ℕ → Type 0) → Forest → Type 0
AllValues V bare = Unit {0}
AllValues V (tree top below beside) = HasValue V top.entry × AllValues V below × AllValues V beside

abbrev AllPaths : (List ℕ → Type 0) → Paths → Type 0
AllPaths V ps = AllByRecursion (λ (p : List ℕ × List ℕ). V p.1) ps

values_under : (V : List ℕ → Type 0) (n : ℕ) (ps : Paths) → AllPaths V ps → AllPaths V (under n ps)
values_under V n [] h = tt
values_under V n (([], v) ∷ ps) h = values_under V n ps h.1
values_under V n ((x ∷ key, v) ∷ ps) h = elim (x == n) as (λ b. AllPaths V (cond b ((key, v) ∷ under n ps) (under n ps))) [ true ↦ (h.0, values_under V n ps h.1) | false ↦ values_under V n ps h.1 ]

value_own : (V : List ℕ → Type 0) (here : List ℕ) (ps : Paths) → AllPaths V ps → HasValue V (entry_here here (value_here ps))
value_own V here [] h = tt
value_own V here (([], v) ∷ ps) h = h.0
value_own V here ((x ∷ key, v) ∷ ps) h = value_own V here ps h.1

fronted_values : (V : List ℕ → Type 0) (place shared : List ℕ) (s : Summary) (top : Stood) (children beside : Forest) → HasValue V top.entry → AllValues V children → AllValues V beside → AllValues V (fronted place shared s top children beside)
fronted_values V place [] s top children beside h a b = (h, a, b)
fronted_values V place (x ∷ xs) s top children beside h a b = (tt, (h, a, tt), b)

row_values : (V : List ℕ → Type 0) (f : ℕ → Forest → Forest) → ((n : ℕ) (others : Forest) → AllValues V others → AllValues V (f n others)) → (ns : List ℕ) → AllValues V (rows f ns)
row_values V f each [] = tt
row_values V f each (n ∷ ns) = each n (rows f ns) (row_values V f each ns)

forest_values : (V : List ℕ → Type 0) (depth : ℕ) (place : List ℕ) (ps : Paths) (beside : Forest) → AllPaths V ps → AllValues V beside → AllValues V (forest depth place ps beside)
unfolding forest
forest_values V depth place [] beside h b = b
forest_values V depth place (p ∷ []) beside h b = (h.0, tt, b)
forest_values V zero place (p ∷ q ∷ ps) beside h b = b
forest_values V (suc depth) place (p ∷ q ∷ ps) beside h b =
    let all = p ∷ q ∷ ps in
    let here = place ++ front all in
    let rest : AllPaths V (cut all) = values_behind V _ all h in
    let each : (n : ℕ) (others : Forest) → AllValues V others → AllValues V (forest depth (here ++ n ∷ []) (under n (cut all)) others) =
    λ n others more. forest_values V depth (here ++ n ∷ []) (under n (cut all)) others (values_under V n (cut all) rest) more in
    fronted_values V place (front all) _ _ _ beside (value_own V here (cut all) rest) (row_values V (λ n others. forest depth (here ++ n ∷ []) (under n (cut all)) others) each sixteen) b

map_values : (V : List ℕ → Type 0) (es : List (List ℕ × List ℕ)) → AllPaths V (paths es) → AllValues V (forest_of es)
unfolding forest_of
map_values V es h = forest_values V (depth (paths es)) [] (paths es) bare h tt

owned_values : (V : List ℕ → Type 0) (g : Forest) → AllValues V g → AllByRecursion (λ (one : ℕ × Stood). HasValue V one.1.entry) (owned g)
owned_values V bare h = tt
owned_values V (tree top below beside) h = (h.0, all_both (λ (one : ℕ × Stood). HasValue V one.1.entry) (owned below) (owned beside) (owned_values V below h.1) (owned_values V beside h.2))

value_taken : (V : List ℕ → Type 0) (o : Option (List ℕ × List ℕ)) (b : Bool) → HasValue V o → AllByRecursion (λ (f : Entry). V f.value) (cond b (entry_list o) [])
value_taken V None true h = tt
value_taken V (Some e) true h = (h, tt)
value_taken V o false h = tt

placed_values : (V : List ℕ → Type 0) (share : Share) (at : ℕ) (xs : List (ℕ × Stood)) → AllByRecursion (λ (one : ℕ × Stood). HasValue V one.1.entry) xs → AllByRecursion (λ (f : Entry). V f.value) (flat_map (entry_in share) (placed at xs))
placed_values V share at [] h = tt
placed_values V share at (x ∷ xs) h =
    all_both (λ (f : Entry). V f.value) (entry_in share (at, x.1)) (flat_map (entry_in share) (placed (at + x.0) xs)) (value_taken V x.1.entry (has share at) h.0) (placed_values V share (at + x.0) xs h.1)

part_values : (V : List ℕ → Type 0) (es : List (List ℕ × List ℕ)) (count number : ℕ) → AllPaths V (paths es) → AllByRecursion (λ (f : Entry). V f.value) (part_of_entries es count number)
unfolding part_of_entries
part_values V es count number h = placed_values V _ 0 (owned (forest_of es)) (owned_values V (forest_of es) (map_values V es h))

-- the values of a part, and those of the part that a map has
pub own_part : (part : Part) (es : List (List ℕ × List ℕ)) → AllByRecursion (λ (e : Entry). Agrees (texts_of (e.value ∷ [])) (paths es)) part.entries → AllByRecursion (λ (f : Entry). AllByRecursion (λ (e : Entry). IsSame e.value f.value) part.entries) (part_of_entries es part.count part.number)
own_part part es h = part_values (AreSame part.entries) es part.count part.number (all_same part.entries (paths es) h)
