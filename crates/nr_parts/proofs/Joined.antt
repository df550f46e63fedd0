-- All parts that are cut out of a map are joined to its entries.
use Rattle.std.proofs.Common.{◌≡◌, ◌≤◌, ◌+◌, ℕ, zero, suc, cond, ◌&&◌, List, [], ◌∷◌, ◌++◌, length, map, Some, None, Result, Ok, Err, refl, ap, sym, ◌∙◌, arith, add-one, eq-eqb}
use Rattle.std.specs.List.{AllByRecursion, flat_map, range_with_len}
use Rattle.std.specs.FinMap.{empty, entries}
use Rattle.std.proofs.lemmas.Slice.Eq.{bytes_eq-Decides}
use Rattle.nr_bytes.specs.Numbers.{IsBytes}
use Rattle.nr_bytes.specs.Reading.{◌>>=◌}
use Rattle.nr_triedef.specs.Root.{Contents, root_of}
use Rattle.nr_columns.specs.declared.entry.Entry.{Entry}
use Rattle.nr_walk.specs.Shown.{IsOf}
use Rattle.nr_walk.specs.Texts.{texts_of}
use Rattle.nr_parts.specs.Offsets.{part_of}
use Rattle.nr_columns.specs.Entries.{pairs_of}
use Rattle.nr_parts.specs.Cutting.{part_cut}
use Rattle.nr_parts.specs.Checking.{same_hash}
use Rattle.nr_parts.specs.Agreeing.{all_cut, AreCutsJoined}
use Rattle.nr_parts.specs.Joining.{first_astray, order_or_fault, each_checked, joined, set_all, whole_hash, joined_or_fault}
use Rattle.nr_parts.specs.declared.part.Part.{Part}
use Rattle.nr_parts.specs.declared.fault.PartFault.{PartFault}
use Rattle.nr_parts.specs.declared.fault.PartFault.TheVariants.{Whole}
use Rattle.nr_parts.proofs.Agreed.{cut_accepted}
use Rattle.nr_parts.proofs.Sorted.{set_map}
use Rattle.nr_parts.proofs.Together.{entries_of, parts_of_map}

abbrev cut_from : Contents → ℕ → ℕ → ℕ → List Part
cut_from m count at n = map (λ number. part_cut (entries m) count number) (range_with_len at n)

abbrev AllAgree : Contents → List Part → Type 0
AllAgree m parts = AllByRecursion (λ (p : Part). IsOf (texts_of p.texts) (root_of m).hash m) parts

length_cut : (m : Contents) (count at n : ℕ) → length (cut_from m count at n) ≡ n
length_cut m count at zero = refl
length_cut m count at (suc n) = ap suc (length_cut m count (at + 1) n)

none_astray : (m : Contents) (count at n : ℕ) → first_astray count at (cut_from m count at n) ≡ None
none_astray m count at zero = refl
none_astray m count at (suc n) =
    (λ i. cond (eq-eqb at at refl i && eq-eqb count count refl i) (first_astray count (suc at) (cut_from m count (at + 1) n)) (Some at))
    ∙ ap (λ k. first_astray count k (cut_from m count (at + 1) n)) (sym (add-one at)) ∙ none_astray m count (at + 1) n

all_pass : (m : Contents) (count at n : ℕ) → 1 ≤ count → count ≤ 10000 → at + n ≤ count → AllAgree m (cut_from m count at n) → each_checked (root_of m).hash (cut_from m count at n) ≡ Ok tt
unfolding each_checked
all_pass m count at zero some most le agree = refl
all_pass m count at (suc n) some most le agree =
    ap (λ r. r >>= λ passed. each_checked (root_of m).hash (cut_from m count (at + 1) n)) (cut_accepted m count at some most (omega arith) agree.0)
    ∙ all_pass m count (at + 1) n some most (omega arith) agree.1

joined_cut : (m : Contents) (count at n : ℕ) → joined (cut_from m count at n) ≡ flat_map (λ k. part_of m count k) (range_with_len at n)
joined_cut m count at zero = refl
joined_cut m count at (suc n) = ap (λ (l : List Entry). part_of m count at ++ l) (joined_cut m count (at + 1) n)

entries_back : (es : List Entry) → entries_of (pairs_of es) ≡ es
entries_back [] = refl
entries_back (e ∷ es) = ap (λ (l : List Entry). e ∷ l) (entries_back es)

some_bytes : (m : Contents) (count n : ℕ) → 1 ≤ n → AllAgree m (cut_from m count 0 n) → AllByRecursion (λ (e : List ℕ × List ℕ). IsBytes e.0) (entries m)
some_bytes m count zero some agree = absurd (omega arith)
some_bytes m count (suc n) some agree = agree.0.bytes

pub cut_joined : (m : Contents) (count : ℕ) → AreCutsJoined m count
unfolding joined_or_fault
cut_joined m count some most agree es is =
    let root = (root_of m).hash in
    let parts = all_cut m count in
    let ordered : first_astray (length parts) 0 parts ≡ None = ap (λ n. first_astray n 0 parts) (length_cut m count 0 count) ∙ none_astray m count 0 count in
    let passed : each_checked root parts ≡ Ok tt = all_pass m count 0 count some most (omega arith) agree in
    let all : joined parts ≡ es = joined_cut m count 0 count ∙ parts_of_map m count (omega arith) (some_bytes m count count some agree) ∙ ap entries_of (sym is) ∙ entries_back es in
    let hash : whole_hash parts ≡ root = ap (λ (l : List Entry). (root_of (set_all empty l)).hash) all ∙ ap (λ (n : Contents). (root_of n).hash) (set_map m es is) in
    ap (λ o. order_or_fault o >>= λ ordered. each_checked root parts >>= λ passed. cond (same_hash (whole_hash parts) root) (Ok (joined parts)) (Err (Whole (whole_hash parts)))) ordered
    ∙ ap (λ r. r >>= λ passed. cond (same_hash (whole_hash parts) root) (Ok (joined parts)) (Err (Whole (whole_hash parts)))) passed
    ∙ ap (λ h. cond (same_hash h root) (Ok (joined parts)) (Err (Whole h))) hash
    ∙ ap (λ b. cond b (Ok (joined parts)) (Err (Whole root))) ((bytes_eq-Decides root.0 root.0).1 refl)
    ∙ ap {B = Result (List Entry) PartFault} (λ (l : List Entry). Ok l) all
