-- Parts that are joined have the entries of each map with the root, if it agrees with them all; and the parts that were cut are joined to what was cut.
use Rattle.std.proofs.Common.{◌≡◌, ◌==◌, ◌<◌, ◌+◌, ℕ, suc, Bool, true, false, cond, List, [], ◌∷◌, ◌++◌, length, map, Option, Some, None, Result, Ok, Err, refl, ap, sym, subst, ◌∙◌, arith, add-one}
use Rattle.std.specs.List.{AllByRecursion, flat_map, range_with_len}
use Rattle.std.specs.FinMap.{entries}
use Rattle.std.proofs.lemmas.Bool.{eqb-true, and_parts}
use Rattle.std.specs.Prelude.{IfOk}
use Rattle.nr_bytes.specs.Answers.{Gives}
use Rattle.nr_bytes.specs.Numbers.{IsBytes}
use Rattle.nr_bytes.specs.Reading.{◌>>=◌}
use Rattle.nr_bytes.proofs.Steps.{bind_ok}
use Rattle.nr_ids.specs.declared.key.Hash32.{Hash32}
use Rattle.nr_triedef.specs.Root.{Contents}
use Rattle.nr_columns.specs.declared.entry.Entry.{Entry}
use Rattle.nr_parts.specs.Offsets.{part_of, part_of_entries}
use Rattle.nr_columns.specs.Entries.{pairs_of}
use Rattle.nr_parts.specs.Checking.{memory_fault, same_hash, checked}
use Rattle.nr_parts.specs.Agreeing.{AgreesWithPart, AreAllOfEach}
use Rattle.nr_parts.specs.Joining.{is_placed, first_astray, order_or_fault, each_checked, joined, whole_hash, joined_or_fault}
use Rattle.nr_parts.specs.declared.part.Part.{Part}
use Rattle.nr_parts.specs.declared.fault.PartFault.{PartFault}
use Rattle.nr_parts.specs.declared.fault.PartFault.TheVariants.{Whole}
use Rattle.nr_parts.proofs.Accepted.{accepted}
use Rattle.nr_parts.proofs.Standing.{map_stands}
use Rattle.nr_parts.proofs.Whole.{parts_pairs}
use Rattle.nr_store.specs.Tries.{CanWalk}
use Rattle.nr_store.proofs.Listed.{walk_whole}
use Rattle.nr_triedef.specs.Root.{paths}

abbrev fine : Result (Unit {0}) PartFault → Type 0
fine r = r ≡ Ok tt

none_astray : (o : Option ℕ) (u : Unit {0}) → order_or_fault o ≡ Ok u → o ≡ None
none_astray None u e = refl
none_astray (Some at) u e = absurd cc

placed_first : (total at : ℕ) (part : Part) (parts : List Part) → first_astray total at (part ∷ parts) ≡ None → (part.number ≡ at) × (part.count ≡ total) × (first_astray total (suc at) parts ≡ None)
placed_first total at part parts e =
    elim (is_placed total at part) as (λ b. is_placed total at part ≡ b → cond b (first_astray total (suc at) parts) (Some at) ≡ None → (part.number ≡ at) × (part.count ≡ total) × (first_astray total (suc at) parts ≡ None)) [
      | true ↦ λ is f. let two = and_parts (part.number == at) (part.count == total) is in (eqb-true part.number at two.0, eqb-true part.count total two.1, f)
      | false ↦ λ is f. absurd cc
    ] refl e

checked_first : (root : Hash32) (part : Part) (parts : List Part) → each_checked root (part ∷ parts) ≡ Ok tt → fine (checked root part) × fine (each_checked root parts)
unfolding each_checked
checked_first root part parts e = let a = bind_ok (checked root part) (λ passed. each_checked root parts) tt e in (a.1, a.2)

-- each part is the map's, so all of them are all of its parts
joined_parts : (root : Hash32) (m : Contents) (total at : ℕ) (parts : List Part) → AllByRecursion (λ (p : Part). AgreesWithPart p root m) parts → first_astray total at parts ≡ None → fine (each_checked root parts) → joined parts ≡ flat_map (λ k. part_of m total k) (range_with_len at (length parts))
joined_parts root m total at [] agree placed passed = refl
joined_parts root m total at (part ∷ parts) agree placed passed =
    let a = placed_first total at part parts placed in
    let b = checked_first root part parts passed in
    let own : part.entries ≡ part_of m total at = accepted root part b.0 m agree.0 ∙ (λ i. part_of m (a.1 i) (a.0 i)) in
    let next : first_astray total (at + 1) parts ≡ None = ap (λ k. first_astray total k parts) (add-one at) ∙ a.2 in
    (λ i. own i ++ joined_parts root m total (at + 1) parts agree.1 next b.1 i)

-- ---- a map's entries as a list of entries
abbrev pub entries_of : List (List ℕ × List ℕ) → List Entry
entries_of es = map (λ (e : List ℕ × List ℕ). record { key = e.0; value = e.1 }) es

pairs_back : (es : List (List ℕ × List ℕ)) → pairs_of (entries_of es) ≡ es
pairs_back [] = refl
pairs_back (e ∷ es) = ap (λ (l : List (List ℕ × List ℕ)). (e.0, e.1) ∷ l) (pairs_back es)

pub parts_of_map : (m : Contents) (count : ℕ) → 0 < count → AllByRecursion (λ (e : List ℕ × List ℕ). IsBytes e.0) (entries m) → flat_map (λ k. part_of m count k) (range_with_len 0 count) ≡ entries_of (entries m)
parts_of_map m count some bytes =
    let walk : CanWalk (paths (entries m)) = walk_whole m (paths (entries m)) refl (map_stands m bytes).small in
    let same = pairs_back (entries m) in
    subst (λ (es : List (List ℕ × List ℕ)). flat_map (λ k. part_of_entries es count k) (range_with_len 0 count) ≡ entries_of (entries m)) same
    (parts_pairs (entries_of (entries m)) count some (subst (λ (es : List (List ℕ × List ℕ)). CanWalk (paths es)) (sym same) walk))

whole_only : (b : Bool) (xs ys : List Entry) (fault : PartFault) → cond b (Ok xs) (Err fault) ≡ Ok ys → xs ≡ ys
whole_only true xs ys fault e = cc
whole_only false xs ys fault e = absurd cc

bytes_of : (root : Hash32) (m : Contents) (parts : List Part) → 0 < length parts → AllByRecursion (λ (p : Part). AgreesWithPart p root m) parts → AllByRecursion (λ (e : List ℕ × List ℕ). IsBytes e.0) (entries m)
bytes_of root m [] some h = absurd (omega arith)
bytes_of root m (part ∷ parts) some h = h.0.texts.bytes

pub joined_whole : (root : Hash32) (parts : List Part) (all : List Entry) → 0 < length parts → joined_or_fault root parts ≡ Ok all → AreAllOfEach root parts all
unfolding joined_or_fault
joined_whole root parts all some e m agree =
    let a = bind_ok (order_or_fault (first_astray (length parts) 0 parts)) (λ ordered. each_checked root parts >>= λ passed. cond (same_hash (whole_hash parts) root) (Ok (joined parts)) (Err (Whole (whole_hash parts)))) all e in
    let b = bind_ok (each_checked root parts) (λ passed. cond (same_hash (whole_hash parts) root) (Ok (joined parts)) (Err (Whole (whole_hash parts)))) all a.2 in
    let same : joined parts ≡ all = whole_only (same_hash (whole_hash parts) root) (joined parts) all (Whole (whole_hash parts)) b.2 in
    ap pairs_of (sym same ∙ joined_parts root m (length parts) 0 parts agree (none_astray (first_astray (length parts) 0 parts) a.0 a.1) b.1 ∙ parts_of_map m (length parts) some (bytes_of root m parts some agree)) ∙ pairs_back (entries m)

pub joined_wholes : (root : Hash32) (parts : List Part) (r : Result (List Entry) PartFault) → Gives memory_fault r (joined_or_fault root parts) → IfOk r (λ (all : List Entry). 0 < length parts → AreAllOfEach root parts all)
joined_wholes root parts (Ok all) h = λ some. joined_whole root parts all some h
joined_wholes root parts (Err e) h = tt
