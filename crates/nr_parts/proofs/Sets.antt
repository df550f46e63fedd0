-- Entries set one after the other, part by part.
use Rattle.std.proofs.Common.{◌≡◌, ◌<◌, ◌+◌, ℕ, List, [], ◌∷◌, ◌++◌, length, drop, get_or, Bool, true, false, cond, Result, Ok, Err, refl, ap, sym, ◌∙◌, add-one}
use Rattle.std.proofs.Math.Seq.{drop-cons}
use Rattle.std.specs.Prelude.{IfOk}
use Rattle.nr_bytes.specs.Answers.{Gives}
use Rattle.nr_bytes.proofs.Steps.{bind_ok}
use Rattle.nr_ids.specs.declared.key.Hash32.{Hash32}
use Rattle.nr_triedef.specs.Root.{Contents, root_of}
use Rattle.std.specs.FinMap.{empty, insert}
use Rattle.nr_columns.specs.declared.entry.Entry.{Entry}
use Rattle.nr_parts.specs.Joining.{order_or_fault, first_astray, each_checked, joined, set_all, whole_hash, joined_or_fault}
use Rattle.nr_parts.specs.Checking.{memory_fault, same_hash}
use Rattle.nr_parts.specs.declared.fault.PartFault.{PartFault}
use Rattle.nr_parts.specs.declared.fault.PartFault.TheVariants.{Whole}
use Rattle.nr_parts.proofs.Accepted.{equal_hash}
use Rattle.nr_parts.specs.declared.part.Part.{Part}

set_append : (m : Contents) (xs ys : List Entry) → set_all m (xs ++ ys) ≡ set_all (set_all m xs) ys
set_append m [] ys = refl
set_append m (e ∷ xs) ys = set_append (insert m e.key e.value) xs ys

pub parts_more : (parts : List Part) (i : ℕ) (part : Part) (entries : List Entry) (old new total : Contents) → i < length parts → part ≡ get_or parts i part → entries ≡ part.entries → new ≡ set_all old entries → set_all old (joined (drop i parts)) ≡ total → set_all new (joined (drop (i + 1) parts)) ≡ total
parts_more parts i part entries old new total lt is e n h =
    let here : drop i parts ≡ part ∷ drop (i + 1) parts = drop-cons parts i part lt ∙ (λ j. sym is j ∷ drop (sym (add-one i) j) parts) in
    ap (λ (m : Contents). set_all m (joined (drop (i + 1) parts))) (n ∙ ap (set_all old) e)
    ∙ sym (set_append old part.entries (joined (drop (i + 1) parts)))
    ∙ ap (λ (l : List Part). set_all old (joined l)) (sym here)
    ∙ h

-- what is joined has the root
pub joined_root : (root : Hash32) (parts : List Part) (all : List Entry) → joined_or_fault root parts ≡ Ok all → (root_of (set_all empty all)).hash ≡ root
unfolding joined_or_fault
joined_root root parts all e =
    let a = bind_ok (order_or_fault (first_astray (length parts) 0 parts)) _ all e in
    let b = bind_ok (each_checked root parts) _ all a.2 in
    let c = whole_only (same_hash (whole_hash parts) root) (joined parts) all (Whole (whole_hash parts)) b.2 in
    ap (λ (l : List Entry). (root_of (set_all empty l)).hash) (sym c.1) ∙ equal_hash (whole_hash parts) root c.0
  where
    whole_only : (b : Bool) (xs ys : List Entry) (fault : PartFault) → cond b (Ok xs) (Err fault) ≡ Ok ys → (b ≡ true) × (xs ≡ ys)
    whole_only true xs ys fault e = (refl, cc)
    whole_only false xs ys fault e = absurd cc

pub joined_always : (root : Hash32) (parts : List Part) (r : Result (List Entry) PartFault) → Gives memory_fault r (joined_or_fault root parts) → IfOk r (λ (all : List Entry). (root_of (set_all empty all)).hash ≡ root)
joined_always root parts (Ok all) h = joined_root root parts all h
joined_always root parts (Err e) h = tt
