-- The walk as a loop goes it, a node at a time.
use Rattle.std.proofs.Common.{◌≡◌, ◌-◌, ◌<◌, ℕ, suc, List, [], ◌∷◌, ◌++◌, Result, Ok, Err, refl, ap, sym, ◌∙◌, arith, append_assoc, append-nil}
use Rattle.nr_bytes.specs.Reading.{◌>>=◌}
use Rattle.nr_triedef.specs.Root.{Contents}
use Rattle.nr_walk.specs.declared.fault.WalkFault.{WalkFault}
use Rattle.nr_walk.specs.declared.fault.WalkFault.TheVariants.{TooMany}
use Rattle.nr_walk.specs.declared.told.Spot.{Spot}
use Rattle.nr_walk.specs.Told.{option_list}
use Rattle.nr_parts.specs.Walking.{visited, walk_from}
use Rattle.nr_parts.specs.declared.share.Share.{Share}
use Rattle.nr_parts.specs.declared.walking.Claim.{Claim}
use Rattle.nr_parts.specs.declared.walking.Visit.{Visit}

abbrev pub Claims : Type 0
Claims = Result (List Claim) WalkFault

-- the claims so far, and those of the rest
abbrev pub with_claims : List Claim → Claims → Claims
with_claims front rest = rest >>= λ claims. Ok (front ++ claims)

regroup : (front more : List Claim) (rest : Claims) → with_claims front (rest >>= λ claims. Ok (more ++ claims)) ≡ with_claims (front ++ more) rest
regroup front more (Ok claims) = ap (λ (l : List Claim). Ok l) (simp append_assoc)
regroup front more (Err fault) = refl

pub turn : (texts : Contents) (share : Share) (n at : ℕ) (spot : Spot) (spots : List Spot) (front : List Claim) (visit : Visit) → visited texts share at spot ≡ Ok visit → with_claims front (walk_from texts share (suc n) at (spot ∷ spots)) ≡ with_claims (front ++ option_list visit.claim) (walk_from texts share n visit.next (visit.below ++ spots))
unfolding walk_from
turn texts share n at spot spots front visit is =
    ap (λ v. with_claims front (v >>= λ (visit : Visit). walk_from texts share n visit.next (visit.below ++ spots) >>= λ claims. Ok (option_list visit.claim ++ claims))) is
    ∙ regroup front (option_list visit.claim) (walk_from texts share n visit.next (visit.below ++ spots))

pub turn_fault : (texts : Contents) (share : Share) (n at : ℕ) (spot : Spot) (spots : List Spot) (front : List Claim) (fault : WalkFault) → visited texts share at spot ≡ Err fault → with_claims front (walk_from texts share (suc n) at (spot ∷ spots)) ≡ Err fault
unfolding walk_from
turn_fault texts share n at spot spots front fault is =
    ap (λ v. with_claims front (v >>= λ (visit : Visit). walk_from texts share n visit.next (visit.below ++ spots) >>= λ claims. Ok (option_list visit.claim ++ claims))) is

pub turn_none : (texts : Contents) (share : Share) (at : ℕ) (spot : Spot) (spots : List Spot) (front : List Claim) → with_claims front (walk_from texts share 0 at (spot ∷ spots)) ≡ Err TooMany
unfolding walk_from
turn_none texts share at spot spots front = refl

pub turn_end : (texts : Contents) (share : Share) (n at : ℕ) (front : List Claim) → with_claims front (walk_from texts share n at []) ≡ Ok front
unfolding walk_from
turn_end texts share n at front = ap (λ (l : List Claim). Ok l) (append-nil front)

pub goes_on : (texts : Contents) (share : Share) (left at : ℕ) (waiting rest new : List Spot) (spot : Spot) (front more : List Claim) (visit : Visit) (total : Claims) → waiting ≡ spot ∷ rest → 0 < left → visited texts share at spot ≡ Ok visit → more ≡ front ++ option_list visit.claim → new ≡ visit.below ++ rest
    → with_claims front (walk_from texts share left at waiting) ≡ total → with_claims more (walk_from texts share (left - 1) visit.next new) ≡ total
goes_on texts share left at waiting rest new spot front more visit total w some is m n so_far =
    let one : suc (left - 1) ≡ left = omega arith in
    (λ i. with_claims (m i) (walk_from texts share (left - 1) visit.next (n i)))
    ∙ sym (turn texts share (left - 1) at spot rest front visit is)
    ∙ (λ i. with_claims front (walk_from texts share (one i) at (sym w i)))
    ∙ so_far

pub stops : (texts : Contents) (share : Share) (left at : ℕ) (waiting rest : List Spot) (spot : Spot) (front : List Claim) (fault : WalkFault) (total : Claims) → waiting ≡ spot ∷ rest → 0 < left → visited texts share at spot ≡ Err fault
    → with_claims front (walk_from texts share left at waiting) ≡ total → total ≡ Err fault
stops texts share left at waiting rest spot front fault total w some is so_far =
    let one : suc (left - 1) ≡ left = omega arith in
    sym so_far ∙ sym (λ i. with_claims front (walk_from texts share (one i) at (sym w i))) ∙ turn_fault texts share (left - 1) at spot rest front fault is

pub many : (texts : Contents) (share : Share) (left at : ℕ) (waiting rest : List Spot) (spot : Spot) (front : List Claim) (total : Claims) → waiting ≡ spot ∷ rest → left ≡ 0
    → with_claims front (walk_from texts share left at waiting) ≡ total → total ≡ Err TooMany
many texts share left at waiting rest spot front total w none so_far =
    sym so_far ∙ (λ i. with_claims front (walk_from texts share (none i) at (w i))) ∙ turn_none texts share at spot rest front

pub ends : (texts : Contents) (share : Share) (left at : ℕ) (waiting : List Spot) (front : List Claim) (total : Claims) → waiting ≡ []
    → with_claims front (walk_from texts share left at waiting) ≡ total → total ≡ Ok front
ends texts share left at waiting front total w so_far =
    sym so_far ∙ (λ i. with_claims front (walk_from texts share left at (w i))) ∙ turn_end texts share left at front
