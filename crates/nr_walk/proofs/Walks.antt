-- The walk, node after node, as a loop does it with the nodes that wait kept the other way round.
use Rattle.std.proofs.Common.{◌≡◌, ◌≢◌, ℕ, suc, ◌-◌, List, [], ◌∷◌, ◌++◌, reverse, Result, Ok, Err, refl, sym, ap, ◌∙◌, append_assoc, take, arith}
use Rattle.std.proofs.lemmas.List.{append-nil, reverse-append, reverse-reverse}
use Rattle.nr_bytes.specs.Reading.{◌>>=◌}
use Rattle.nr_triedef.specs.Root.{Contents}
use Rattle.nr_walk.specs.declared.fault.WalkFault.{WalkFault}
use Rattle.nr_walk.specs.declared.fault.WalkFault.TheVariants.{TooMany}
use Rattle.nr_walk.specs.declared.searched.Searched.{Searched}
use Rattle.nr_walk.specs.declared.told.Spot.{Spot}
use Rattle.nr_walk.specs.declared.walking.Gain.{Gain}
use Rattle.nr_walk.specs.declared.walking.Visit.{Visit}
use Rattle.nr_walk.specs.Told.{option_list}
use Rattle.nr_walk.specs.Walking.{visited, walk_from}

-- what is gained after these
abbrev pub after : List Gain → Result (List Gain) WalkFault → Result (List Gain) WalkFault
after gains (Ok more) = Ok (gains ++ more)
after gains (Err fault) = Err fault

after_after : (a b : List Gain) (r : Result (List Gain) WalkFault) → after a (after b r) ≡ after (a ++ b) r
after_after a b (Ok more) = ap (λ (xs : List Gain). Ok xs) (sym (append_assoc a b more))
after_after a b (Err fault) = refl

bound_after : (a : List Gain) (r : Result (List Gain) WalkFault) → (r >>= λ gains. Ok (a ++ gains)) ≡ after a r
bound_after a (Ok more) = refl
bound_after a (Err fault) = refl

-- the node that is looked at next, and those behind it
pub popped : (waiting left : List Spot) (spot : Spot) → waiting ≡ left ++ spot ∷ [] → reverse waiting ≡ spot ∷ reverse left
popped waiting left spot h = ap (λ (xs : List Spot). reverse xs) h ∙ reverse-append left (spot ∷ [])

pub one_more : (texts : Contents) (searched : List Searched) (n : ℕ) (spot : Spot) (spots : List Spot) (visit : Visit) → visited texts searched spot ≡ Ok visit
    → walk_from texts searched (suc n) (spot ∷ spots) ≡ after (option_list visit.gain) (walk_from texts searched n (visit.below ++ spots))
unfolding walk_from
one_more texts searched n spot spots visit h = rw h (bound_after (option_list visit.gain) (walk_from texts searched n (visit.below ++ spots)))

one_fault : (texts : Contents) (searched : List Searched) (n : ℕ) (spot : Spot) (spots : List Spot) (fault : WalkFault) → visited texts searched spot ≡ Err fault → walk_from texts searched (suc n) (spot ∷ spots) ≡ Err fault
unfolding walk_from
one_fault texts searched n spot spots fault h = rw h refl

none_left : (texts : Contents) (searched : List Searched) (spot : Spot) (spots : List Spot) → walk_from texts searched 0 (spot ∷ spots) ≡ Err TooMany
unfolding walk_from
none_left texts searched spot spots = refl

pub none_waits : (texts : Contents) (searched : List Searched) (n : ℕ) → walk_from texts searched n [] ≡ Ok []
unfolding walk_from
none_waits texts searched n = refl

pub visited_more : (texts : Contents) (searched : List Searched) (n : ℕ) (waiting left next : List Spot) (spot : Spot) (visit : Visit) (gains more : List Gain) (total : Result (List Gain) WalkFault)
    → 0 ≢ n → waiting ≡ left ++ spot ∷ [] → visited texts searched spot ≡ Ok visit → more ≡ gains ++ option_list visit.gain → next ≡ left ++ reverse visit.below
    → after gains (walk_from texts searched n (reverse waiting)) ≡ total → after more (walk_from texts searched (n - 1) (reverse next)) ≡ total
visited_more texts searched n waiting left next spot visit gains more total some h v g w so_far =
    let k : n ≡ suc (n - 1) = omega arith in
    let spots : reverse next ≡ visit.below ++ reverse left = ap (λ (xs : List Spot). reverse xs) w ∙ reverse-append left (reverse visit.below) ∙ ap (λ (xs : List Spot). xs ++ reverse left) (reverse-reverse visit.below) in
    let now : walk_from texts searched n (reverse waiting) ≡ after (option_list visit.gain) (walk_from texts searched (n - 1) (visit.below ++ reverse left)) =
    ap (λ (xs : List Spot). walk_from texts searched n xs) (popped waiting left spot h) ∙ ap (λ (m : ℕ). walk_from texts searched m (spot ∷ reverse left)) k ∙ one_more texts searched (n - 1) spot (reverse left) visit v in
    let step : after gains (walk_from texts searched n (reverse waiting)) ≡ after (gains ++ option_list visit.gain) (walk_from texts searched (n - 1) (visit.below ++ reverse left)) =
    ap (λ (r : Result (List Gain) WalkFault). after gains r) now ∙ after_after gains (option_list visit.gain) (walk_from texts searched (n - 1) (visit.below ++ reverse left)) in
    ap (λ (xs : List Spot). after more (walk_from texts searched (n - 1) xs)) spots ∙ ap (λ (xs : List Gain). after xs (walk_from texts searched (n - 1) (visit.below ++ reverse left))) g ∙ sym step ∙ so_far

pub visited_fault : (texts : Contents) (searched : List Searched) (n : ℕ) (waiting left : List Spot) (spot : Spot) (fault : WalkFault) (gains : List Gain) (total : Result (List Gain) WalkFault)
    → 0 ≢ n → waiting ≡ left ++ spot ∷ [] → visited texts searched spot ≡ Err fault → after gains (walk_from texts searched n (reverse waiting)) ≡ total → total ≡ Err fault
visited_fault texts searched n waiting left spot fault gains total some h v so_far =
    let k : n ≡ suc (n - 1) = omega arith in
    let now : walk_from texts searched n (reverse waiting) ≡ Err fault =
    ap (λ (xs : List Spot). walk_from texts searched n xs) (popped waiting left spot h) ∙ ap (λ (m : ℕ). walk_from texts searched m (spot ∷ reverse left)) k ∙ one_fault texts searched (n - 1) spot (reverse left) fault v in
    sym so_far ∙ ap (λ (r : Result (List Gain) WalkFault). after gains r) now

pub too_many : (texts : Contents) (searched : List Searched) (n : ℕ) (waiting left : List Spot) (spot : Spot) (gains : List Gain) (total : Result (List Gain) WalkFault)
    → n ≡ 0 → waiting ≡ left ++ spot ∷ [] → after gains (walk_from texts searched n (reverse waiting)) ≡ total → total ≡ Err TooMany
too_many texts searched n waiting left spot gains total k h so_far =
    let now : walk_from texts searched n (reverse waiting) ≡ Err TooMany =
    ap (λ (xs : List Spot). walk_from texts searched n xs) (popped waiting left spot h) ∙ ap (λ (m : ℕ). walk_from texts searched m (spot ∷ reverse left)) k ∙ none_left texts searched spot (reverse left) in
    sym so_far ∙ ap (λ (r : Result (List Gain) WalkFault). after gains r) now

pub ended_walk : (texts : Contents) (searched : List Searched) (n : ℕ) (waiting : List Spot) (gains : List Gain) (total : Result (List Gain) WalkFault)
    → waiting ≡ [] → after gains (walk_from texts searched n (reverse waiting)) ≡ total → total ≡ Ok gains
ended_walk texts searched n waiting gains total h so_far =
    let now : walk_from texts searched n (reverse waiting) ≡ Ok [] = ap (λ (xs : List Spot). walk_from texts searched n (reverse xs)) h ∙ none_waits texts searched n in
    sym so_far ∙ ap (λ (r : Result (List Gain) WalkFault). after gains r) now ∙ ap (λ (xs : List Gain). Ok xs) (append-nil gains)

-- the last of the spots goes behind those that wait
pub waits_more : (waiting more spots left : List Spot) (spot : Spot) (total : List Spot) → spots ≡ left ++ spot ∷ [] → more ≡ waiting ++ spot ∷ [] → waiting ++ reverse spots ≡ total → more ++ reverse left ≡ total
waits_more waiting more spots left spot total h g so_far =
    ap (λ (xs : List Spot). xs ++ reverse left) g ∙ append_assoc waiting (spot ∷ []) (reverse left) ∙ ap (λ (xs : List Spot). waiting ++ xs) (sym (popped spots left spot h)) ∙ so_far

-- nothing was left to be popped
pub emptied : (xs ys : List Spot) (n : ℕ) → n ≡ 0 → ys ≡ take (n - 1) xs → xs ≡ ys ++ [] → xs ≡ []
emptied xs ys n k h g = g ∙ append-nil ys ∙ h ∙ ap (λ (m : ℕ). take (m - 1) xs) k

pub waits_all : (waiting before spots below list : List Spot) → spots ≡ [] → list ≡ below → waiting ++ reverse spots ≡ before ++ reverse list → waiting ≡ before ++ reverse below
waits_all waiting before spots below list h g so_far = sym (append-nil waiting) ∙ ap (λ (xs : List Spot). waiting ++ reverse xs) (sym h) ∙ so_far ∙ ap (λ (xs : List Spot). before ++ reverse xs) g
