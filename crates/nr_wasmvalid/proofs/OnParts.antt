-- The demands of a module's parts, one after the other.
use Rattle.std.proofs.Common.{if◌then◌else◌, ◌≡◌, ℕ, ◌+◌, ◌<◌, List, [], ◌∷◌, ◌++◌, length, drop, get_or, Bool, true, false, Result, Ok, Err, refl, sym, ap, ◌∙◌}
use Rattle.std.proofs.lemmas.List.{drop_more}
use Rattle.nr_bytes.specs.Reading.{◌>>=◌}
use Rattle.nr_wasmvalid.specs.declared.fault.ValidFault.{ValidFault}
use Rattle.nr_wasmvalid.specs.Parts.{Demand, outcome, each}

after_one : (b : Bool) (both first : Result (Unit {0}) ValidFault) (es : List Demand) (f : ValidFault) → both ≡ (first >>= λ x. outcome es) → (if b then both else Err f) ≡ ((if b then first else Err f) >>= λ x. outcome es)
after_one true both first es f e = e
after_one false both first es f e = refl

-- what follows demands that are met, and demands that aren't
pub outcome-append : (ds es : List Demand) → outcome (ds ++ es) ≡ (outcome ds >>= λ x. outcome es)
outcome-append [] es = refl
outcome-append (d ∷ ds) es = after_one d.holds (outcome (ds ++ es)) (outcome ds) es d.otherwise (outcome-append ds es)

pub met : (ds es : List Demand) → outcome ds ≡ Ok tt → outcome (ds ++ es) ≡ outcome es
met ds es e = outcome-append ds es ∙ ap (λ r. r >>= λ x. outcome es) e

pub unmet : (ds es : List Demand) (f : ValidFault) → outcome ds ≡ Err f → outcome (ds ++ es) ≡ Err f
unmet ds es f e = outcome-append ds es ∙ ap (λ r. r >>= λ x. outcome es) e

-- ---- the entries of a list, up to the one at which a loop stands
entry : {X : Type 0} (asks : ℕ → X → List Demand) (xs : List X) (i : ℕ) (x : X) → i < length xs → x ≡ get_or xs i x → each asks i (drop i xs) ≡ asks i x ++ each asks (i + 1) (drop (i + 1) xs)
entry asks xs i x h e = ap (each asks i) (drop_more xs i x h) ∙ ap (λ y. asks i y ++ each asks (i + 1) (drop (i + 1) xs)) (sym e)

pub entry_met : {X : Type 0} (asks : ℕ → X → List Demand) (xs : List X) (i : ℕ) (x : X) (all : Result (Unit {0}) ValidFault) → i < length xs → x ≡ get_or xs i x → outcome (asks i x) ≡ Ok tt
    → outcome (each asks i (drop i xs)) ≡ all → outcome (each asks (i + 1) (drop (i + 1) xs)) ≡ all
entry_met asks xs i x all h e holds so_far =
    sym (ap outcome (entry asks xs i x h e) ∙ met (asks i x) (each asks (i + 1) (drop (i + 1) xs)) holds) ∙ so_far

pub entry_unmet : {X : Type 0} (asks : ℕ → X → List Demand) (xs : List X) (i : ℕ) (x : X) (all : Result (Unit {0}) ValidFault) (f : ValidFault) → i < length xs → x ≡ get_or xs i x → outcome (asks i x) ≡ Err f
    → outcome (each asks i (drop i xs)) ≡ all → all ≡ Err f
entry_unmet asks xs i x all f h e breaks so_far =
    sym so_far ∙ ap outcome (entry asks xs i x h e) ∙ unmet (asks i x) (each asks (i + 1) (drop (i + 1) xs)) f breaks
