-- Operands of known and unknown types.
use Rattle.std.proofs.Common.{◌≡◌, ℕ, ◌+◌, ◌<◌, ◌≤◌, List, [], ◌∷◌, length, take, drop, reverse, get_or, Ok, Err, Bool, true, refl, sym, ap, ◌∙◌, arith}
use Rattle.std.proofs.lemmas.List.{reverse-append, drop_more, drop_all, take_more}
use Rattle.nr_wasmtypes.specs.declared.instr.ValType.{ValType}
use Rattle.nr_wasmvalid.specs.declared.refusal.Refusal.{Refusal}
use Rattle.nr_wasmvalid.specs.declared.refusal.Refusal.TheVariants as refusal
use Rattle.nr_wasmvalid.specs.Shapes.{Operand, Shape, no_more, take_all, take_one, ◌>>=◌}

pub no_more-some : (ts : List Operand) → 0 < length ts → no_more ts ≡ Err refusal.Types
no_more-some [] h = absurd (omega arith)
no_more-some (t ∷ ts) h = refl

-- ---- taking one after the other
pub takes_on : (ts : List ValType) (m : ℕ) (d : ValType) (s u all : Shape) → m < length ts → take_one (get_or ts m d) s ≡ Ok u → take_all (drop m ts) s ≡ take_all ts all → take_all (drop (m + 1) ts) u ≡ take_all ts all
unfolding take_all
takes_on ts m d s u all h e so_far =
    sym (ap (λ (us : List ValType). take_all us s) (drop_more ts m d h) ∙ ap (λ r. r >>= take_all (drop (m + 1) ts)) e) ∙ so_far

pub takes_stop : (ts : List ValType) (m : ℕ) (d : ValType) (s all : Shape) (kind : Refusal) → m < length ts → take_one (get_or ts m d) s ≡ Err kind → take_all (drop m ts) s ≡ take_all ts all → take_all ts all ≡ Err kind
unfolding take_all
takes_stop ts m d s all kind h e so_far =
    sym so_far ∙ (ap (λ (us : List ValType). take_all us s) (drop_more ts m d h) ∙ ap (λ r. r >>= take_all (drop (m + 1) ts)) e)

pub takes_end : (ts : List ValType) (m : ℕ) (s all : Shape) → length ts ≤ m → take_all (drop m ts) s ≡ take_all ts all → take_all ts all ≡ Ok s
unfolding take_all
takes_end ts m s all h so_far = sym so_far ∙ ap (λ (us : List ValType). take_all us s) (drop_all m ts h)

-- ---- from the last
last_of : (xs : List ValType) (m : ℕ) (x : ValType) → m < length xs → x ≡ get_or xs m x → reverse (take (m + 1) xs) ≡ x ∷ reverse (take m xs)
last_of xs m x h is = ap reverse (take_more xs m x h) ∙ reverse-append (take m xs) (get_or xs m x ∷ []) ∙ ap (λ y. y ∷ reverse (take m xs)) (sym is)

pub takes_back : (ts : List ValType) (m : ℕ) (t : ValType) (s u : Shape) (all : List ValType) (first : Shape) → m < length ts → t ≡ get_or ts m t → take_one t s ≡ Ok u → take_all (reverse (take (m + 1) ts)) s ≡ take_all all first → take_all (reverse (take m ts)) u ≡ take_all all first
unfolding take_all
takes_back ts m t s u all first h is e so_far =
    sym (ap (λ (us : List ValType). take_all us s) (last_of ts m t h is) ∙ ap (λ r. r >>= take_all (reverse (take m ts))) e) ∙ so_far

pub takes_back_stop : (ts : List ValType) (m : ℕ) (t : ValType) (s : Shape) (all : List ValType) (first : Shape) (kind : Refusal) → m < length ts → t ≡ get_or ts m t → take_one t s ≡ Err kind → take_all (reverse (take (m + 1) ts)) s ≡ take_all all first → take_all all first ≡ Err kind
unfolding take_all
takes_back_stop ts m t s all first kind h is e so_far =
    sym so_far ∙ (ap (λ (us : List ValType). take_all us s) (last_of ts m t h is) ∙ ap (λ r. r >>= take_all (reverse (take m ts))) e)

-- ---- where no operand is left and any may stand below
any_taken : (ts : List ValType) → take_all ts (record { known = []; any_below = true }) ≡ Ok (record { known = []; any_below = true })
unfolding take_all take_one
any_taken [] = refl
any_taken (t ∷ ts) = any_taken ts

pub takes_back_end : (ts : List ValType) (m : ℕ) (s : Shape) (all : List ValType) (first : Shape) (any : Bool) → any ≡ true → (any ≡ true → s ≡ record { known = []; any_below = true }) → take_all (reverse (take m ts)) s ≡ take_all all first → take_all all first ≡ Ok s
takes_back_end ts m s all first any holds is so_far =
    let nothing = is holds in
    sym so_far ∙ ap (take_all (reverse (take m ts))) nothing ∙ any_taken (reverse (take m ts)) ∙ ap (λ (u : Shape). Ok u) (sym nothing)
