-- Lists that grow at their end.
use Rattle.std.proofs.Common.{◌≡◌, ℕ, zero, suc, ◌+◌, List, [], ◌∷◌, ◌++◌, replicate, refl, sym, ap, ◌∙◌, append_assoc, add-one, map, arith}
use Rattle.std.proofs.lemmas.List.{append-nil}
use Rattle.std.specs.List.{range_with_len}
use Rattle.std.proofs.lemmas.List.FromFn.{map-range_with_len_more}
use Rattle.nr_gen.specs.Names.{shard_name}
use Rattle.nr_gen.specs.Turns.{joined_below, in_turn}

-- ---- one list behind another
pub behind : {X : Type 0} (old xs ys mid new : List X) → mid ≡ old ++ xs → new ≡ mid ++ ys → new ≡ old ++ (xs ++ ys)
behind old xs ys mid new first second = second ∙ ap (λ l. l ++ ys) first ∙ append_assoc old xs ys

-- ---- what each number below a bound gives, one behind another
pub joined_begins : {X : Type 0} (xs : List X) (f : ℕ → List X) → xs ≡ xs ++ joined_below 0 f
unfolding joined_below
joined_begins xs f = sym (append-nil xs)

pub joined_more : {X : Type 0} (n : ℕ) (f : ℕ → List X) → joined_below (n + 1) f ≡ joined_below n f ++ f n
unfolding joined_below
joined_more n f = ap (λ k. joined_below k f) (add-one n)

pub joined_grows : {X : Type 0} (xs : List X) (n : ℕ) (f : ℕ → List X) (old new : List X) → old ≡ xs ++ joined_below n f → new ≡ old ++ f n → new ≡ xs ++ joined_below (n + 1) f
joined_grows xs n f old new before grown = grown ∙ ap (λ l. l ++ f n) before ∙ append_assoc xs (joined_below n f) (f n) ∙ ap (λ l. xs ++ l) (sym (joined_more n f))

pub joined_none : {X : Type 0} (xs : List X) (f : ℕ → List X) → xs ≡ [] → xs ≡ joined_below 0 f
unfolding joined_below
joined_none xs f none = none

pub joined_all : {X : Type 0} (n : ℕ) (f : ℕ → List X) (old new : List X) → old ≡ joined_below n f → new ≡ old ++ f n → new ≡ joined_below (n + 1) f
joined_all n f old new before grown = joined_grows [] n f old new before grown

-- ---- copies
copies : {X : Type 0} (n : ℕ) (x : X) → replicate (suc n) x ≡ replicate n x ++ x ∷ []
copies zero x = refl
copies (suc n) x = ap (λ l. x ∷ l) (copies n x)

pub copies_begin : {X : Type 0} (xs : List X) (x : X) → xs ≡ xs ++ replicate 0 x
copies_begin xs x = sym (append-nil xs)

pub copies_grow : {X : Type 0} (xs : List X) (n : ℕ) (x : X) (old new : List X) → old ≡ xs ++ replicate n x → new ≡ old ++ x ∷ [] → new ≡ xs ++ replicate (n + 1) x
copies_grow xs n x old new before grown =
    grown ∙ ap (λ l. l ++ x ∷ []) before ∙ append_assoc xs (replicate n x) (x ∷ []) ∙ ap (λ l. xs ++ l) (sym (ap (λ k. replicate k x) (add-one n) ∙ copies n x))

-- ---- names of shards
pub names_more : (n : ℕ) → map (λ below. shard_name (below + 1)) (range_with_len 0 (n + 1)) ≡ map (λ below. shard_name (below + 1)) (range_with_len 0 n) ++ shard_name (n + 1) ∷ []
names_more n = map-range_with_len_more (λ below. shard_name (below + 1)) 0 n n (omega arith)

-- ---- values in turn
pub turns_begin : {S X : Type 0} (f : ℕ → S → X × S) (s : S) (items : List X) → items ≡ [] → (items, s) ≡ in_turn 0 f s
unfolding in_turn
turns_begin f s items none = ap (λ l. (l, s)) none

pub turns_grow : {S X : Type 0} (f : ℕ → S → X × S) (n : ℕ) (s : S) (items new : List X) (before after : S) (x : X) → (items, before) ≡ in_turn n f s → (x, after) ≡ f n before → new ≡ items ++ x ∷ [] → (new, after) ≡ in_turn (n + 1) f s
unfolding in_turn
turns_grow {S} {X} f n s items new before after x so_far last grown =
    ap (λ l. (l, after)) grown
    ∙ ap (λ (o : X × S). (items ++ o.0 ∷ [], o.1)) last
    ∙ ap (λ (b : List X × S). (b.0 ++ (f n b.1).0 ∷ [], (f n b.1).1)) so_far
    ∙ ap (λ k. in_turn k f s) (sym (add-one n))
