-- Which files a plan asks for; where the shelf tells them, it has one way to one end.
use Rattle.std.proofs.Common.{◌≡◌, ℕ, true, false, cond, List, [], ◌∷◌, ◌++◌, length, Option, Some, None, Result, Ok, Err, refl, sym, ap, subst, ◌∙◌}
use Rattle.std.specs.Prelude.{IsSome, nat_lt}
use Rattle.nr_shell.specs.Plans.{Plan, Answer, Refuse, Ask, Allows, AreTold, Asks, IsEnd, LeadsBy, Turns, and_then, by_length, by_reading, file_plan}

same_bytes : (told : Option (List ℕ)) (a b : List ℕ) → IsSome told → Allows told a → Allows told b → b ≡ a
same_bytes None a b is one two = cc
same_bytes (Some told) a b is one two = sym two ∙ one

module _ {A E : Type 0} (held : List ℕ → Option (List ℕ)) where
  same_turn : (n m : List ℕ) (p q r : Plan A E) → IsSome (held n) → Turns held n p q → Turns held m p r → (m ≡ n) × (r ≡ q)
  same_turn n m (Answer a) q r is one two = absurd one
  same_turn n m (Refuse e) q r is one two = absurd one
  same_turn n m (Ask asked limit long by_bytes) q r is one two =
      let name : m ≡ n = sym two.1 ∙ one.1 in
      let bytes : two.0 ≡ one.0 = same_bytes (held n) one.0 two.0 is one.2 (subst (λ (x : List ℕ). Allows (held x) two.0) name two.2) in
      (name, sym two.3 ∙ ap (λ b. by_length limit long by_bytes b) bytes ∙ one.3)

  asks_none : (n : List ℕ) (p q : Plan A E) → IsEnd p → Turns held n p q → ⊥
  asks_none n (Answer a) q is turns = turns
  asks_none n (Refuse e) q is turns = turns
  asks_none n (Ask asked limit long by_bytes) q is turns = is

  pub one_end : (names others : List (List ℕ)) (p one two : Plan A E) → AreTold held names → IsEnd one → IsEnd two → LeadsBy held names p one → LeadsBy held others p two → (others ≡ names) × (two ≡ one)
  one_end [] [] p one two told first second a b = (refl, sym b ∙ a)
  one_end [] (m ∷ ms) p one two told first second a b = absurd (asks_none m one b.0 first (subst (λ (x : Plan A E). Turns held m x b.0) a b.1))
  one_end (n ∷ ns) [] p one two told first second a b = absurd (asks_none n two a.0 second (subst (λ (x : Plan A E). Turns held n x a.0) b a.1))
  one_end (n ∷ ns) (m ∷ ms) p one two told first second a b =
      let turn = same_turn n m p a.0 b.0 told.0 a.1 b.1 in
      let rest = one_end ns ms a.0 one two told.1 first second a.2 (subst (λ (x : Plan A E). LeadsBy held ms x two) turn.1 b.2) in
      ((λ i. turn.0 i ∷ rest.0 i), rest.1)

-- ---- the files of a plan
pub file_asks : {E : Type 0} (name : List ℕ) (limit : ℕ) (long : E) → Asks (name ∷ []) (file_plan name limit long)
file_asks name limit long = (refl, λ bytes. tt)

pub reading_asks : {A E F : Type 0} (status : F → E) (r : Result A F) → Asks [] (by_reading status r)
reading_asks status (Ok a) = tt
reading_asks status (Err fault) = tt

pub then_asks : {A B E : Type 0} (files more : List (List ℕ)) (p : Plan A E) (next : A → Plan B E) → Asks files p → ((a : A) → Asks more (next a)) → Asks (files ++ more) (and_then p next)
unfolding and_then
then_asks [] more (Answer a) next one two = two a
then_asks [] more (Refuse e) next one two = tt
then_asks [] more (Ask name limit long by_bytes) next one two = absurd one
then_asks (f ∷ files) more (Answer a) next one two = absurd one
then_asks (f ∷ files) more (Refuse e) next one two = tt
then_asks (f ∷ files) more (Ask name limit long by_bytes) next one two = (one.0, λ bytes. then_asks files more (by_bytes bytes) next (one.1 bytes) two)

refuse_asks : (A : Type 0) {E : Type 0} (files : List (List ℕ)) (e : E) → Asks {A = A} files (Refuse e)
refuse_asks A [] e = tt
refuse_asks A (f ∷ files) e = tt

pub length_asks : {A E : Type 0} (files : List (List ℕ)) (limit : ℕ) (long : E) (by_bytes : List ℕ → Plan A E) (bytes : List ℕ) → Asks files (by_bytes bytes) → Asks files (by_length limit long by_bytes bytes)
length_asks {A} files limit long by_bytes bytes asks = elim (nat_lt limit (length bytes)) as (λ t. Asks files (cond t (Refuse long) (by_bytes bytes))) [ true ↦ refuse_asks A files long | false ↦ asks ]

module _ {A E : Type 0} (held : List ℕ → Option (List ℕ)) where
  turn_asks : (n : List ℕ) (files : List (List ℕ)) (p q : Plan A E) → Asks files p → Turns held n p q → (more : List (List ℕ)) × (files ≡ n ∷ more) × Asks more q
  turn_asks n files (Answer a) q asks turns = absurd turns
  turn_asks n files (Refuse e) q asks turns = absurd turns
  turn_asks n [] (Ask name limit long by_bytes) q asks turns = absurd asks
  turn_asks n (f ∷ files) (Ask name limit long by_bytes) q asks turns =
      (files, ap (λ (x : List ℕ). x ∷ files) (sym asks.0 ∙ turns.1), subst (λ (r : Plan A E). Asks files r) turns.3 (length_asks files limit long by_bytes turns.0 (asks.1 turns.0)))

  -- those asked for on a way are a front of them
  pub way_asks : (names files : List (List ℕ)) (p q : Plan A E) → Asks files p → LeadsBy held names p q → (rest : List (List ℕ)) × (files ≡ names ++ rest)
  way_asks [] files p q asks leads = (files, refl)
  way_asks (n ∷ ns) files p q asks leads =
      let turn = turn_asks n files p leads.0 asks leads.1 in
      let more = way_asks ns turn.0 leads.0 q turn.2 leads.2 in
      (more.0, turn.1 ∙ ap (λ (xs : List (List ℕ)). n ∷ xs) more.1)

  -- and where a plan comes to an answer, all of them
  pub answer_asks : (names files : List (List ℕ)) (p : Plan A E) (a : A) → Asks files p → LeadsBy held names p (Answer a) → names ≡ files
  answer_asks [] [] p a asks leads = refl
  answer_asks [] (f ∷ files) p a asks leads = absurd (subst (λ (q : Plan A E). Asks (f ∷ files) q) leads asks)
  answer_asks (n ∷ ns) files p a asks leads =
      let turn = turn_asks n files p leads.0 asks leads.1 in
      ap (λ (xs : List (List ℕ)). n ∷ xs) (answer_asks ns turn.0 leads.0 a turn.2 leads.2) ∙ sym turn.1
