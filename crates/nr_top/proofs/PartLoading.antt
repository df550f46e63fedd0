-- Parts that are loaded one after another, as their plan says.
use Rattle.std.proofs.Common.{◌≡◌, ℕ, suc, ◌+◌, ◌-◌, ◌<◌, ◌≤◌, List, [], ◌∷◌, ◌++◌, Option, Result, Ok, Err, refl, sym, ap, subst, ◌∙◌, arith, append_assoc}
use Rattle.std.specs.Prelude.{map}
use Rattle.std.specs.List.{range_with_len}
use Rattle.std.proofs.lemmas.List.{append-nil}
use Rattle.nr_parts.specs.declared.part.Part.{Part}
use Rattle.nr_shell.specs.Answers.{Follows}
use Rattle.nr_shell.specs.Plans.{Plan, Answer, Refuse, Ask, and_then}
use Rattle.nr_shell.specs.declared.stop.Stop.{Stop}
use Rattle.nr_shell.proofs.Leading.{judge_follows, stop_follows, then_follows}
use Rattle.nr_top.specs.Answers.{refuses}
use Rattle.nr_top.specs.StateParts.{part_file_plan, part_name, part_names, parts_plan}
use Rattle.nr_top.specs.declared.status.Status.{Status}

-- ---- a plan behind others
then_answer : {A E : Type 0} (p : Plan A E) → and_then p (λ a. Answer a) ≡ p
unfolding and_then
then_answer (Answer a) = refl
then_answer (Refuse e) = refl
then_answer (Ask name limit long by_bytes) = λ i. Ask name limit long (λ bytes. then_answer (by_bytes bytes) i)

then_then : {A B C E : Type 0} (p : Plan A E) (f : A → Plan B E) (g : B → Plan C E) → and_then (and_then p f) g ≡ and_then p (λ a. and_then (f a) g)
unfolding and_then
then_then (Answer a) f g = refl
then_then (Refuse e) f g = refl
then_then (Ask name limit long by_bytes) f g = λ i. Ask name limit long (λ bytes. then_then (by_bytes bytes) f g i)

-- ---- the names that are left
abbrev pub names_left : List ℕ → ℕ → ℕ → List (List ℕ)
names_left prefix count position = map (part_name prefix) (range_with_len position (count - position))

names_next : (prefix : List ℕ) (count position : ℕ) → position < count → names_left prefix count position ≡ part_name prefix position ∷ names_left prefix count (position + 1)
names_next prefix count position l =
    let e : count - position ≡ suc (count - (position + 1)) = omega (arith, l) in
    ap (λ k. map (part_name prefix) (range_with_len position k)) e

names_first : (prefix : List ℕ) (count : ℕ) → names_left prefix count 0 ≡ part_names prefix count
names_first prefix count =
    let e : count - 0 ≡ count = omega arith in
    ap (λ k. map (part_name prefix) (range_with_len 0 k)) e

names_last : (prefix : List ℕ) (count position : ℕ) → count ≤ position → names_left prefix count position ≡ []
names_last prefix count position l =
    let e : count - position ≡ 0 = omega (arith, l) in
    ap (λ k. map (part_name prefix) (range_with_len position k)) e

-- ---- so many parts are loaded
-- the plan of those that are left, behind these parts
abbrev pub rest_plan : ℕ → List (List ℕ) → List Part → Plan (List Part) Status
rest_plan position names parts = and_then (parts_plan position names) (λ others. Answer (parts ++ others))

-- the plan of one more
abbrev pub more_plan : ℕ → List ℕ → List Part → Plan (List Part) Status
more_plan position name parts = and_then (part_file_plan position name) (λ part. Answer (parts ++ part ∷ []))

rest_more : (position : ℕ) (name : List ℕ) (names : List (List ℕ)) (parts : List Part)
    → rest_plan position (name ∷ names) parts ≡ and_then (more_plan position name parts) (rest_plan (position + 1) names)
unfolding and_then parts_plan
rest_more position name names parts =
    let file : Plan Part Status = part_file_plan position name in
    let others : Plan (List Part) Status = parts_plan (position + 1) names in
    then_then file (λ part. and_then others (λ ps. Answer (part ∷ ps))) (λ ps. Answer (parts ++ ps))
    ∙ ap (λ (f : Part → Plan (List Part) Status). and_then file f)
    (λ i part. (then_then others (λ ps. Answer (part ∷ ps)) (λ ps. Answer (parts ++ ps)) ∙ ap (λ (f : List Part → Plan (List Part) Status). and_then others f) (λ j ps. Answer (sym (append_assoc parts (part ∷ []) ps) j))) i)
    ∙ sym (then_then file (λ part. Answer (parts ++ part ∷ [])) (rest_plan (position + 1) names))

first_is : (prefix : List ℕ) (count : ℕ) (parts : List Part) → parts ≡ [] → rest_plan 0 (names_left prefix count 0) parts ≡ parts_plan 0 (part_names prefix count)
first_is prefix count parts none =
    ap (λ (ps : List Part). rest_plan 0 (names_left prefix count 0) ps) none
    ∙ ap (λ (names : List (List ℕ)). and_then (parts_plan 0 names) (λ others. Answer others)) (names_first prefix count)
    ∙ then_answer (parts_plan 0 (part_names prefix count))

-- what follows the plan of those that are left follows the whole plan
pub record LeadsOn (held held_now : List ℕ → Option (List ℕ)) (old now : List (List ℕ)) (before between : ℕ) (whole rest : Plan (List Part) Status) : Type 0 where
  pub on : (kept : List ℕ → Option (List ℕ)) (new : List (List ℕ)) (after : ℕ) (r : Result (List Part) (Stop Status)) → Follows refuses (λ (ps : List Part). ps) held_now kept now new between after r rest
      → Follows refuses (λ (ps : List Part). ps) held kept old new before after r whole

module _ {held : List ℕ → Option (List ℕ)} {old : List (List ℕ)} {before : ℕ} (prefix : List ℕ) (count : ℕ) where
  pub on_first : (parts : List Part) → parts ≡ [] → LeadsOn held held old old before before (parts_plan 0 (part_names prefix count)) (rest_plan 0 (names_left prefix count 0) parts)
  on_first parts none = record {
    on = λ kept new after r follows. subst (λ (p : Plan (List Part) Status). Follows refuses (λ (ps : List Part). ps) held kept old new before after r p) (first_is prefix count parts none) follows;
  }

  module _ {held_now : List ℕ → Option (List ℕ)} {now : List (List ℕ)} {between : ℕ} {whole : Plan (List Part) Status} (position : ℕ) (parts : List Part) (on : LeadsOn held held_now old now before between whole (rest_plan position (names_left prefix count position) parts)) where
    rest_is : position < count → rest_plan position (names_left prefix count position) parts ≡ and_then (more_plan position (part_name prefix position) parts) (rest_plan (position + 1) (names_left prefix count (position + 1)))
    rest_is l =
        ap (λ (names : List (List ℕ)). rest_plan position names parts) (names_next prefix count position l)
        ∙ rest_more position (part_name prefix position) (names_left prefix count (position + 1)) parts

    pub on_next : {X : Type 0} {held_next : List ℕ → Option (List ℕ)} {next : List (List ℕ)} {later : ℕ} {x : X} (more : List Part) → position < count
        → Follows refuses (λ (_ : X). more) held_now held_next now next between later (Ok x) (more_plan position (part_name prefix position) parts)
        → LeadsOn held held_next old next before later whole (rest_plan (position + 1) (names_left prefix count (position + 1)) more)
    on_next {X} {held_next} {next} {later} {x} more l step = record {
      on = λ kept new after r follows. on.on kept new after r
          (subst (λ (p : Plan (List Part) Status). Follows refuses (λ (ps : List Part). ps) held_now kept now new between after r p) (sym (rest_is l))
          (then_follows (rest_plan (position + 1) (names_left prefix count (position + 1))) step follows));
    }

    pub on_stop : {X : Type 0} {kept : List ℕ → Option (List ℕ)} {new : List (List ℕ)} {after : ℕ} {s : Stop Status} (view : X → List Part) → position < count
        → Follows refuses view held_now kept now new between after (Err s) (more_plan position (part_name prefix position) parts)
        → Follows refuses (λ (ps : List Part). ps) held kept old new before after (Err s) whole
    on_stop {X} {kept} {new} {after} {s} view l step = on.on kept new after (Err s)
        (subst (λ (p : Plan (List Part) Status). Follows refuses (λ (ps : List Part). ps) held_now kept now new between after (Err s) p) (sym (rest_is l))
        (stop_follows (rest_plan (position + 1) (names_left prefix count (position + 1))) step))

    pub on_last : (out : List Part) → out ≡ parts → count ≤ position → Follows refuses (λ (ps : List Part). ps) held held_now old now before between (Ok out) whole
    unfolding and_then parts_plan
    on_last out same l = on.on held_now now between (Ok out)
        (judge_follows (ap (λ (names : List (List ℕ)). rest_plan position names parts) (names_last prefix count position l) ∙ ap (λ (ps : List Part). Answer ps) (append-nil parts ∙ sym same)))
