-- A run of one leg or two: what is written of it.
use Rattle.std.proofs.Common.{◌≡◌, ℕ, ◌+◌, Bool, true, false, cond, List, ◌++◌, Option, Some, Result, sym, ap, subst, ◌∙◌}
use Rattle.std.specs.Prelude.{nat_lt}
use Rattle.nr_chunk.specs.Chain.{Chain, rules_of}
use Rattle.nr_chunk.specs.Start.{start_tokens}
use Rattle.nr_chunk.specs.declared.tally.Tally.{Tally}
use Rattle.nr_course.specs.Course.{CanRun, CanTurn, Course, leg_by, second}
use Rattle.nr_course.specs.Texts.{course_text, leg_text, legs_by}
use Rattle.nr_course.specs.Totals.{past_of, tally_by}
use Rattle.nr_course.specs.declared.turn.Turn.{Turn}
use Rattle.nr_outcome.specs.Totals.{totals_of}
use Rattle.nr_overlap.specs.Run.{ending}
use Rattle.nr_places.specs.Totals.{plus, tally_at}
use Rattle.nr_report.specs.Lines.{totals_text}
use Rattle.nr_report.specs.declared.totals.Totals.{Totals}
use Rattle.nr_shell.specs.Answers.{Follows}
use Rattle.nr_shell.specs.Plans.{Plan}
use Rattle.nr_shell.specs.declared.stop.Stop.{Stop}

-- what holds of a place and a chain holds of those that they are
pub held_by : {A : Type 0} (P : A → Chain → Type 0) {a b : A} {x y : Chain} → a ≡ b → x ≡ y → P a x → P b y
held_by {A} P {a} {b} {x} {y} e f p = subst (λ (z : Chain). P b z) f (subst (λ (v : A). P v x) e p)

-- a course by its parts
pub course_is : (o : Course) (x : Chain) (t : Option Turn) → x ≡ o.first → t ≡ o.turn
    → ◌≡◌ {A = Course} (record { first = x; turn = t }) o
course_is o x t e f = λ i. record { first = e i; turn = f i }

pub can_turn : (o : Course) (x : Chain) (t : Option Turn) → x ≡ o.first → t ≡ o.turn → CanRun o
    → (turn : Turn) → t ≡ Some turn → CanTurn x turn
can_turn o x t e f can turn is = subst (λ (z : Chain). CanTurn z turn) (sym e) (can.turns turn (sym f ∙ is))

-- both legs: the chunks of the one and then of the other, and the totals of both
pub both_is : (x y : Chain) (t : Turn) (supply : ℕ) (first more chunks text : List ℕ) (past : Tally) (totals : Totals)
    → y ≡ second x t → first ≡ leg_text x → more ≡ leg_text y → chunks ≡ first ++ more → past ≡ past_of x
    → totals ≡ totals_of supply (plus past (tally_at y (ending (rules_of y))))
    → text ≡ chunks ++ totals_text totals
    → text ≡ legs_by x (Some t) ++ totals_text (totals_of supply (tally_by x (Some t)))
both_is x y t supply first more chunks text past totals is a b c d e f =
    f ∙ (λ i. c i ++ totals_text (e i))
    ∙ (λ i. (a i ++ b i) ++ totals_text (totals_of supply (plus (d i) (tally_at y (ending (rules_of y))))))
    ∙ ap
    (λ (z : Chain). (leg_text x ++ leg_text z)
    ++ totals_text (totals_of supply (plus (past_of x) (tally_at z (ending (rules_of z)))))) is

-- the report of the run that it is
pub report_is : (o : Course) (x : Chain) (t : Option Turn) (supply : ℕ) (text : List ℕ) → x ≡ o.first → t ≡ o.turn
    → supply ≡ start_tokens x.config x.start
    → text ≡ legs_by x t ++ totals_text (totals_of supply (tally_by x t)) → text ≡ course_text o
report_is o x t supply text e f told is =
    is ∙ ap (λ (n : ℕ). legs_by x t ++ totals_text (totals_of n (tally_by x t))) told
    ∙ (λ i. legs_by (e i) (f i) ++ totals_text (totals_of (start_tokens (e i).config (e i).start) (tally_by (e i) (f i))))

-- ---- the leg that has a height
module _ (x : Chain) (t : Turn) (h : ℕ) where
  pub first_has : nat_lt (x.start.below + (rules_of x).heights) h ≡ false → leg_by x h (Some t) ≡ x
  first_has e = ap (λ (b : Bool). cond b (second x t) x) e

  pub second_has : nat_lt (x.start.below + (rules_of x).heights) h ≡ true → leg_by x h (Some t) ≡ second x t
  second_has e = ap (λ (b : Bool). cond b (second x t) x) e

-- ---- a call that follows a plan follows one that is the same
pub follows_same : {X A E : Type 0} {refuses : E → Bool} {view : X → A} {held kept : List ℕ → Option (List ℕ)}
    {old new : List (List ℕ)} {before after : ℕ} {result : Result X (Stop E)} {p q : Plan A E} → p ≡ q
    → Follows refuses view held kept old new before after result p
    → Follows refuses view held kept old new before after result q
follows_same {X} {A} {E} {refuses} {view} {held} {kept} {old} {new} {before} {after} {result} e follows =
    subst (λ (plan : Plan A E). Follows refuses view held kept old new before after result plan) e follows
