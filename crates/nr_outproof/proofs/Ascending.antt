-- Two ways of the same sides: a level up, and where they meet.
use Rattle.std.proofs.Common.{◌≡◌, ◌≢◌, ℕ, ◌<◌, ◌≤◌, List, [], ◌∷◌, length, get_or, drop, refl, sym, ap, ◌∙◌, arith, inl, inr}
use Rattle.sha2.specs.Sha256.{sha256}
use Rattle.sha2.proofs.Facts256.{length-sha256}
use Rattle.nr_ids.specs.declared.key.Hash32.{Hash32}
use Rattle.nr_outproof.specs.declared.levels.Side.{Side}
use Rattle.nr_outproof.specs.Meeting.{Apart, MeetsAt}
use Rattle.nr_outproof.specs.Tree.{climb, joined, joined_text, IsOnWay}
use Rattle.nr_outproof.proofs.Differing.{joined_differ}

pub same_length : (m n : List ℕ) → length (sha256 m) ≡ length (sha256 n)
same_length m n = length-sha256 m ∙ sym (length-sha256 n)

-- of lists with a first item each
abbrev Above : List Side → Hash32 → List Hash32 → Hash32 → List Hash32 → List Side → Hash32 → List Hash32 → Hash32 → List Hash32 → Side → Hash32 → Hash32 → Type 0
Above way a path b others sides top rest other other_rest side one two =
    joined side top one ≢ joined side other two → Apart way a path b others (drop 1 sides) (joined side top one) (drop 1 rest) (joined side other two) (drop 1 other_rest)

above : (way : List Side) (a : Hash32) (path : List Hash32) (b : Hash32) (others : List Hash32) (sides : List Side) (top : Hash32) (rest : List Hash32) (other : Hash32) (other_rest : List Hash32) (d : Side) (e f : Hash32)
    → Apart way a path b others sides top rest other other_rest → 1 ≤ length sides
    → Above way a path b others sides top rest other other_rest (get_or sides 0 d) (get_or rest 0 e) (get_or other_rest 0 f)
unfolding climb IsOnWay
above way a path b others [] top rest other other_rest d e f apart some differ = absurd (omega arith)
above way a path b others (side ∷ sides) top [] other other_rest d e f apart some differ = absurd (omega (arith, apart.first_long))
above way a path b others (side ∷ sides) top (one ∷ rest) other [] d e f apart some differ = absurd (omega (arith, apart.second_long))
above way a path b others (side ∷ sides) top (one ∷ rest) other (two ∷ other_rest) d e f apart some differ = record {
  differ = differ;
  alike = same_length (joined_text side top one) (joined_text side other two);
  first_long = omega (arith, apart.first_long);
  second_long = omega (arith, apart.second_long);
  meet = apart.meet;
  first_way = λ text on. apart.first_way text (inr on);
  second_way = λ text on. apart.second_way text (inr on);
}

pub apart_above : (way : List Side) (a : Hash32) (path : List Hash32) (b : Hash32) (others : List Hash32)
    (sides : List Side) (top : Hash32) (rest : List Hash32) (other : Hash32) (other_rest : List Hash32) (d : Side)
    (e f : Hash32) (more : List Side) (up : Hash32) (more_rest : List Hash32) (other_up : Hash32)
    (more_other : List Hash32)
    → Apart way a path b others sides top rest other other_rest → 1 ≤ length sides
    → more ≡ drop 1 sides → more_rest ≡ drop 1 rest → more_other ≡ drop 1 other_rest
    → up ≡ joined (get_or sides 0 d) top (get_or rest 0 e) → other_up ≡ joined (get_or sides 0 d) other (get_or other_rest 0 f) → up ≢ other_up
    → Apart way a path b others more up more_rest other_up more_other
apart_above way a path b others sides top rest other other_rest d e f more up more_rest other_up more_other apart some one two three is other_is differ =
    rw (one, two, three, is, other_is) (above way a path b others sides top rest other other_rest d e f apart some (λ same. differ (is ∙ same ∙ sym other_is)))

meets : (way : List Side) (a : Hash32) (path : List Hash32) (b : Hash32) (others : List Hash32) (sides : List Side) (top : Hash32) (rest : List Hash32) (other : Hash32) (other_rest : List Hash32) (d : Side) (e f : Hash32)
    → Apart way a path b others sides top rest other other_rest → 1 ≤ length sides
    → joined (get_or sides 0 d) top (get_or rest 0 e) ≡ joined (get_or sides 0 d) other (get_or other_rest 0 f)
    → MeetsAt way a path b others (joined_text (get_or sides 0 d) top (get_or rest 0 e)) (joined_text (get_or sides 0 d) other (get_or other_rest 0 f))
unfolding IsOnWay
meets way a path b others [] top rest other other_rest d e f apart some same = absurd (omega arith)
meets way a path b others (side ∷ sides) top [] other other_rest d e f apart some same = absurd (omega (arith, apart.first_long))
meets way a path b others (side ∷ sides) top (one ∷ rest) other [] d e f apart some same = absurd (omega (arith, apart.second_long))
meets way a path b others (side ∷ sides) top (one ∷ rest) other (two ∷ other_rest) d e f apart some same = record {
  different = joined_differ side top other one two apart.alike apart.differ;
  one_hash = ap (λ (h : Hash32). h.0) same;
  first_way = apart.first_way (joined_text side top one) (inl refl);
  second_way = apart.second_way (joined_text side other two) (inl refl);
}

pub apart_meets : (way : List Side) (a : Hash32) (path : List Hash32) (b : Hash32) (others : List Hash32) (sides : List Side) (top : Hash32) (rest : List Hash32) (other : Hash32) (other_rest : List Hash32) (d : Side) (e f : Hash32) (up other_up : Hash32) (first second : List ℕ)
    → Apart way a path b others sides top rest other other_rest → 1 ≤ length sides
    → up ≡ joined (get_or sides 0 d) top (get_or rest 0 e) → other_up ≡ joined (get_or sides 0 d) other (get_or other_rest 0 f) → up ≡ other_up
    → first ≡ joined_text (get_or sides 0 d) top (get_or rest 0 e) → second ≡ joined_text (get_or sides 0 d) other (get_or other_rest 0 f)
    → MeetsAt way a path b others first second
apart_meets way a path b others sides top rest other other_rest d e f up other_up first second apart some is other_is same first_is second_is =
    rw (first_is, second_is) (meets way a path b others sides top rest other other_rest d e f apart some (sym is ∙ same ∙ other_is))

-- at the end of the ways there is no difference left
pub apart_end : (way : List Side) (a : Hash32) (path : List Hash32) (b : Hash32) (others : List Hash32) (sides : List Side) (top : Hash32) (rest : List Hash32) (other : Hash32) (other_rest : List Hash32)
    → Apart way a path b others sides top rest other other_rest → length sides < 1 → ⊥
unfolding climb
apart_end way a path b others [] top rest other other_rest apart e = apart.differ apart.meet
apart_end way a path b others (side ∷ sides) top rest other other_rest apart e = absurd (omega (arith, e))
