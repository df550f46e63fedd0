-- Ports that are split off, one after another, and the exchange that knows their seats.
use Rattle.std.proofs.Common.{◌≡◌, ◌+◌, ◌<◌, ℕ, zero, suc, List, [], ◌∷◌, ◌++◌, map, Option, Some, length, set, refl, sym, ap, ◌∙◌, subst, arith, length-append}
use Rattle.std.specs.Prelude.{slice_get, slice_index}
use Rattle.atomic_table.specs.Seated.{TableId}
use native.Mathlib.Decide.{ℕ_discrete}
use Rattle.nr_exchange.specs.Views.{ExchangeView, PortView}
use Rattle.nr_exchange.specs.Notes.{fresh}
use Rattle.nr_exchange.specs.Ports.{start_port, AreMade}
use Rattle.nr_exchange.specs.Seats.{IsStart, AreSplit}

pub alike : {A : Type 0} (a b : A) → ◌≡◌ {A = Option A} (Some a) (Some b) → a ≡ b
alike a b e = cc

earlier : {A : Type 0} (xs ys : List A) (i : ℕ) (x : A) → slice_get xs i ≡ Some x → slice_get (xs ++ ys) i ≡ Some x
earlier [] ys i x e = absurd (cc)
earlier (y ∷ xs) ys zero x e = e
earlier (y ∷ xs) ys (suc i) x e = earlier xs ys i x e

at_back : {A : Type 0} (xs : List A) (x : A) (i : ℕ) → i ≡ length xs → slice_get (xs ++ x ∷ []) i ≡ Some x
at_back [] x zero e = refl
at_back [] x (suc i) e = absurd (omega arith)
at_back (y ∷ xs) x zero e = absurd (omega arith)
at_back (y ∷ xs) x (suc i) e = at_back xs x i (omega arith)

module _ {P : Type 0} (table : TableId) (key : P) (n : ℕ) where
  alone : (p : PortView P) → IsStart table key n 0 1 p → AreSplit table key n 1 (p ∷ [])
  alone p is = record { all = refl; front = (p, refl, is); others = λ i above below. absurd (omega arith) }

  pub first : (ports none : List (PortView P)) (p : PortView P) → ports ≡ none ++ p ∷ [] → none ≡ [] → IsStart table key n 0 1 p → AreSplit table key n 1 ports
  first ports none p is none_is start = subst (AreSplit table key n 1) (sym (is ∙ ap (λ (ps : List (PortView P)). ps ++ p ∷ []) none_is)) (alone p start)

  pub more : (k : ℕ) (ports : List (PortView P)) (a b : PortView P) → AreSplit table key n k ports → 0 < k → IsStart table key n 0 (k + 1) a → IsStart table key n k 0 b → AreSplit table key n (k + 1) (set ports 0 a ++ b ∷ [])
  more k [] a b split pos is is' = absurd (let all = split.all in omega arith)
  more k (x ∷ xs) a b split pos is is' = record {
    all = (let all = split.all in let l = length-append xs (b ∷ []) in omega arith);
    front = (a, refl, is);
    others = λ i above below. other i above below (ℕ_discrete i k);
  }
    where
      other : (i : ℕ) → 0 < i → i < k + 1 → Dec (i ≡ k) → (p : PortView P) × (slice_get (a ∷ (xs ++ b ∷ [])) i ≡ Some p) × IsStart table key n i 0 p
      other zero above below d = absurd (omega arith)
      other (suc i) above below (yes same) = (b, at_back xs b i (let all = split.all in omega arith), subst (λ (j : ℕ). IsStart table key n j 0 b) (sym same) is')
      other (suc i) above below (no apart) = let o = split.others (suc i) above (omega arith) in (o.0, earlier xs (b ∷ []) i o.0 o.1, o.2)

-- ---- the exchange that knows their seats
module _ {P : Type 0} where
  seat_at : (ports : List (PortView P)) (i : ℕ) (p : PortView P) → slice_get ports i ≡ Some p → p.seat ≡ slice_index (map (λ q. q.seat) ports) i
  seat_at [] i p is = absurd (cc)
  seat_at (q ∷ ports) zero p is = ap (λ (r : PortView P). r.seat) (sym (alike q p is))
  seat_at (q ∷ ports) (suc i) p is = seat_at ports i p is

  pub are_made : (table : TableId) (key : P) (e : ExchangeView P) (n : ℕ) (ports : List (PortView P)) → e.name ≡ table → e.run ≡ key → e.seats ≡ map (λ q. q.seat) ports
      → AreSplit table key n n ports → AreMade e n n ports
  are_made table key e n ports name run seats split = record {
    all = split.all;
    front = start 0 n split.front;
    others = λ i above below. start i 0 (split.others i above below);
  }
    where
      start : (i made : ℕ) → ((p : PortView P) × (slice_get ports i ≡ Some p) × IsStart table key n i made p) → slice_get ports i ≡ Some (start_port e n i made)
      start i made o = o.1 ∙ ap Some (λ k. record {
        name = (o.2.name_is ∙ sym name) k;
        seat = (seat_at ports i o.0 o.1 ∙ ap (λ (l : List ℕ). slice_index l i) (sym seats)) k;
        note = (o.2.note_is ∙ ap (λ (r : P). fresh r n i made) (sym run)) k;
      })
