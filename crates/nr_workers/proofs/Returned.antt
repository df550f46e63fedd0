-- The ports that come back are on the seats of those that were taken.
use Rattle.std.proofs.Common.{◌≡◌, ℕ, suc, List, [], ◌∷◌, Some, Ok, Err, length, map, refl, sym, ap, ◌∙◌, arith}
use Rattle.std.specs.Prelude.{IfOk, Result, slice_get}
use Rattle.nr_overlap.specs.Rules.{Rules}
use Rattle.nr_exchange.specs.declared.planned.Serial.{Serial}
use Rattle.nr_exchange.specs.Ports.{AreMade, seat_of}
use Rattle.nr_exchange.specs.Views.{ExchangeView, PortView}
use Rattle.nr_workers.specs.Outcome.{HaveDoneAll}
use Rattle.nr_workers.specs.Stages.{IsFresh}
use Rattle.nr_workers.proofs.Each.{each_get}
use Rattle.nr_workers.proofs.Fresh.{all_fresh}

same_seats : {P : Type 0} (xs ys : List (PortView P)) → length xs ≡ length ys → ((s : ℕ) (x y : PortView P) → slice_get xs s ≡ Some x → slice_get ys s ≡ Some y → x.seat ≡ y.seat)
    → map (λ x. x.seat) xs ≡ map (λ y. y.seat) ys
same_seats [] [] long same = refl
same_seats [] (y ∷ ys) long same = absurd (omega arith)
same_seats (x ∷ xs) [] long same = absurd (omega arith)
same_seats (x ∷ xs) (y ∷ ys) long same =
    ap (λ k. k ∷ map (λ z. z.seat) xs) (same 0 x y refl refl)
    ∙ ap (λ seats. y.seat ∷ seats) (same_seats xs ys (omega arith) (λ s a b. same (suc s) a b))

module _ {P W K L R : Type 0} (rules : P → Rules W K L R) (e : ExchangeView (Serial P W K L R)) where
  pub returned : (taken ports : List (PortView (Serial P W K L R))) → AreMade e (rules e.run.0).shards (rules e.run.0).shards taken → HaveDoneAll rules e ports
      → map (λ p. p.seat) ports ≡ map (λ p. p.seat) taken
  returned taken ports made done =
      same_seats ports taken (done.all ∙ sym made.all)
      (λ s x y x_there y_there.
      let x_is = done.each s x x_there in
      let y_is = each_get (λ k p. IsFresh rules e p × (p.note.shard ≡ k)) taken s y (all_fresh rules e taken made) y_there in
      x_is.port_of.seat ∙ ap (seat_of e) x_is.shard_is ∙ sym (y_is.0.port_of.seat ∙ ap (seat_of e) y_is.1))

pub on_ok : {A E : Type 0} {F G : A → Type 0} (r : Result A E) → IfOk r F → ((x : A) → F x → G x) → IfOk r G
on_ok (Ok x) p f = f x p
on_ok (Err e) p f = tt
