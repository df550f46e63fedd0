-- The ports of a new exchange have published and claimed nothing, and a worker begins with one.
use Rattle.std.proofs.Common.{◌≡◌, ℕ, zero, suc, ◌+◌, ◌<◌, List, [], ◌∷◌, Some, length, get_or, replicate, refl, sym, ap, ◌∙◌, subst, arith}
use Rattle.std.specs.Prelude.{slice_get}
use Rattle.std.proofs.lemmas.List.{length-replicate}
use native.Mathlib.Decide.{ℕ_discrete}
use Rattle.nr_overlap.specs.Rules.{Rules}
use Rattle.nr_overlap.proofs.Basics.{some_alike}
use Rattle.nr_exchange.specs.declared.planned.Serial.{Serial}
use Rattle.nr_exchange.specs.Notes.{no_link, no_room}
use Rattle.nr_exchange.specs.Views.{ExchangeView, PortView}
use Rattle.nr_exchange.specs.Ports.{start_port, AreMade}
use Rattle.nr_workers.specs.Stages.{IsFresh}
use Rattle.nr_workers.specs.Each.{EachFrom}
use Rattle.nr_workers.specs.Shards.{AreFresh}

no_claim : (n t : ℕ) → (get_or (replicate n no_link) t no_link).claimed ≡ 0
no_claim zero t = refl
no_claim (suc n) zero = refl
no_claim (suc n) (suc t) = no_claim n t

module _ {P W K L R : Type 0} (rules : P → Rules W K L R) (e : ExchangeView (Serial P W K L R)) where
  starts : (s made : ℕ) → s < (rules e.run.0).shards → IsFresh rules e (start_port e (rules e.run.0).shards s made) × ((start_port e (rules e.run.0).shards s made).note.shard ≡ s)
  starts s made lt = (
    record {
      port_of = record { name = refl; run = refl; seat = refl; inside = lt; linked = length-replicate (rules e.run.0).shards no_link; roomed = length-replicate (rules e.run.0).shards no_room };
      number_is = refl;
      claimed = λ t inside. no_claim (rules e.run.0).shards t;
    },
    refl,
  )

  fresh_from : (n : ℕ) (ports all : List (PortView (Serial P W K L R))) → AreMade e (rules e.run.0).shards (rules e.run.0).shards all → ((k : ℕ) → slice_get ports k ≡ slice_get all (n + k)) → length all ≡ n + length ports
      → EachFrom (λ s port. IsFresh rules e port × (port.note.shard ≡ s)) n ports
  fresh_from n [] all made same long = tt
  fresh_from n (port ∷ ports) all made same long = (here (ℕ_discrete n 0), fresh_from (n + 1) ports all made (λ k. same (suc k) ∙ ap (slice_get all) (omega arith)) (omega arith))
    where
      below : n < (rules e.run.0).shards
      below = let a = made.all in omega arith

      this : (other : PortView (Serial P W K L R)) → slice_get all n ≡ Some other → port ≡ other
      this other e = some_alike port other (same 0 ∙ ap (slice_get all) (omega arith) ∙ e)

      here : Dec (n ≡ 0) → IsFresh rules e port × (port.note.shard ≡ n)
      here (yes zero_is) =
          subst (λ p. IsFresh rules e p × (p.note.shard ≡ n)) (sym (this (start_port e (rules e.run.0).shards 0 (rules e.run.0).shards) (ap (slice_get all) zero_is ∙ made.front)))
          (let s = starts 0 (rules e.run.0).shards (omega arith) in (s.0, s.1 ∙ sym zero_is))
      here (no apart) = subst (λ p. IsFresh rules e p × (p.note.shard ≡ n)) (sym (this (start_port e (rules e.run.0).shards n 0) (made.others n (omega arith) below))) (starts n 0 below)

  pub all_fresh : (ports : List (PortView (Serial P W K L R))) → AreMade e (rules e.run.0).shards (rules e.run.0).shards ports → AreFresh rules e ports
  all_fresh ports made = fresh_from 0 ports ports made (λ k. ap (slice_get ports) (omega arith)) (omega arith)
