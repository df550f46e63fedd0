-- What is known of an exchange and a port that are open.
use Rattle.std.proofs.Common.{◌≡◌, ◌<◌, ℕ, sym, subst}
use Rattle.nr_exchange.specs.Plan.{Plan, IsNextChunk}
use Rattle.nr_exchange.specs.Notes.{link}
use Rattle.nr_exchange.specs.Ports.{IsPortOf}
use Rattle.nr_exchange.specs.Views.{ExchangeView, PortView}

module _ {P L : Type 0} (plan : P → Plan L) where
  pub opened : (e e' : ExchangeView P) (q q' : PortView P) → e' ≡ e → q' ≡ q → IsPortOf plan e q → IsPortOf plan e' q'
  opened e e' q q' is is' port = subst (λ (x : ExchangeView P × PortView P). IsPortOf plan x.0 x.1) (λ k. (sym is k, sym is' k)) port

  pub below : (e e' : ExchangeView P) (s : ℕ) → e' ≡ e → s < (plan e.run).shards → s < (plan e'.run).shards
  below e e' s is h = subst (λ (x : ExchangeView P). s < (plan x.run).shards) (sym is) h

  pub next_of : (e e' : ExchangeView P) (q q' : PortView P) (s h : ℕ) → e' ≡ e → q' ≡ q → IsNextChunk (plan e.run) s (link q.note s).claimed h → IsNextChunk (plan e'.run) s (link q'.note s).claimed h
  next_of e e' q q' s h is is' next = subst (λ (x : ExchangeView P × PortView P). IsNextChunk (plan x.0.run) s (link x.1.note s).claimed h) (λ k. (sym is k, sym is' k)) next
