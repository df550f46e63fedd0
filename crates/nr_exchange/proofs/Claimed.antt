-- What a port has claimed, after each of its steps.
use Rattle.std.proofs.Common.{◌≡◌, ◌≢◌, ℕ, ◌+◌, ◌<◌, List, Result, Ok, Err, length, refl, ap, ◌∙◌, get_or-set_same, get_or-set_other}
use Rattle.nr_exchange.specs.declared.note.Link.{Link}
use Rattle.nr_exchange.specs.declared.note.Note.{Note}
use Rattle.nr_exchange.specs.declared.port.Full.{Full}
use Rattle.nr_exchange.specs.Plan.{Plan}
use Rattle.nr_exchange.specs.Notes.{no_link, link, looked, claims, gave_back}
use Rattle.nr_exchange.specs.Ports.{Publishes}
use Rattle.nr_exchange.proofs.Lists.{field_stays}

module _ {P : Type 0} (v : Note P) where
  -- a load leaves each claim
  pub looked_claims : (s n i : ℕ) → (link (looked v s n) i).claimed ≡ (link v i).claimed
  looked_claims s n i = field_stays (λ l. l.claimed) v.links s i _ refl

  -- and a take moves that of its source
  pub taken_here : (s n h : ℕ) → s < length v.links → (link (gave_back (claims v s n h) s) s).claimed ≡ h
  taken_here s n h lt = field_stays (λ l. l.claimed) (claims v s n h).links s s _ refl ∙ ap (λ (l : Link). l.claimed) (get_or-set_same v.links s _ no_link lt)

  pub taken_else : (s n h i : ℕ) → i ≢ s → (link (gave_back (claims v s n h) s) i).claimed ≡ (link v i).claimed
  taken_else s n h i ne = ap (λ (l : Link). l.claimed) (get_or-set_other (claims v s n h).links s i _ no_link ne ∙ get_or-set_other v.links s i _ no_link ne)

-- a try to publish leaves the claims, and the shard
pub record Stays {P : Type 0} (v w : Note P) : Type 0 where
  pub shard_is : w.shard ≡ v.shard
  pub links_are : w.links ≡ v.links

pub published_stays : {P L : Type 0} (p : Plan L) (lists : List L) (v w : Note P) (answer : Result (Unit {0}) (Full L)) → Publishes p lists v answer w → Stays v w
published_stays p lists v w (Ok _) (u, room, is) = record {
  shard_is = ap (λ (x : Note _). x.shard) is ∙ ap (λ (x : Note _). x.shard) room.rest;
  links_are = ap (λ (x : Note _). x.links) is ∙ ap (λ (x : Note _). x.links) room.rest;
}
published_stays p lists v w (Err full) (same, none) = record {
  shard_is = ap (λ (x : Note _). x.shard) none.found.3 ∙ ap (λ (x : Note _). x.shard) none.found.1.rest;
  links_are = ap (λ (x : Note _). x.links) none.found.3 ∙ ap (λ (x : Note _). x.links) none.found.1.rest;
}

-- the number rises where the lists are published
pub published_number : {P L : Type 0} (p : Plan L) (lists : List L) (v w : Note P) → Publishes p lists v (Ok tt) w → w.number ≡ v.number + 1
published_number p lists v w (u, room, is) = ap (λ (x : Note _). x.number) is ∙ ap (λ (x : Note _). x.number + 1) room.rest

pub refused_number : {P L : Type 0} (p : Plan L) (lists : List L) (v w : Note P) (full : Full L) → Publishes p lists v (Err full) w → w.number ≡ v.number
refused_number p lists v w full (same, none) = ap (λ (x : Note _). x.number) none.found.3 ∙ ap (λ (x : Note _). x.number) none.found.1.rest
