-- What contracts see of an exchange and of a port, and what an exchange keeps of its numbers. This project's own.
use Rattle.std.specs.Prelude.{◌≡◌, ℕ, ◌^◌, ◌<◌, List}
use Rattle.atomic_table.specs.Seated.{TableId}
use Rattle.nr_exchange.specs.declared.note.Note.{Note}
use Rattle.nr_exchange.specs.Plan.{Plan}
use Rattle.nr_exchange.specs.Places.{words, places}

pub record ExchangeView (P : Type 0) : Type 0 where
  pub name : TableId
  pub run : P
  -- the seats of its ports, in order of number
  pub seats : List ℕ

pub record PortView (P : Type 0) : Type 0 where
  pub name : TableId
  -- its seat at the exchange's table, which it keeps
  pub seat : ℕ
  pub note : Note P

-- an exchange has as many words and places as its run asks for
pub record IsSized {L : Type 0} (p : Plan L) (name : TableId) (shards : ℕ) : Type 0 where
  pub shards_is : shards ≡ p.shards
  pub words_are : name.words ≡ words p
  pub slots : name.slots ≡ places p
  pub small : places p < 2 ^ 64
