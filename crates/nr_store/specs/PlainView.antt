-- What a plain store stands for. This project's own.
use Rattle.std.specs.Prelude.{◌≡◌, ◌+◌, ◌≤◌, length, []}
use Rattle.std.specs.List.{AllByRecursion}
use Rattle.nr_triedef.specs.Stores.{IsSized}
use Rattle.nr_store.specs.Contents.{StoreView}
use Rattle.nr_store.specs.Plain.{held_in, seen, HaveSlots, AreApart, InOrder}
use Rattle.nr_store.specs.declared.plain.PlainStore.TheInside.{Inside}

abbrev pub plain_view : Inside → StoreView
plain_view s =
    record {
      contents = held_in s.slots.entries;
      marks = seen (held_in s.slots.entries) s.log.items s.starts s.standing;
      spare = s.spare;
    }

-- at most eight checkpoints stand and are spare, the log can be taken back, and what is held and was saved keeps
-- within the sizes
pub record IsPlain (s : Inside) : Type 0 where
  pub few : s.standing + s.spare ≤ 8
  pub slots : HaveSlots s.slots.entries s.log.items
  pub apart : AreApart s.log.items
  pub order : InOrder s.starts s.standing (length s.log.items)
  pub none : s.standing ≡ 0 → s.log.items ≡ []
  pub sizes : IsSized (held_in s.slots.entries)
  pub saw : AllByRecursion IsSized (seen (held_in s.slots.entries) s.log.items s.starts s.standing)
