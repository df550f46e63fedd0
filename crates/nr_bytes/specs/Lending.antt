-- Of this project's own: what a list and bytes are once the loan of their vector ends.
use Rattle.std.specs.Borrow.{Lends, Fml, RattleType, MutBor}
use Rattle.std.specs.contracts.alloc.Global as global
use Rattle.std.specs.contracts.vec.Vec as vec
use Rattle.std.specs.contracts.impls.GlobalAllocator.TheImpl.{ghosts}
use Rattle.std.specs.Borrow.{u8}
use Rattle.std.specs.Global.{Vec}
use Rattle.std.specs.Prelude.{List, ℕ}
use Rattle.nr_bytes.specs.contracts.list.List as list
use Rattle.nr_bytes.specs.contracts.blob.Blob as blob

abbrev pub lends_items : (T : RattleType) → MutBor (List T.Denot) → MutBor (Vec T.Denot) → Fml
lends_items T s r = Lends (list.the_row T) (vec.the_row T global.the_row ghosts) s r (λ w. w.items)

abbrev pub lends_bytes : MutBor (List ℕ) → MutBor (Vec ℕ) → Fml
lends_bytes s r = Lends blob.the_row (vec.the_row u8 global.the_row ghosts) s r (λ w. w.items)
