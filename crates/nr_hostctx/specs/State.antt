-- What the bindings of a call work on, as data. After the NEAR Nomicon, "Runtime Specification", VMContext and
-- Bindings Specification.
use Rattle.std.specs.Prelude.{◌≡◌, ℕ, Bool, [], length}
use Rattle.nr_config.specs.Config.{Config}
use Rattle.nr_guest.specs.Guest.{no_registers}
use Rattle.nr_promises.specs.Book.{new_book}
use Rattle.nr_state.specs.View.{StateView, with_world}
use Rattle.nr_state.specs.World.{World, no_world}
use Rattle.nr_state.specs.declared.calls.CallContext.{CallContext}
use Rattle.nr_state.specs.declared.calls.CallEnd.{CallEnd}
use Rattle.nr_state.specs.declared.calls.Returned.TheVariants.{Value}
use Rattle.nr_triedef.specs.declared.store.Store.{Ghosts}
use Rattle.nr_hostctx.specs.declared.context.HostContext.{HostContext}
pub use Rattle.nr_hostctx.specs.declared.seen.HostState.{HostState}
pub use Rattle.nr_hostctx.specs.declared.seen.Gas.{Gas}

-- ---- as the call begins
abbrev pub no_gas : ℕ → Gas
no_gas limit = record { burnt = 0; promised = 0; limit = limit }

abbrev pub fresh : World → CallContext → Config → HostState
fresh w x c =
    record {
      context = x;
      config = c;
      gas = no_gas x.gas;
      registers = no_registers c;
      guest = [];
      world = w;
      book = new_book x.current x c;
      logs = [];
      returned = Value [];
    }

-- ---- as it ends
abbrev pub end_of : HostState → CallEnd
end_of s =
    record {
      burnt = s.gas.burnt;
      promised = s.gas.promised;
      returned = s.returned;
      made = s.book.made;
      next_ordinal = s.book.next_ordinal;
      logs = s.logs;
    }

-- ---- what a host's fields stand for
abbrev pub state_of : {S : Type 0} {G : Ghosts S} → HostContext S G → HostState
state_of h =
    record {
      context = h.callee.context.now;
      config = h.callee.config.now;
      gas = record { burnt = h.counter.burnt; promised = h.counter.promised; limit = h.counter.limit };
      registers = h.registers;
      guest = h.guest.bytes;
      world = h.callee.state.now.world;
      book = h.book;
      logs = h.logs;
      returned = h.returned;
    }

-- ---- what a host keeps of the state that it borrows
-- the state as it is
abbrev pub state_in : {S : Type 0} {G : Ghosts S} → HostContext S G → StateView
state_in h = h.callee.state.now

-- which one it is
abbrev pub borrowed : {S : Type 0} {G : Ghosts S} → HostContext S G → ℕ
borrowed h = h.callee.state.ghost_name

-- all of it but its world
abbrev pub rest_of : StateView → StateView
rest_of s = with_world s no_world

abbrev pub rest_in : {S : Type 0} {G : Ghosts S} → HostContext S G → StateView
rest_in h = rest_of (state_in h)

-- no call wanted for memory
abbrev pub is_whole : {S : Type 0} {G : Ghosts S} → HostContext S G → Bool
is_whole h = h.callee.whole

-- it borrows the same state, and has a memory of the same size
pub record Keeps {S : Type 0} {G : Ghosts S} (old new : HostContext S G) : Type 0 where
  pub state : borrowed new ≡ borrowed old
  pub size : length new.guest.bytes ≡ length old.guest.bytes
  pub most : new.guest.most ≡ old.guest.most
