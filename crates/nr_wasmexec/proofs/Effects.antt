-- Where an effect leads, beside a guest and a host.
use Rattle.std.proofs.Common.{◌≡◌, ◌≢◌, Result, Ok, Err, refl, sym, ap, ◌∙◌}
use Rattle.nr_wasmtypes.specs.Code.{after}
use Rattle.nr_wasmmem.specs.Meaning.{HostMeaning}
use Rattle.nr_wasmmem.specs.declared.guest.Guest.{Guest}
use Rattle.nr_wasmexec.specs.declared.stop.Stop.{Stop}
use Rattle.nr_wasmexec.specs.declared.stop.Stop.TheVariants as stop
use Rattle.nr_wasmexec.specs.Reduction.{Effect, Goes, Writes, Opens, Invokes, Asks, Branches, Returns, Traps, Stuck, Trap, Runtime}
use Rattle.nr_wasmexec.specs.Place.{Place, Move, At, Trapped, Lost, Elsewhere, Led, Leads, Halts, Nowhere, with_store, led}
use Rattle.nr_wasmexec.specs.Executing.{by, Moves, Change, Becomes, Fails, Missing, Called, with_guest, changed, Changes, Ends, led_to}

module _ {S : Type 0} (m : HostMeaning S) (s : Runtime S) (p : Place) where
  abbrev leads_to : Effect → Led S
  leads_to e = led m s p.locals (after p.code) p.contexts e

  -- the host isn't asked, and the guest stays
  quiet : (e : Effect) (move : Move) → by p e ≡ move → move ≢ Elsewhere → leads_to e ≡ with_store s move
  quiet (Goes own values) move h ne = ap (with_store s) h
  quiet (Writes guest values) move h ne = absurd (ne (sym h))
  quiet (Opens values n again body) move h ne = ap (with_store s) h
  quiet (Invokes values n own body) move h ne = ap (with_store s) h
  quiet (Asks name args values) move h ne = absurd (ne (sym h))
  quiet (Branches depth values) move h ne = ap (with_store s) h
  quiet (Returns values) move h ne = ap (with_store s) h
  quiet (Traps kind) move h ne = ap (with_store s) h
  quiet Stuck move h ne = ap (with_store s) h

  abbrev change_led : Change → Led S
  change_led (Becomes guest q) = Leads (record s { guest = guest }) q
  change_led (Fails kind) = Halts s (Trap kind)
  change_led Missing = Nowhere
  change_led Called = Nowhere

  beside : (move : Move) → with_store s move ≡ change_led (with_guest s.guest move)
  beside (At q) = refl
  beside (Trapped kind) = refl
  beside Lost = refl
  beside Elsewhere = refl

  -- the host isn't asked
  calm : (e : Effect) (change : Change) → changed s.guest p e ≡ change → change ≢ Called → leads_to e ≡ change_led change
  calm (Goes own values) change h ne = beside (by p (Goes own values)) ∙ ap change_led h
  calm (Writes guest values) change h ne = ap change_led h
  calm (Opens values n again body) change h ne = beside (by p (Opens values n again body)) ∙ ap change_led h
  calm (Invokes values n own body) change h ne = beside (by p (Invokes values n own body)) ∙ ap change_led h
  calm (Asks name args values) change h ne = absurd (ne (sym h))
  calm (Branches depth values) change h ne = beside (by p (Branches depth values)) ∙ ap change_led h
  calm (Returns values) change h ne = beside (by p (Returns values)) ∙ ap change_led h
  calm (Traps kind) change h ne = beside (by p (Traps kind)) ∙ ap change_led h
  calm Stuck change h ne = beside (by p Stuck) ∙ ap change_led h

pub moves_end : {S : Type 0} (m : HostMeaning S) (host : S) (guest : Guest) (old new : Place) (e : Effect) (r : Result (Unit {0}) Stop) → Moves r new (by old e) → Ends r host guest new (led_to m host guest old e)
moves_end m host guest old new e (Ok u) h = quiet m (record { host = host; guest = guest }) old e (At new) h (λ is. cc)
moves_end m host guest old new e (Err (stop.Trap kind)) h = quiet m (record { host = host; guest = guest }) old e (Trapped kind) h (λ is. cc)
moves_end m host guest old new e (Err stop.GasExceeded) h = absurd h
moves_end m host guest old new e (Err (stop.HostFault kind)) h = absurd h
moves_end m host guest old new e (Err stop.Lost) h = quiet m (record { host = host; guest = guest }) old e Lost h (λ is. cc)
moves_end m host guest old new e (Err stop.Memory) h = tt

pub changes_end : {S : Type 0} (m : HostMeaning S) (host : S) (before guest : Guest) (old new : Place) (e : Effect) (r : Result (Unit {0}) Stop) → Changes r before guest new (changed before old e) → Ends r host guest new (led_to m host before old e)
changes_end m host before guest old new e (Ok u) h = calm m (record { host = host; guest = before }) old e (Becomes guest new) h (λ is. cc)
changes_end m host before guest old new e (Err (stop.Trap kind)) h =
    calm m (record { host = host; guest = before }) old e (Fails kind) h.0 (λ is. cc) ∙ ap (λ g. Halts (record { host = host; guest = g }) (Trap kind)) (sym h.1)
changes_end m host before guest old new e (Err stop.GasExceeded) h = absurd h
changes_end m host before guest old new e (Err (stop.HostFault kind)) h = absurd h
changes_end m host before guest old new e (Err stop.Lost) h = calm m (record { host = host; guest = before }) old e Missing h (λ is. cc)
changes_end m host before guest old new e (Err stop.Memory) h = tt
