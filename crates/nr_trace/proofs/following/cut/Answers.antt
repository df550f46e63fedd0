-- The goals of `following::cut` that no tactic closes.
use Rattle.std.proofs.Common.{◌≡◌, ◌∙◌, ℕ, List, None, Option, Some, ap, sym}
use Rattle.std.specs.Prelude.{option_and_then, slice_get}
use Rattle.nr_trace.specs.Trail.{back_to, caller_of, cut_off, trail_of}
use Rattle.nr_trace.specs.declared.trail.Level.{Level}
use Rattle.nr_trace.proofs.following.cut.Goals as goal

pub returns-in-None : goal.returns-in-None
returns-in-None c =
    let t = trail_of c.args.trail.now in
    let none : None ≡ option_and_then caller_of (slice_get t.levels c.args.count) =
    sym c.in-None.is ∙ (c.caller_at.ensures ∙ ap (λ (ls : List Level). option_and_then caller_of (slice_get ls c.args.count)) c.deref.ensures.value) in
    ap (λ (ls : List Level). record t { levels = ls }) c.truncate.ensures.items
    ∙ ap (λ (x : Option (ℕ × ℕ)). back_to x (cut_off c.args.count t)) none

pub returns-in-Some : goal.returns-in-Some
returns-in-Some c =
    let t = trail_of c.args.trail.now in
    let some : Some (c.in-Some.func, c.in-Some.base) ≡ option_and_then caller_of (slice_get t.levels c.args.count) =
    sym c.in-Some.is ∙ (c.caller_at.ensures ∙ ap (λ (ls : List Level). option_and_then caller_of (slice_get ls c.args.count)) c.deref.ensures.value) in
    c.leave_call.ensures ∙ ap (λ (x : Option (ℕ × ℕ)). back_to x (cut_off c.args.count t)) some
