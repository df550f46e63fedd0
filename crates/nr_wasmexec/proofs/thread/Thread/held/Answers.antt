-- The goals of `thread::Thread::held` that no tactic closes.
use Rattle.std.proofs.Common.{◌≡◌, ◌+◌, sym, ◌∙◌, ap, take, drop, length, arith, length-drop}
use Rattle.std.specs.Prelude.{reverse}
use Rattle.std.proofs.lemmas.List.{length-take-le, length-reverse}
use Rattle.nr_wasmexec.specs.Place.{held_in, Place}
use Rattle.nr_wasmexec.specs.Thread.{contexts_of}
use Rattle.nr_wasmexec.proofs.Segments.{held_are}
use Rattle.nr_wasmexec.proofs.thread.Thread.held.Goals as goal

pub returns : goal.returns
returns c =
    let i = c.self.inside in
    let ops = i.operands.items in
    let ls = i.locals.items in
    let a : length (take i.height ops) ≡ i.height = length-take-le i.height ops c.self.invariant.in_operands in
    let b : length (take i.base ls) ≡ i.base = length-take-le i.base ls c.self.invariant.in_locals in
    let held : held_in (contexts_of (take i.height ops) (take i.base ls) (reverse i.controls.items)) ≡ length (take i.height ops) + length (take i.base ls) = held_are (reverse i.controls.items) (take i.height ops) (take i.base ls) (rw (a, b) c.self.invariant.stacked) in
    let sizes : c.len.result + c.len-2.result ≡ length (take i.height ops) + length (take i.base ls) + length (drop i.base ls) + length (reverse (drop i.height ops)) = omega (arith, c.len.ensures, c.len-2.ensures, i.operands.ok.0, ls_ok i.locals.ok.0, a, b, length-reverse (drop i.height ops), length-drop i.height ops, length-drop i.base ls, c.self.invariant.in_operands, c.self.invariant.in_locals) in
    sizes ∙ (ap (λ n. n + length (drop i.base ls) + length (reverse (drop i.height ops))) (sym held) ∙ ap (λ (p : Place). held_in p.contexts + length p.locals + length p.values) c.self.view_is)
  where
    ls_ok : {A : Type 0} → A → A
    ls_ok x = x
